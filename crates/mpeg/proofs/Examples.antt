-- Packets of W3, worked out by hand from the paper's text, by computation: the definitions answer what the paper says. Each line would be
-- refused with another number in it.
use Prim.Native.Nat.{ℕ, ◌+◌, ◌/◌, ◌%◌}
use mathlib.Core.Path.{◌≡◌, refl}
use mathlib.Core.Bool.{true, false}
use mathlib.Core.List.{List, [], ◌∷◌, ◌++◌}
use denote.Ref.{Bor}
use lib.ListN.{take, set, replicate}
use Rattle.octets.specs.Stretch.{part, rest, put}
use Rattle.octets.specs.Tests.{none}
use Rattle.ts.specs.Packet.{null_packet}
use Rattle.mpeg.specs.Frame.{good}
use Rattle.mpeg.specs.Write.{Asked, WriteOutcome, bad_frames, left_at, packet_of, carried, count_after, wrote, refused, written_by}
use Rattle.mpeg.specs.Write.{written}
use Rattle.mpeg.specs.HandOut.{source, handed_length, PermitsHandOut}

-- the shortest frame, and one of n + 6 bytes
abbrev short : List ℕ
short = 0xC0 ∷ 0x01 ∷ 0x00 ∷ 0x00 ∷ 0x11 ∷ 0x22 ∷ []

abbrev long : ℕ → List ℕ
long n = 0xC0 ∷ 0x01 ∷ n / 256 ∷ n % 256 ∷ replicate (n + 2) 0xAA

-- these frames, and what the call makes of them; the output is a packet long, or as long as is said
abbrev asked : ℕ → List ℕ → List ℕ → ℕ → ℕ → Asked
asked space bytes lengths place count =
    record { bytes = bytes; lengths = lengths; place = place; count = count; output = replicate space 0 }

abbrev outcome : List ℕ → List ℕ → ℕ → ℕ → WriteOutcome
outcome bytes lengths place count = written (asked 188 bytes lengths place count)

abbrev sent : ℕ → ℕ → List ℕ → WriteOutcome
sent place count packet = record { answer = record { code = 0; place = place; count = count; null = false }; output = packet }

-- no frames, and a place at the end of them or behind it: the null packet, and the count stays as it was given
abbrev null : List ℕ
null = 0x47 ∷ 0x1F ∷ 0xFF ∷ 0x10 ∷ replicate 184 0xFF

nothing_waits : (outcome [] [] 0 5 ≡ record { answer = record { code = 0; place = 0; count = 5; null = true }; output = null })
    × (outcome short (6 ∷ []) 6 15 ≡ record { answer = record { code = 0; place = 6; count = 15; null = true }; output = null })
    × (outcome short (6 ∷ []) 7 47 ≡ record { answer = record { code = 0; place = 7; count = 47; null = true }; output = null })
unfolding written written_by wrote bad_frames good left_at packet_of carried count_after none null_packet part rest put
nothing_waits = (refl, refl, refl)

-- a frame of 6 bytes alone: flag, pointer 0, the frame, and 0xFF; what stands behind the packet stays
alone : (outcome short (6 ∷ []) 0 0 ≡ sent 6 1 (0x47 ∷ 0x5F ∷ 0xFE ∷ 0x10 ∷ 0x00 ∷ (short ++ replicate 177 0xFF)))
    × (written (asked 190 short (6 ∷ []) 0 0) ≡ sent 6 1 (0x47 ∷ 0x5F ∷ 0xFE ∷ 0x10 ∷ 0x00 ∷ (short ++ replicate 177 0xFF ++ (0 ∷ 0 ∷ []))))
unfolding written written_by wrote bad_frames good left_at packet_of carried count_after none part rest put
alone = (refl, refl)

-- the count is written modulo 16, and the next one is one more, modulo 16
counted : (outcome short (6 ∷ []) 0 15 ≡ sent 6 0 (0x47 ∷ 0x5F ∷ 0xFE ∷ 0x1F ∷ 0x00 ∷ (short ++ replicate 177 0xFF)))
    × (outcome short (6 ∷ []) 0 16 ≡ sent 6 1 (0x47 ∷ 0x5F ∷ 0xFE ∷ 0x10 ∷ 0x00 ∷ (short ++ replicate 177 0xFF)))
    × (outcome short (6 ∷ []) 0 0x2E ≡ sent 6 15 (0x47 ∷ 0x5F ∷ 0xFE ∷ 0x1E ∷ 0x00 ∷ (short ++ replicate 177 0xFF)))
unfolding written written_by wrote bad_frames good left_at packet_of carried count_after none part rest put
counted = (refl, refl, refl)

-- A frame of 400 bytes and one of 6 behind it. Of the first, with so many bytes sent, r are left: at its start 0, then 399; 184 and 183; 1
-- before its end, and 0 behind it; then 5 of the second.
abbrev both : List ℕ
both = long 394 ++ short

abbrev both_lengths : List ℕ
both_lengths = 400 ∷ 6 ∷ []

r_found : (left_at both_lengths 0 ≡ 0) × (left_at both_lengths 1 ≡ 399) × (left_at both_lengths 216 ≡ 184)
    × (left_at both_lengths 217 ≡ 183)
    × (left_at both_lengths 399 ≡ 1) × (left_at both_lengths 400 ≡ 0) × (left_at both_lengths 401 ≡ 5) × (left_at both_lengths 406 ≡ 0)
unfolding left_at
r_found = (refl, refl, refl, refl, refl, refl, refl, refl)

-- r = 0, and the frame is longer than a packet: the flag, pointer 0, and 183 bytes
starts : outcome both both_lengths 0 3 ≡ sent 183 4 (0x47 ∷ 0x5F ∷ 0xFE ∷ 0x13 ∷ 0x00 ∷ 0xC0 ∷ 0x01 ∷ 0x01 ∷ 0x8A ∷ replicate 179 0xAA)
unfolding written written_by wrote bad_frames good left_at packet_of carried count_after none part rest put
starts = refl

-- r = 217 and 184: no flag, no pointer, 184 bytes. r = 183: the flag, pointer 183, and the rest of the frame. r = 0: the next one
goes_on : (outcome both both_lengths 183 4 ≡ sent 367 5 (0x47 ∷ 0x1F ∷ 0xFE ∷ 0x14 ∷ replicate 184 0xAA))
    × (outcome both both_lengths 216 4 ≡ sent 400 5 (0x47 ∷ 0x1F ∷ 0xFE ∷ 0x14 ∷ replicate 184 0xAA))
    × (outcome both both_lengths 217 4 ≡ sent 400 5 (0x47 ∷ 0x5F ∷ 0xFE ∷ 0x14 ∷ 0xB7 ∷ replicate 183 0xAA))
    × (outcome both both_lengths 400 4 ≡ sent 406 5 (0x47 ∷ 0x5F ∷ 0xFE ∷ 0x14 ∷ 0x00 ∷ (short ++ replicate 177 0xFF)))
unfolding written written_by wrote bad_frames good left_at packet_of carried count_after none part rest put
goes_on = (refl, refl, refl, refl)

-- r = 182: the second frame begins in the packet's last byte; the packet behind it has pointer 5 and the other five
last_byte : (outcome both both_lengths 218 4 ≡ sent 401 5 (0x47 ∷ 0x5F ∷ 0xFE ∷ 0x14 ∷ 0xB6 ∷ (replicate 182 0xAA ++ (0xC0 ∷ []))))
    × (outcome both both_lengths 401 5
    ≡ sent 406 6 (0x47 ∷ 0x5F ∷ 0xFE ∷ 0x15 ∷ 0x05 ∷ 0x01 ∷ 0x00 ∷ 0x00 ∷ 0x11 ∷ 0x22 ∷ replicate 178 0xFF))
unfolding written written_by wrote bad_frames good left_at packet_of carried count_after none part rest put
last_byte = (refl, refl)

-- the rest of a frame, a whole one and a begun one
three_in_one : outcome (short ++ short ++ long 394) (6 ∷ 6 ∷ 400 ∷ []) 4 9
    ≡ sent 187 10 (0x47 ∷ 0x5F ∷ 0xFE ∷ 0x19 ∷ 0x02 ∷ 0x11 ∷ 0x22 ∷ (short ++ (0xC0 ∷ 0x01 ∷ 0x01 ∷ 0x8A ∷ replicate 171 0xAA)))
unfolding written written_by wrote bad_frames good left_at packet_of carried count_after none part rest put
three_in_one = refl

-- Frames that may not be written, and what their bytes and lengths have otherwise: the first byte is 0xFF; the field says one byte more,
-- one byte less; 5 bytes, and none; 2,049 bytes, where 2,048 may be; the lengths are one byte short of the bytes, and one byte beyond them;
-- the second frame is bad.
abbrev answer : List ℕ → List ℕ → ℕ
answer bytes lengths = (outcome bytes lengths 0 0).answer.code

judged : (answer (set short 0 0xFE) (6 ∷ []) ≡ 0) × (answer (set short 0 0xFF) (6 ∷ []) ≡ 52) × (answer (set short 3 1) (6 ∷ []) ≡ 52)
    × (answer (0xC0 ∷ 0x01 ∷ 0x00 ∷ 0x00 ∷ 0x11 ∷ 0x22 ∷ 0x33 ∷ []) (7 ∷ []) ≡ 52)
    × (answer (0xC0 ∷ 0x01 ∷ 0x00 ∷ 0x00 ∷ 0x11 ∷ []) (5 ∷ []) ≡ 52)
    × (answer short (0 ∷ 6 ∷ []) ≡ 52) × (answer (long 2042) (2048 ∷ []) ≡ 0) × (answer (long 2043) (2049 ∷ []) ≡ 52)
    × (answer (short ++ (0x33 ∷ [])) (6 ∷ []) ≡ 52) × (answer (0xC0 ∷ 0x01 ∷ 0x00 ∷ 0x01 ∷ 0x11 ∷ 0x22 ∷ []) (7 ∷ []) ≡ 52)
    × (answer (short ++ set short 0 0xFF) (6 ∷ 6 ∷ []) ≡ 52) × (answer short [] ≡ 52) × (answer [] (6 ∷ []) ≡ 52)
unfolding written written_by wrote refused bad_frames good left_at packet_of carried count_after none part rest put
judged = (refl, refl, refl, refl, refl, refl, refl, refl, refl, refl, refl, refl, refl)

-- the output is a byte too short: 51, and nothing has changed; a bad frame comes first
too_small : (written (asked 187 short (6 ∷ []) 3 7)
    ≡ record { answer = record { code = 51; place = 3; count = 7; null = false }; output = replicate 187 0 })
    × (written (asked 187 short (5 ∷ []) 3 7)
    ≡ record { answer = record { code = 52; place = 3; count = 7; null = false }; output = replicate 187 0 })
    × ((written (asked 187 [] [] 0 7)).answer.code ≡ 51)
unfolding written written_by refused bad_frames good part rest
too_small = (refl, refl, refl)

-- a packet is handed out whole, and one only
handed-lengths : (handed_length (replicate 187 0) ≡ 0) × (handed_length null ≡ 188) × (handed_length (null ++ null) ≡ 188)
unfolding handed_length
handed-lengths = (refl, refl, refl)

-- from a queue of two packets, of one, of a byte less, and of none; and where the null packet is not whole either. A slice is where it
-- points and its bytes
abbrev at : ℕ → List ℕ → Bor (List ℕ)
at block bytes = record { ref_ptr = (block, 5); now = bytes }

abbrev other : List ℕ
other = 0x47 ∷ replicate 187 0xAA

handed_out : PermitsHandOut (at 1 (other ++ null)) (at 2 null) (at 1 other) × PermitsHandOut (at 1 other) (at 2 null) (at 1 other)
    × PermitsHandOut (at 1 (take 187 other)) (at 2 null) (at 2 null) × PermitsHandOut (at 1 []) (at 2 (null ++ other)) (at 2 null)
    × PermitsHandOut (at 1 (take 187 other)) (at 2 (take 187 null)) (at 2 [])
unfolding source handed_length part
handed_out = (
  record { in_its_source = refl; at_its_front = refl; its_bytes = refl },
  record { in_its_source = refl; at_its_front = refl; its_bytes = refl },
  record { in_its_source = refl; at_its_front = refl; its_bytes = refl },
  record { in_its_source = refl; at_its_front = refl; its_bytes = refl },
  record { in_its_source = refl; at_its_front = refl; its_bytes = refl },
)
