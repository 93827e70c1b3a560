-- M12, the edges of each refusal and of the cut, by computation: the definitions answer what document 01 says. Each line would be refused
-- with another number in it.
use Prim.Native.Nat.{ℕ}
use mathlib.Core.Path.{◌≡◌, refl}
use mathlib.Core.List.{List, [], ◌∷◌, ◌++◌}
use lib.ListN.{replicate}
use Rattle.octets.specs.Stretch.{part, put, joined}
use Rattle.octets.specs.Count.{any, sum_to}
use Rattle.flow.specs.Numbers.{next}
use Rattle.packet.proofs.Examples.{A, B}
use Rattle.sender.specs.declared.Position.{Position}
use Rattle.sender.specs.Cut.{frame_start, cut}
use Rattle.sender.specs.Packet.{packet_of}
use Rattle.sender.specs.Send.{Asked, SendOutcome, cut_for, written, refused, sent_by, sent}
use Rattle.sender.specs.Series.{Job, Turn, series_packets, series_end}

abbrev at : ℕ → ℕ → Position
at frame offset = record { frame = frame; offset = offset }

abbrev code : Asked → ℕ
code a = (sent a).answer.code

-- M12: frames of 6 and 9 bytes, flow 1. Behind the packet stand bytes that must stay.
abbrev two_frames : List ℕ
two_frames = 0x11 ∷ 0x12 ∷ 0x13 ∷ 0x14 ∷ 0x15 ∷ 0x16 ∷ 0x21 ∷ 0x22 ∷ 0x23 ∷ 0x24 ∷ 0x25 ∷ 0x26 ∷ 0x27 ∷ 0x28 ∷ 0x29 ∷ []

abbrev asks : ℕ → ℕ → Position → Asked
asks limit number position =
    record {
      session = 0x101;
      flow = 1;
      number = number;
      limit = limit;
      bytes = two_frames;
      lengths = 6 ∷ 9 ∷ [];
      position = position;
      output = replicate 22 0xEE;
    }

m12_a : sent (asks 16 0xFFFF (at 0 0))
    ≡ record { answer = record { code = 0; length = 20; position = at 1 2; number = 0 }; output = A ++ (0xEE ∷ 0xEE ∷ []) }
unfolding sent sent_by written cut_for cut packet_of frame_start part put joined any sum_to next
m12_a = refl

m12_b : sent (asks 16 0 (at 1 2))
    ≡ record { answer = record { code = 0; length = 17; position = at 2 0; number = 1 }; output = B ++ replicate 5 0xEE }
unfolding sent sent_by written cut_for cut packet_of frame_start part put joined any sum_to next
m12_b = refl

-- and as a series, with one call more than there are packets
m12 : (series_packets (record { session = 0x101; flow = 1; bytes = two_frames; lengths = 6 ∷ 9 ∷ [] }) 0xFFFF (at 0 0)
    (replicate 3 (record { limit = 16; output = replicate 20 0 })) ≡ A ∷ B ∷ [])
    × (series_end (record { session = 0x101; flow = 1; bytes = two_frames; lengths = 6 ∷ 9 ∷ [] }) 0xFFFF (at 0 0)
    (replicate 3 (record { limit = 16; output = replicate 20 0 })) ≡ at 2 0)
unfolding series_packets series_end sent sent_by written refused cut_for cut packet_of frame_start part put joined any sum_to next
m12 = (refl, refl)

-- each call has its own limit; and the series stops at a call that is refused, though a later one would not be
abbrev turn : ℕ → Turn
turn limit = record { limit = limit; output = replicate 24 0 }

abbrev job : Job
job = record { session = 0x101; flow = 1; bytes = two_frames; lengths = 6 ∷ 9 ∷ [] }

series : (series_packets job 0xFFFF (at 0 0) (turn 20 ∷ turn 16 ∷ [])
    ≡ (0x00 ∷ 0x00 ∷ 0x01 ∷ 0x01 ∷ 0x41 ∷ 0x02 ∷ 0xFF ∷ 0xFF ∷ 0xC0 ∷ 0x06 ∷ 0x80 ∷ 0x06 ∷ 0x11 ∷ 0x12 ∷ 0x13 ∷ 0x14 ∷ 0x15 ∷ 0x16 ∷ 0x21
    ∷ 0x22 ∷ 0x23 ∷ 0x24 ∷ 0x25 ∷ 0x26 ∷ [])
    ∷ (0x00 ∷ 0x00 ∷ 0x01 ∷ 0x01 ∷ 0x41 ∷ 0x01 ∷ 0x00 ∷ 0x00 ∷ 0x40 ∷ 0x03 ∷ 0x27 ∷ 0x28 ∷ 0x29 ∷ []) ∷ [])
    × (series_packets job 0xFFFF (at 0 0) (turn 16 ∷ turn 15 ∷ turn 16 ∷ []) ≡ A ∷ [])
    × (series_end job 0xFFFF (at 0 0) (turn 16 ∷ turn 15 ∷ turn 16 ∷ []) ≡ at 1 2)
unfolding series_packets series_end sent sent_by written refused cut_for cut packet_of frame_start part put joined any sum_to next
series = (refl, refl, refl)

-- A refused call: the position and the number that it was given, and the output as it was.
gives_back : sent (asks 15 0xFFFF (at 1 2))
    ≡ record { answer = record { code = 32; length = 0; position = at 1 2; number = 0xFFFF }; output = replicate 22 0xEE }
unfolding sent sent_by refused any sum_to
gives_back = refl

-- The limit; positions: behind a frame's last byte, behind the last frame with and without an offset, beyond; the room for L + 4 bytes,
-- though the packet itself would fit (it has 17 bytes from (1, 2) on, and 20 with L = 16).
limits_and_positions : (code (asks 15 0 (at 0 0)) ≡ 32) × (code (asks 16 0 (at 0 0)) ≡ 0) × (code (asks 4096 0 (at 0 0)) ≡ 36)
    × (code (asks 4097 0 (at 0 0)) ≡ 32)
    × (code (asks 16 0 (at 0 5)) ≡ 0) × (code (asks 16 0 (at 0 6)) ≡ 34) × (code (asks 16 0 (at 1 8)) ≡ 0)
    × (code (asks 16 0 (at 1 9)) ≡ 34)
    × (code (asks 16 0 (at 2 0)) ≡ 35) × (code (asks 16 0 (at 2 1)) ≡ 34) × (code (asks 16 0 (at 3 0)) ≡ 34)
    × (code (asks 18 0 (at 0 0)) ≡ 0)
    × (code (asks 19 0 (at 0 0)) ≡ 36) × (code (asks 19 0 (at 1 2)) ≡ 36) × (code (asks 19 0 (at 2 0)) ≡ 35)
    × (code (asks 19 0 (at 2 1)) ≡ 34)
unfolding sent sent_by written refused cut_for any sum_to
limits_and_positions = (refl, refl, refl, refl, refl, refl, refl, refl, refl, refl, refl, refl, refl, refl, refl, refl)

-- The address; the frames: lengths of 0, 2,048 and 2,049, sums that are a byte off, 127 and 128 frames, none; and 31 before 32 before 33
-- before 34.
abbrev bare : ℕ → ℕ → ℕ → List ℕ → ℕ → Asked
bare session flow limit lengths n =
    record {
      session = session;
      flow = flow;
      number = 0;
      limit = limit;
      bytes = replicate n 7;
      lengths = lengths;
      position = at 0 0;
      output = replicate 20 0;
    }

addresses_and-frames : (code (bare 0 0 16 (1 ∷ []) 1) ≡ 31) × (code (bare 4294967295 0 16 (1 ∷ []) 1) ≡ 0)
    × (code (bare 1 3 16 (1 ∷ []) 1) ≡ 0) × (code (bare 1 4 16 (1 ∷ []) 1) ≡ 31)
    × (code (bare 1 0 16 (1 ∷ 0 ∷ []) 1) ≡ 33) × (code (bare 1 0 16 (2048 ∷ []) 2048) ≡ 0) × (code (bare 1 0 16 (2049 ∷ []) 2049) ≡ 33)
    × (code (bare 1 0 16 (3 ∷ []) 2) ≡ 33) × (code (bare 1 0 16 (3 ∷ []) 4) ≡ 33) × (code (bare 1 0 16 (replicate 127 1) 127) ≡ 0)
    × (code (bare 1 0 16 (replicate 128 1) 128) ≡ 33)
    × (code (bare 1 0 16 [] 0) ≡ 35) × (code (bare 1 0 16 [] 1) ≡ 33) × (code (bare 0 0 15 [] 1) ≡ 31) × (code (bare 1 0 15 [] 1) ≡ 32)
unfolding sent sent_by written refused cut_for any sum_to
addresses_and-frames = (refl, refl, refl, refl, refl, refl, refl, refl, refl, refl, refl, refl, refl, refl, refl)

-- The cut, by how much room is left: a room of 12 and a first frame of n bytes leave 10 - n. With 3 left a byte of the second frame is
-- placed, with 2, 1 or 0 nothing; and a frame of 11 is cut.
abbrev cuts : ℕ → SendOutcome
cuts n =
    sent (record {
      session = 1;
      flow = 0;
      number = 7;
      limit = 16;
      bytes = replicate n 0xAA ++ replicate 5 0xBB;
      lengths = n ∷ 5 ∷ [];
      position = at 0 0;
      output = replicate 20 0;
    })

room-left : ((cuts 7).answer ≡ record { code = 0; length = 20; position = at 1 1; number = 8 })
    × ((cuts 8).answer ≡ record { code = 0; length = 18; position = at 1 0; number = 8 })
    × ((cuts 9).answer ≡ record { code = 0; length = 19; position = at 1 0; number = 8 })
    × ((cuts 10).answer ≡ record { code = 0; length = 20; position = at 1 0; number = 8 })
    × ((cuts 11).answer ≡ record { code = 0; length = 20; position = at 0 10; number = 8 })
unfolding sent sent_by written cut_for cut packet_of frame_start part put joined any sum_to next
room-left = (refl, refl, refl, refl, refl)

-- their entries and bodies: with B and E, the second with B alone; with B alone, where the frame is cut
room-bytes : ((cuts 7).output ≡ 0 ∷ 0 ∷ 0 ∷ 1 ∷ 0x40 ∷ 2 ∷ 0 ∷ 7 ∷ 0xC0 ∷ 7 ∷ 0x80 ∷ 1 ∷ replicate 7 0xAA ++ (0xBB ∷ []))
    × ((cuts 8).output ≡ 0 ∷ 0 ∷ 0 ∷ 1 ∷ 0x40 ∷ 1 ∷ 0 ∷ 7 ∷ 0xC0 ∷ 8 ∷ replicate 8 0xAA ++ (0 ∷ 0 ∷ []))
    × ((cuts 11).output ≡ 0 ∷ 0 ∷ 0 ∷ 1 ∷ 0x40 ∷ 1 ∷ 0 ∷ 7 ∷ 0x80 ∷ 10 ∷ replicate 10 0xAA)
unfolding sent sent_by written cut_for cut packet_of frame_start part put joined any sum_to next
room-bytes = (refl, refl, refl)

-- 127 frames of one byte with the greatest limit: all in one packet, though there is room for more; then nothing is left
abbrev many : ℕ → Asked
many frame =
    record {
      session = 1;
      flow = 3;
      number = 7;
      limit = 4096;
      bytes = replicate 127 9;
      lengths = replicate 127 1;
      position = at frame 0;
      output = replicate 4100 0;
    }

all_127 : ((sent (many 0)).answer ≡ record { code = 0; length = 389; position = at 127 0; number = 8 }) × (code (many 127) ≡ 35)
unfolding sent sent_by written refused cut_for cut packet_of frame_start part put joined any sum_to next
all_127 = (refl, refl)
