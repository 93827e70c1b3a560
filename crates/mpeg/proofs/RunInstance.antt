-- A run by computation (W3), with every byte of its packets: three frames, of which the first goes through three packets and the third
-- begins in the last byte of the third; then a null packet, as nothing waits; then two frames, the second of which is not finished when the
-- run stops. The count goes round. The reader gives back the four that have been sent whole.
use Prim.Native.Nat.{ℕ}
use mathlib.Core.Path.{◌≡◌, refl}
use mathlib.Core.Bool.{true}
use mathlib.Core.List.{List, [], ◌∷◌, ◌++◌}
use lib.ListN.{replicate}
use Rattle.octets.specs.Stretch.{part, rest, joined, lengths_of}
use Rattle.octets.specs.Count.{up_to}
use Rattle.octets.specs.Tests.{none, same}
use Rattle.ts.specs.Packet.{all_fill, null_packet}
use Rattle.mpeg.specs.Frame.{good, may_begin}
use Rattle.mpeg.specs.Write.{left_at, packet_of, carried, count_after}
use Rattle.mpeg.specs.Read.{found, without_flag, with_flag, read_packet, read_from, packets_in, reading}
use Rattle.mpeg.specs.Run.{Burst, no_backlog, packet_next, after_next, run_packets, run_end, all_frames, sent_whole}

-- frames of 400, 149, 6, 7 and 300 bytes: each says in its third and fourth byte six fewer
abbrev A : List ℕ
A = 0x01 ∷ 0x02 ∷ 0x01 ∷ 0x8A ∷ replicate 396 0xA1

abbrev B : List ℕ
B = 0x03 ∷ 0x04 ∷ 0x00 ∷ 0x8F ∷ replicate 145 0xB1

abbrev C : List ℕ
C = 0x05 ∷ 0x06 ∷ 0x00 ∷ 0x00 ∷ 0xC1 ∷ 0xFF ∷ []

abbrev D : List ℕ
D = 0x07 ∷ 0x08 ∷ 0x00 ∷ 0x01 ∷ 0xD1 ∷ 0xFF ∷ 0xFF ∷ []

abbrev E : List ℕ
E = 0x09 ∷ 0x0A ∷ 0x01 ∷ 0x26 ∷ replicate 296 0xE1

may_be_written : (good A ≡ true) × (good B ≡ true) × (good C ≡ true) × (good D ≡ true) × (good E ≡ true)
unfolding good
may_be_written = (refl, refl, refl, refl, refl)

abbrev bursts : List Burst
bursts = (A ∷ B ∷ C ∷ []) ∷ [] ∷ [] ∷ [] ∷ [] ∷ (D ∷ E ∷ []) ∷ []

abbrev packets : List (List ℕ)
packets =
    (0x47 ∷ 0x5F ∷ 0xFE ∷ 0x1E ∷ 0 ∷ 0x01 ∷ 0x02 ∷ 0x01 ∷ 0x8A ∷ replicate 179 0xA1)
    ∷ (0x47 ∷ 0x1F ∷ 0xFE ∷ 0x1F ∷ replicate 184 0xA1)
    ∷ (0x47 ∷ 0x5F ∷ 0xFE ∷ 0x10 ∷ 33 ∷ replicate 33 0xA1 ++ (0x03 ∷ 0x04 ∷ 0x00 ∷ 0x8F ∷ replicate 145 0xB1) ++ (0x05 ∷ []))
    ∷ (0x47 ∷ 0x5F ∷ 0xFE ∷ 0x11 ∷ 5 ∷ 0x06 ∷ 0x00 ∷ 0x00 ∷ 0xC1 ∷ 0xFF ∷ replicate 178 0xFF)
    ∷ (0x47 ∷ 0x1F ∷ 0xFF ∷ 0x10 ∷ replicate 184 0xFF)
    ∷ (0x47 ∷ 0x5F ∷ 0xFE ∷ 0x12 ∷ 0 ∷ 0x07 ∷ 0x08 ∷ 0x00 ∷ 0x01 ∷ 0xD1 ∷ 0xFF ∷ 0xFF ∷ 0x09 ∷ 0x0A ∷ 0x01 ∷ 0x26 ∷ replicate 172 0xE1)
    ∷ []

-- the writer writes these packets
written : run_packets (no_backlog 14) bursts ≡ packets
unfolding run_packets packet_next after_next packet_of carried count_after null_packet left_at part rest joined lengths_of
written = refl

-- .. and the reader reads them
read_back : reading (joined packets)
    ≡ record { sound = true; expected = 3; begun = 0x09 ∷ 0x0A ∷ 0x01 ∷ 0x26 ∷ replicate 172 0xE1; frames = A ∷ B ∷ C ∷ D ∷ [] }
unfolding reading read_from read_packet packets_in up_to with_flag without_flag found none same all_fill good may_begin null_packet
    part rest joined
read_back = refl

-- so much has been sent, and these frames whole
sent : ((run_end (no_backlog 14) bursts).place ≡ 738) × (sent_whole (all_frames bursts) 738 ≡ A ∷ B ∷ C ∷ D ∷ [])
unfolding run_end after_next carried count_after left_at rest joined lengths_of all_frames sent_whole
sent = (refl, refl)
