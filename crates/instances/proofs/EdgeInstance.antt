-- Closed instances at edges that the others do not touch: what is counted of a value, the bound at its two ends, a gap that a session is
-- told, a close of another session and a malformed packet while a frame is half there, flow 3, a row that came free, D-MPT with numbers,
-- both transports, and a frame that is cut twice. It cites definitions alone, so that it can be held against wrong ones.
use Prim.Native.Nat.{ℕ}
use mathlib.Core.Path.{◌≡◌, refl}
use mathlib.Core.List.{List, [], ◌∷◌, ◌++◌}
use native.Mathlib.Omega.{arith}
use lib.ListN.{take, set, replicate}
use Rattle.octets.specs.Stretch.{part, rest, put, joined, lengths_of}
use Rattle.octets.specs.Count.{any, least, sum_to, up_to}
use Rattle.flow.specs.Numbers.{ahead, next}
use Rattle.packet.specs.Header.{Packet, packet_by, udp, in_udp}
use Rattle.packet.specs.Segments.{body_at, segment_at, segments}
use Rattle.packet.specs.Psp.{wanted}
use Rattle.packet.specs.Dmpt.{mpeg_at, mpegs}
use Rattle.table.specs.declared.Kind.TheVariants as kind
use Rattle.table.specs.Rows.{find}
use Rattle.table.specs.Broken.{broken}
use Rattle.table.specs.Calls.{asking, opened, closed}
use Rattle.join.specs.Slices.{most_bytes, most_frames}
use Rattle.join.specs.Join.{settled_by, settled, fate_by, fate, at_gap, in_order, psp_fate}
use Rattle.pass.specs.Pass.{pass_all, dmpt_fate}
use Rattle.card.specs.Hear.{hear}
use Rattle.card.specs.Receive.{carried_out, refused, received_by, received}
use Rattle.card.specs.History.{Card, Call, opens, closes, hands, answer, after, after_all}
use Rattle.sender.specs.Cut.{frame_start, cut}
use Rattle.sender.specs.Packet.{packet_of}
use Rattle.sender.specs.Send as sender
use Rattle.sender.specs.Series.{Job, start_of_frame, series_packets}
use Rattle.promises.specs.Account.{times}
use Rattle.promises.specs.Arrivals.{Window}
use Rattle.promises.specs.Isolation.{Told, told, card_after}
use Rattle.promises.specs.Marked.{A, B, hand, whole3, of6, of9, of3, limit16}

-- A value is counted as often as it stands there, and another is not.
each_value : (times 0x21 (0x21 ∷ 0x22 ∷ 0x21 ∷ []) ≡ 2) × (times 0x23 (0x21 ∷ 0x22 ∷ []) ≡ 0)
unfolding times
each_value = (refl, refl)

-- 32,767 ahead of what is expected next and 32,768 behind it are within the bound; one more of either is not.
window_edges : Window (0 ∷ 32768 ∷ 1 ∷ []) × (Window (0 ∷ 32769 ∷ []) → ⊥) × (Window (0 ∷ 32768 ∷ 0 ∷ []) → ⊥)
window_edges = (
  (omega arith, omega arith, (omega arith, omega arith, tt)),
  (λ w. absurd (omega (arith, w.0))),
  (λ w. absurd (omega (arith, w.2.1))),
)

abbrev one_frame : ℕ → ℕ → ℕ → List ℕ → Told
one_frame size dropped gap frame =
    record { code = 0; frames = 1; bytes = size; dropped = dropped; gap = gap; output = frame; lengths = size ∷ [] }

abbrev fresh_101 : Card
fresh_101 = after (card_after (replicate 49152 0) []) (opens (asking kind.Psp 0x101))

-- A, and then number 4: four are missing before it, and what A left is dropped.
gap_is_told : told 0x101 fresh_101 (hand A ∷ hand (whole3 4) ∷ []) ≡ one_frame 6 0 0 of6 ∷ one_frame 3 2 4 of3 ∷ []
unfolding part rest put joined lengths_of any least sum_to up_to ahead next body_at segment_at segments wanted broken opened settled_by
    settled fate_by fate at_gap in_order psp_fate hear carried_out refused received_by received answer after after_all told
gap_is_told = refl

-- Packets over UDP and over IP on one flow: the session is told the same.
abbrev hand_by : Packet → Call
hand_by packet = hands (record { packet = packet; output = replicate most_bytes 0; lengths = replicate most_frames 0 })

abbrev late : Told
late = record { code = 12; frames = 0; bytes = 0; dropped = 0; gap = 0; output = []; lengths = [] }

two-transports : told 0x101 fresh_101 (hand_by (in_udp A) ∷ hand B ∷ hand_by (in_udp B) ∷ [])
    ≡ one_frame 6 0 0 of6 ∷ one_frame 9 0 0 of9 ∷ late ∷ []
unfolding part rest put joined lengths_of any least sum_to up_to ahead next body_at segment_at segments wanted broken opened settled_by
    settled fate_by fate at_gap in_order psp_fate hear carried_out refused received_by received answer after after_all told
two-transports = refl

-- Between A and B come packets of which there is no telling where a session ID stands: B with T set, B by another version, B by a transport
-- that there is not; and one over UDP with 11 bytes, which has none. They are nobody's, and change nothing.
abbrev with_t : List ℕ → Packet
with_t packet = udp (0x80 ∷ 0x03 ∷ 0x00 ∷ 0x00 ∷ packet)

abbrev version_2 : List ℕ → Packet
version_2 packet = udp (0x00 ∷ 0x02 ∷ 0x00 ∷ 0x00 ∷ packet)

nobodys : told 0x101 fresh_101
    (hand A ∷ hand_by (with_t B) ∷ hand_by (version_2 B) ∷ hand_by (packet_by 3 B) ∷ hand_by (in_udp (take 7 B)) ∷ hand_by (in_udp B) ∷ [])
    ≡ one_frame 6 0 0 of6 ∷ one_frame 9 0 0 of9 ∷ []
unfolding part rest put joined lengths_of any least sum_to up_to ahead next body_at segment_at segments wanted broken opened settled_by
    settled fate_by fate at_gap in_order psp_fate hear carried_out refused received_by received answer after after_all told
nobodys = refl

-- A packet that is too long has its ID where it should be: it is the session's, which is told 3.
abbrev too_long : Told
too_long = record { code = 3; frames = 0; bytes = 0; dropped = 0; gap = 0; output = []; lengths = [] }

too_long_is_told : told 0x101 fresh_101 (hand (B ++ replicate 4084 0) ∷ hand_by (in_udp (B ++ replicate 4084 0)) ∷ [])
    ≡ too_long ∷ too_long ∷ []
unfolding part rest put joined lengths_of any least sum_to up_to ahead next body_at segment_at segments wanted broken opened settled_by
    settled fate_by fate at_gap in_order psp_fate hear carried_out refused received_by received answer after after_all told
too_long_is_told = refl

-- Between A and B another session is closed, and a packet with number 3 is refused, whose last byte is cut: B finds what A left, and the
-- number is expected.
abbrev half-there : List Call
half-there = opens (asking kind.Psp 0x102) ∷ hand A ∷ closes 0x102 ∷ hand (take 12 (whole3 3)) ∷ hand B ∷ []

abbrev cut_short : Told
cut_short = record { code = 10; frames = 0; bytes = 0; dropped = 0; gap = 0; output = []; lengths = [] }

half_is_kept : told 0x101 fresh_101 half-there ≡ one_frame 6 0 0 of6 ∷ cut_short ∷ one_frame 9 0 0 of9 ∷ []
unfolding part rest put joined lengths_of any least sum_to up_to ahead next body_at segment_at segments wanted broken opened closed
    settled_by settled fate_by fate at_gap in_order psp_fate hear carried_out refused received_by received answer after after_all told
half_is_kept = refl

-- A gap of 2 forbids the join, as a gap of 1 does: the 2 bytes held and the 7 that came are dropped. What flow 3 holds is dropped by the
-- close.
abbrev no_frame : ℕ → ℕ → Told
no_frame dropped gap = record { code = 0; frames = 0; bytes = 0; dropped = dropped; gap = gap; output = []; lengths = [] }

gap_of_2 : told 0x101 fresh_101 (hand A ∷ hand (set B 7 2) ∷ []) ≡ one_frame 6 0 0 of6 ∷ no_frame 9 2 ∷ []
unfolding part rest put joined lengths_of any least sum_to up_to ahead next body_at segment_at segments wanted broken opened settled_by
    settled fate_by fate at_gap in_order psp_fate hear carried_out refused received_by received answer after after_all told
gap_of_2 = refl

flow_3_dropped : told 0x101 fresh_101 (hand (set A 4 0x43) ∷ closes 0x101 ∷ []) ≡ one_frame 6 0 0 of6 ∷ no_frame 2 0 ∷ []
unfolding part rest put joined lengths_of any least sum_to up_to ahead next body_at segment_at segments wanted broken opened closed
    settled_by settled fate_by fate at_gap in_order psp_fate hear carried_out refused received_by received answer after after_all told
flow_3_dropped = refl

-- Rows 0 to 5 are taken and row 1 comes free: the next session opens there. A packet of the session that was closed is refused by 5.
abbrev six_then_one : Card
six_then_one =
    card_after (replicate 49152 0)
    (opens (asking kind.Psp 1) ∷ opens (asking kind.Psp 0x101) ∷ opens (asking kind.Psp 3) ∷ opens (asking kind.Psp 4)
    ∷ opens (asking kind.Psp 5) ∷ opens (asking kind.Psp 6) ∷ closes 0x101 ∷ [])

free_row : ((answer six_then_one (opens (asking kind.Psp 7))).code ≡ 0)
    × (find (after six_then_one (opens (asking kind.Psp 7))).table 7 ≡ 1)
    × ((answer six_then_one (hand A)).code ≡ 5)
unfolding part rest put joined lengths_of any least sum_to up_to ahead next body_at segment_at segments wanted broken opened closed
    settled_by settled fate_by fate at_gap in_order psp_fate hear carried_out refused received_by received answer after after_all
free_row = (refl, refl, refl)

-- D-MPT with S set: the first number is taken as it is, the second lies 4 ahead of the one expected, and the same again is late.
abbrev mpeg : List ℕ
mpeg = 0x47 ∷ 0x1F ∷ 0xFE ∷ replicate 185 0xA1

abbrev numbered : ℕ → List ℕ
numbered low = 0x00 ∷ 0x00 ∷ 0x01 ∷ 0x03 ∷ 0x40 ∷ 0x00 ∷ 0x12 ∷ low ∷ mpeg

abbrev too_late : Told
too_late = record { code = 12; frames = 0; bytes = 0; dropped = 0; gap = 0; output = []; lengths = [] }

dmpt_numbered : told 0x103 (after (card_after (replicate 49152 0) []) (opens (asking kind.Dmpt 0x103)))
    (hand (numbered 0x34) ∷ hand (numbered 0x39) ∷ hand (numbered 0x39) ∷ [])
    ≡ one_frame 188 0 0 mpeg ∷ one_frame 188 0 4 mpeg ∷ too_late ∷ []
unfolding part rest put joined lengths_of any least sum_to up_to ahead next mpeg_at mpegs broken opened in_order pass_all dmpt_fate hear
    carried_out refused received_by received answer after after_all told
dmpt_numbered = refl

-- A frame of 25 bytes with the limit 16, for a session whose ID has four unlike bytes: 10, 10 and 5 bytes, B on the first and E on the
-- last.
abbrev long_job : Job
long_job = record { session = 0x01020304; flow = 2; bytes = replicate 10 0xAA ++ replicate 10 0xBB ++ replicate 5 0xCC; lengths = 25 ∷ [] }

cut_twice : series_packets long_job 7 (start_of_frame 0) (replicate 4 limit16)
    ≡ (0x01 ∷ 0x02 ∷ 0x03 ∷ 0x04 ∷ 0x42 ∷ 0x01 ∷ 0x00 ∷ 0x07 ∷ 0x80 ∷ 0x0A ∷ replicate 10 0xAA)
    ∷ (0x01 ∷ 0x02 ∷ 0x03 ∷ 0x04 ∷ 0x42 ∷ 0x01 ∷ 0x00 ∷ 0x08 ∷ 0x00 ∷ 0x0A ∷ replicate 10 0xBB)
    ∷ (0x01 ∷ 0x02 ∷ 0x03 ∷ 0x04 ∷ 0x42 ∷ 0x01 ∷ 0x00 ∷ 0x09 ∷ 0x40 ∷ 0x05 ∷ replicate 5 0xCC)
    ∷ []
unfolding part put joined any sum_to next series_packets frame_start cut packet_of sender.cut_for sender.written sender.refused
    sender.sent_by sender.sent
cut_twice = refl
