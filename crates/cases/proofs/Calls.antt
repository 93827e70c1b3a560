-- Data calls computed: the marked cases M1 to M11 of document 01, the edges beside them, and the order of refusals. Whole outcomes are
-- compared, with every byte of the slices. The expected side is written from the paper, by hand.
use Prim.Native.Nat.{ℕ, ◌+◌, ◌*◌}
use mathlib.Core.Path.{◌≡◌, refl}
use mathlib.Core.List.{List, [], ◌∷◌, ◌++◌}
use lib.ListN.{take, set, replicate}
use Rattle.octets.specs.Stretch.{part, rest, put, joined, lengths_of}
use Rattle.octets.specs.Count.{any, least, sum_to, up_to}
use Rattle.flow.specs.declared.Flow.{Flow}
use Rattle.flow.specs.Numbers.{ahead, next}
use Rattle.flow.specs.Flow.{fresh}
use Rattle.packet.specs.Header.{packet_by, ip, udp, udp_front, in_udp}
use Rattle.packet.specs.Segments.{body_at, segment_at, segments}
use Rattle.packet.specs.Psp.{wanted}
use Rattle.packet.specs.Dmpt.{mpeg_at, mpegs}
use Rattle.packet.proofs.Examples.{A, B}
use Rattle.table.specs.declared.Row.{Row}
use Rattle.table.specs.declared.Table.{Table}
use Rattle.table.specs.Rows.{closed_row, empty}
use Rattle.table.specs.Broken.{broken}
use Rattle.join.specs.Join.{settled_by, settled, fate_by, fate, at_gap, in_order, psp_fate}
use Rattle.pass.specs.Pass.{pass_all, unnumbered_fate, dmpt_fate}
use Rattle.join.specs.Slices.{Slices}
use Rattle.card.specs.Hear.{hear}
use Rattle.card.specs.Receive.{Outcome, carried_out, refused, received_by, received}

-- Whole calls. Session 0x101 is open in row 2, so that the place of its flow 1 starts at 9 x 2,048 = 18,432; session 0x102 is open in
-- row 1 and holds 3 bytes of a frame on its own flow 1, in the place from 5 x 2,048 = 10,240 on; session 0x104 is D-MPT, in row 5. Sizes
-- are written as the paper's numerals here.
abbrev row_with : ℕ → ℕ → Flow → Flow → Row
row_with id k f g = record { id = id; kind = k; flows = f ∷ g ∷ fresh ∷ fresh ∷ [] }

abbrev at : ℕ → ℕ → Flow
at expected held = record { heard = 1; expected = expected; held = held }

abbrev card : Flow → Table
card f =
    record {
      rows =
          closed_row ∷ row_with 0x102 1 fresh (at 7 3) ∷ row_with 0x101 1 fresh f ∷ closed_row ∷ closed_row
          ∷ row_with 0x104 2 fresh fresh ∷ [];
    }

abbrev before : List ℕ
before = put (replicate 49152 5) 10240 (1 ∷ 2 ∷ 3 ∷ [])

abbrev lent : List ℕ → Slices
lent holding = record { holding = holding; output = replicate 6144 6; lengths = replicate 127 7 }

abbrev accepts : ℕ → ℕ → ℕ → ℕ → Table → List ℕ → List ℕ → List ℕ → Outcome
accepts frames bytes dropped gap table holding delivered sizes =
    record {
      answer = record { code = 0; frames = frames; bytes = bytes; dropped = dropped; gap = gap; table = table };
      slices = record { holding = holding; output = put (replicate 6144 6) 0 delivered; lengths = put (replicate 127 7) 0 sizes };
    }

abbrev refuses : ℕ → Table → List ℕ → Outcome
refuses number table holding =
    record { answer = record { code = number; frames = 0; bytes = 0; dropped = 0; gap = 0; table = table }; slices = lent holding }

abbrev after_a : List ℕ
after_a = put before 18432 (0x21 ∷ 0x22 ∷ [])

-- M1: A on a fresh flow gives a frame of 6, and 2 bytes are held. M2: then B gives a frame of 9, and none is held; what stood in the
-- place stands there still. M3: then B again is late. M4: B on a fresh flow gives no frame, 7 bytes dropped.
marked_1_to_4 : (received (card fresh) (ip A) (lent before)
    ≡ accepts 1 6 0 0 (card (at 0 2)) after_a (0x11 ∷ 0x12 ∷ 0x13 ∷ 0x14 ∷ 0x15 ∷ 0x16 ∷ []) (6 ∷ []))
    × (received (card (at 0 2)) (ip B) (lent after_a)
    ≡ accepts 1 9 0 0 (card (at 1 0)) after_a (0x21 ∷ 0x22 ∷ 0x23 ∷ 0x24 ∷ 0x25 ∷ 0x26 ∷ 0x27 ∷ 0x28 ∷ 0x29 ∷ []) (9 ∷ []))
    × (received (card (at 1 0)) (ip B) (lent after_a) ≡ refuses 12 (card (at 1 0)) after_a)
    × (received (card fresh) (ip B) (lent before) ≡ accepts 0 0 7 0 (card (at 1 0)) before [] [])
unfolding part rest put joined lengths_of any least sum_to up_to ahead next body_at segment_at segments wanted broken settled_by settled
    fate_by fate at_gap in_order psp_fate hear carried_out refused received_by received
marked_1_to_4 = (refl, refl, refl, refl)

-- one whole frame of 3 bytes with any number, from byte 6 on: high and low byte
abbrev whole : ℕ → ℕ → List ℕ
whole high low = 0x00 ∷ 0x00 ∷ 0x01 ∷ 0x01 ∷ 0x41 ∷ 0x01 ∷ high ∷ low ∷ 0xC0 ∷ 0x03 ∷ 0x33 ∷ 0x34 ∷ 0x35 ∷ []

-- M5: after A, number 1: gap 1, the 2 held bytes dropped, one frame. M6: number 0x7FFF: gap 32,767. M7: number 0x8000 is late.
marked_5_to_7 : (received (card (at 0 2)) (ip (whole 0x00 0x01)) (lent after_a)
    ≡ accepts 1 3 2 1 (card (at 2 0)) after_a (0x33 ∷ 0x34 ∷ 0x35 ∷ []) (3 ∷ []))
    × (received (card (at 0 2)) (ip (whole 0x7F 0xFF)) (lent after_a)
    ≡ accepts 1 3 2 32767 (card (at 0x8000 0)) after_a (0x33 ∷ 0x34 ∷ 0x35 ∷ []) (3 ∷ []))
    × (received (card (at 0 2)) (ip (whole 0x80 0x00)) (lent after_a) ≡ refuses 12 (card (at 0 2)) after_a)
unfolding part rest put joined lengths_of any least sum_to up_to ahead next body_at segment_at segments wanted broken settled_by settled
    fate_by fate at_gap in_order psp_fate hear carried_out refused received_by received
marked_5_to_7 = (refl, refl, refl)

-- M8: 2,047 held and an E segment of 1: a frame of 2,048. M9: 2,048 held and one more: 2,049 dropped. M10: count 0 is 9. M11: A
-- with its last byte cut is 10.
abbrev one_more : List ℕ
one_more = 0x00 ∷ 0x00 ∷ 0x01 ∷ 0x01 ∷ 0x41 ∷ 0x01 ∷ 0x00 ∷ 0x04 ∷ 0x40 ∷ 0x01 ∷ 0x44 ∷ []

abbrev full : ℕ → List ℕ
full n = put before 18432 (replicate n 8)

marked_8_to_11 : (received (card (at 4 2047)) (ip one_more) (lent (full 2047))
    ≡ accepts 1 2048 0 0 (card (at 5 0)) (full 2047) (replicate 2047 8 ++ (0x44 ∷ [])) (2048 ∷ []))
    × (received (card (at 4 2048)) (ip one_more) (lent (full 2048)) ≡ accepts 0 0 2049 0 (card (at 5 0)) (full 2048) [] [])
    × (received (card fresh) (ip (set A 5 0)) (lent before) ≡ refuses 9 (card fresh) before)
    × (received (card fresh) (ip (take 19 A)) (lent before) ≡ refuses 10 (card fresh) before)
unfolding part rest put joined lengths_of any least sum_to up_to ahead next body_at segment_at segments wanted broken settled_by settled
    fate_by fate at_gap in_order psp_fate hear carried_out refused received_by received
marked_8_to_11 = (refl, refl, refl, refl)

-- Flow 1 of the other channel: its 3 bytes are joined from its own place, and session 0x101 is left alone. Flow 3 of row 2, whose place
-- starts at 11 x 2,048 = 22,528. And no join across a gap: the 2 held bytes and the 7 that came are dropped.
abbrev to_other : List ℕ
to_other = 0x00 ∷ 0x00 ∷ 0x01 ∷ 0x02 ∷ 0x41 ∷ 0x01 ∷ 0x00 ∷ 0x07 ∷ 0x40 ∷ 0x02 ∷ 0x51 ∷ 0x52 ∷ []

abbrev other_heard : Flow → Table
other_heard f =
    record {
      rows =
          closed_row ∷ row_with 0x102 1 fresh (at 8 0) ∷ row_with 0x101 1 fresh f ∷ closed_row ∷ closed_row
          ∷ row_with 0x104 2 fresh fresh ∷ [];
    }

abbrev flow_3 : Flow → Table
flow_3 f =
    record {
      rows =
          closed_row ∷ closed_row ∷ record { id = 0x101; kind = 1; flows = fresh ∷ fresh ∷ fresh ∷ f ∷ [] } ∷ closed_row ∷ closed_row
          ∷ closed_row ∷ [];
    }

abbrev to_flow_3 : List ℕ
to_flow_3 = 0x00 ∷ 0x00 ∷ 0x01 ∷ 0x01 ∷ 0x43 ∷ 0x01 ∷ 0x00 ∷ 0x04 ∷ 0x00 ∷ 0x02 ∷ 0x61 ∷ 0x62 ∷ []

places : (received (card (at 0 2)) (ip to_other) (lent after_a)
    ≡ accepts 1 5 0 0 (other_heard (at 0 2)) after_a (1 ∷ 2 ∷ 3 ∷ 0x51 ∷ 0x52 ∷ []) (5 ∷ []))
    × (received (flow_3 (at 4 1)) (ip to_flow_3) (lent (put before 22528 (0x60 ∷ [])))
    ≡ accepts 0 0 0 0 (flow_3 (at 5 3)) (put before 22528 (0x60 ∷ 0x61 ∷ 0x62 ∷ [])) [] [])
    × (received (card (at 0xFFFF 2)) (ip B) (lent after_a) ≡ accepts 0 0 9 1 (card (at 1 0)) after_a [] [])
unfolding part rest put joined lengths_of any least sum_to up_to ahead next body_at segment_at segments wanted broken settled_by settled
    fate_by fate at_gap in_order psp_fate hear carried_out refused received_by received
places = (refl, refl, refl)

-- D-MPT in row 3: two MPEG packets, the second with PID 0x1FFF. With S clear the number is ignored and a fresh flow stays fresh; with S
-- set it is judged, and a gap is reported. A number that would be late is nothing to S clear; late and malformed is malformed. Another flow
-- than 0 is refused.
abbrev mpeg : ℕ → List ℕ
mpeg n = 0x47 ∷ 0x1F ∷ n ∷ replicate 185 0

abbrev D : ℕ → List ℕ
D marks = 0x00 ∷ 0x00 ∷ 0x01 ∷ 0x03 ∷ marks ∷ 0x7F ∷ 0x12 ∷ 0x34 ∷ (mpeg 0xFE ++ mpeg 0xFF)

abbrev dmpt_card : Flow → Table
dmpt_card f = record { rows = closed_row ∷ closed_row ∷ closed_row ∷ row_with 0x103 2 f fresh ∷ closed_row ∷ closed_row ∷ [] }

dmpt : (received (dmpt_card fresh) (ip (D 0x00)) (lent before) ≡ accepts 1 188 188 0 (dmpt_card fresh) before (mpeg 0xFE) (188 ∷ []))
    × (received (dmpt_card (at 9 0)) (ip (D 0x00)) (lent before) ≡ accepts 1 188 188 0 (dmpt_card (at 9 0)) before (mpeg 0xFE) (188 ∷ []))
    × (received (dmpt_card fresh) (ip (D 0x40)) (lent before) ≡ accepts 1 188 188 0 (dmpt_card (at 0x1235 0)) before (mpeg 0xFE) (188 ∷ []))
    × (received (dmpt_card (at 0x1230 0)) (ip (D 0x40)) (lent before)
    ≡ accepts 1 188 188 4 (dmpt_card (at 0x1235 0)) before (mpeg 0xFE) (188 ∷ []))
    × (received (dmpt_card (at 0x1235 0)) (ip (D 0x40)) (lent before) ≡ refuses 12 (dmpt_card (at 0x1235 0)) before)
    × (received (dmpt_card (at 0x1235 0)) (ip (D 0x00)) (lent before)
    ≡ accepts 1 188 188 0 (dmpt_card (at 0x1235 0)) before (mpeg 0xFE) (188 ∷ []))
    × (received (dmpt_card (at 0x1235 0)) (ip (set (D 0x40) 8 0x48)) (lent before) ≡ refuses 11 (dmpt_card (at 0x1235 0)) before)
    × (received (dmpt_card fresh) (ip (D 0x41)) (lent before) ≡ refuses 7 (dmpt_card fresh) before)
unfolding part rest put joined lengths_of any least sum_to up_to ahead next mpeg_at mpegs broken in_order pass_all dmpt_fate hear
    carried_out refused received_by received
dmpt = (refl, refl, refl, refl, refl, refl, refl, refl)

-- The order: each call meets a refusal and a later one. Slices that are too short come first, each by itself; then a broken table,
-- whosever row it is; then the packet, then its session, then its content, and a late number last.
abbrev short : ℕ → ℕ → ℕ → Slices
short holding output sizes = record { holding = replicate holding 5; output = replicate output 6; lengths = replicate sizes 7 }

abbrev broken-card : Table
broken-card =
    record {
      rows = closed_row ∷ row_with 0x102 1 fresh (at 7 2049) ∷ row_with 0x101 1 fresh fresh ∷ closed_row ∷ closed_row ∷ closed_row ∷ [];
    }

longer : received (card fresh) (ip B) (short 49153 6145 128)
    ≡ record {
      answer = record { code = 0; frames = 0; bytes = 0; dropped = 7; gap = 0; table = card (at 1 0) };
      slices = short 49153 6145 128;
    }
unfolding part rest put joined lengths_of any least sum_to up_to ahead next body_at segment_at segments wanted broken settled_by settled
    fate_by fate at_gap in_order psp_fate hear carried_out refused received_by received
longer = refl

order : (received broken-card (ip []) (short 49151 6144 127) ≡ refused 1 broken-card (short 49151 6144 127))
    × (received broken-card (ip []) (short 49152 6143 127) ≡ refused 1 broken-card (short 49152 6143 127))
    × (received broken-card (ip []) (short 49152 6144 126) ≡ refused 1 broken-card (short 49152 6144 126))
    × (received broken-card (ip (take 7 A)) (lent before) ≡ refuses 13 broken-card before)
    × (received broken-card (ip A) (lent before) ≡ refuses 13 broken-card before)
    × (received empty (ip (replicate 7 0)) (lent before) ≡ refuses 2 empty before)
    × (received empty (ip (replicate 4101 0)) (lent before) ≡ refuses 3 empty before)
    × (received empty (ip (replicate 8 0)) (lent before) ≡ refuses 4 empty before)
    × (received empty (ip (set A 4 0x80)) (lent before) ≡ refuses 5 empty before)
    × (received (card (at 1 0)) (ip (set A 4 0x87)) (lent before) ≡ refuses 6 (card (at 1 0)) before)
    × (received (card (at 1 0)) (ip (set B 4 0x04)) (lent before) ≡ refuses 7 (card (at 1 0)) before)
    × (received (card (at 1 0)) (ip (set (set B 4 0x01) 5 0)) (lent before) ≡ refuses 9 (card (at 1 0)) before)
    × (received (card (at 1 0)) (ip (set B 5 0)) (lent before) ≡ refuses 9 (card (at 1 0)) before)
    × (received (card (at 1 0)) (ip (set B 9 0)) (lent before) ≡ refuses 10 (card (at 1 0)) before)
    × (received (card (at 0 0)) (ip (set A 10 0x00)) (lent before) ≡ refuses 11 (card (at 0 0)) before)
    × (received (card (at 0 0)) (ip A) (lent before) ≡ refuses 12 (card (at 0 0)) before)
unfolding part rest put any least sum_to ahead next body_at wanted broken refused received_by received
order = (refl, refl, refl, refl, refl, refl, refl, refl, refl, refl, refl, refl, refl, refl, refl, refl)

-- Without a number (W2). A on a fresh flow: its frame of 6 comes out, the 2 bytes behind it are dropped, and the flow is fresh still. B
-- where A's 2 bytes are held: those and B's 7 are dropped and not joined, the gap is 0, and 0 is still expected, though B's field says
-- 0x1234 or 0x8000, which with S set would be a gap or late; what stood in the place stands there still. Over UDP too. A whole frame of 3
-- behind 2,048 held, and one of 2,049. What is refused leaves what is held: here by 10 and by 11.
abbrev clear : List ℕ → List ℕ
clear packet = set packet 4 0x01

abbrev sized : ℕ → ℕ → List ℕ
sized high low = 0x00 ∷ 0x00 ∷ 0x01 ∷ 0x01 ∷ 0x01 ∷ 0x01 ∷ 0x00 ∷ 0x00 ∷ (0xC0 + high) ∷ low ∷ replicate (256 * high + low) 0x55

without_number : (received (card fresh) (ip (clear A)) (lent before)
    ≡ accepts 1 6 2 0 (card fresh) before (0x11 ∷ 0x12 ∷ 0x13 ∷ 0x14 ∷ 0x15 ∷ 0x16 ∷ []) (6 ∷ []))
    × (received (card (at 0 2)) (ip (clear B)) (lent after_a) ≡ accepts 0 0 9 0 (card (at 0 0)) after_a [] [])
    × (received (card (at 0 2)) (ip (set (set (clear B) 6 0x12) 7 0x34)) (lent after_a) ≡ accepts 0 0 9 0 (card (at 0 0)) after_a [] [])
    × (received (card (at 0 2)) (in_udp (set (clear B) 6 0x80)) (lent after_a) ≡ accepts 0 0 9 0 (card (at 0 0)) after_a [] [])
    × (received (card (at 4 2048)) (ip (sized 0 3)) (lent (full 2048))
    ≡ accepts 1 3 2048 0 (card (at 4 0)) (full 2048) (0x55 ∷ 0x55 ∷ 0x55 ∷ []) (3 ∷ []))
    × (received (card (at 4 2048)) (ip (sized 8 1)) (lent (full 2048)) ≡ accepts 0 0 4097 0 (card (at 4 0)) (full 2048) [] [])
    × (received (card (at 0 2)) (ip (take 19 (clear A))) (lent after_a) ≡ refuses 10 (card (at 0 2)) after_a)
    × (received (card (at 0 2)) (ip (set (clear A) 10 0x00)) (lent after_a) ≡ refuses 11 (card (at 0 2)) after_a)
unfolding part rest put joined lengths_of any least sum_to up_to body_at segment_at segments wanted broken in_order pass_all
    unnumbered_fate hear carried_out refused received_by received
without_number = (refl, refl, refl, refl, refl, refl, refl, refl)

-- Over UDP (W1): A, and B behind it, come to what they come to over IP, and leave the same; so either may come by either. B once more is
-- late.
over_udp_lem : (received (card fresh) (in_udp A) (lent before)
    ≡ accepts 1 6 0 0 (card (at 0 2)) after_a (0x11 ∷ 0x12 ∷ 0x13 ∷ 0x14 ∷ 0x15 ∷ 0x16 ∷ []) (6 ∷ []))
    × (received (card (at 0 2)) (in_udp B) (lent after_a)
    ≡ accepts 1 9 0 0 (card (at 1 0)) after_a (0x21 ∷ 0x22 ∷ 0x23 ∷ 0x24 ∷ 0x25 ∷ 0x26 ∷ 0x27 ∷ 0x28 ∷ 0x29 ∷ []) (9 ∷ []))
    × (received (card (at 1 0)) (in_udp B) (lent after_a) ≡ refuses 12 (card (at 1 0)) after_a)
unfolding part rest put joined lengths_of any least sum_to up_to ahead next body_at segment_at segments wanted broken
    settled_by settled fate_by fate at_gap in_order psp_fate hear carried_out refused received_by received
over_udp_lem = (refl, refl, refl)

-- The order over UDP: 1 and 13 before 24, 24 before 2; 2 and 3 before 15; 15 before 4 and before 5; then 4, 5 and the rest as over IP. What
-- is over UDP, given as if it were over IP, is of another session.
udp_order : (received broken-card (packet_by 3 []) (short 49151 6144 127) ≡ refused 1 broken-card (short 49151 6144 127))
    × (received broken-card (packet_by 3 A) (lent before) ≡ refuses 13 broken-card before)
    × (received empty (packet_by 0 []) (lent before) ≡ refuses 24 empty before)
    × (received (card fresh) (packet_by 3 A) (lent before) ≡ refuses 24 (card fresh) before)
    × (received empty (udp (0x80 ∷ replicate 10 0)) (lent before) ≡ refuses 2 empty before)
    × (received empty (udp (0x80 ∷ replicate 4104 0)) (lent before) ≡ refuses 3 empty before)
    × (received empty (udp (0x80 ∷ 0x03 ∷ replicate 10 0)) (lent before) ≡ refuses 15 empty before)
    × (received (card fresh) (udp (0x00 ∷ 0x02 ∷ 0x00 ∷ 0x00 ∷ A)) (lent before) ≡ refuses 15 (card fresh) before)
    × (received (card fresh) (udp A) (lent before) ≡ refuses 15 (card fresh) before)
    × (received empty (udp (0x00 ∷ 0x03 ∷ replicate 4102 0)) (lent before) ≡ refuses 4 empty before)
    × (received empty (in_udp (set A 4 0x80)) (lent before) ≡ refuses 5 empty before)
    × (received (card fresh) (ip (udp_front ++ A)) (lent before) ≡ refuses 5 (card fresh) before)
    × (received (card (at 1 0)) (in_udp (set A 4 0x87)) (lent before) ≡ refuses 6 (card (at 1 0)) before)
unfolding part rest put any least sum_to ahead next body_at wanted broken refused received_by received
udp_order = (refl, refl, refl, refl, refl, refl, refl, refl, refl, refl, refl, refl, refl)
