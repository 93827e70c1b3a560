-- Closed instances of isolation and of open-by-ids: one session, told the same whether it is alone on the card or among others; and opens
-- on two tables with the same open IDs in other rows. The two statements are applied to them. It cites definitions alone, so that it can be
-- held against wrong ones, and against statements that say less.
use Rattle.packet.specs.Header.{Packet, ip, udp, in_udp}
use Prim.Native.Nat.{ℕ}
use mathlib.Core.Path.{◌≡◌, refl, sym, ◌∙◌}
use mathlib.Core.Bool.{Bool, true, false, cond}
use mathlib.Core.List.{List, [], ◌∷◌}
use lib.Dec.{ltb, eqb}
use lib.ListN.{length, replicate, length-replicate}
use Rattle.octets.specs.Stretch.{part, rest, put, joined, lengths_of}
use Rattle.octets.specs.Count.{any, least, sum_to, up_to}
use Rattle.flow.specs.Numbers.{ahead, next}
use Rattle.packet.specs.Segments.{body_at, segment_at, segments}
use Rattle.packet.specs.Psp.{wanted}
use Rattle.table.specs.declared.Kind.TheVariants as kind
use Rattle.table.specs.Broken.{broken}
use Rattle.table.specs.Calls.{asking, is_open, opened, closed}
use Rattle.join.specs.Join.{settled_by, settled, fate_by, fate, at_gap, in_order, psp_fate}
use Rattle.card.specs.Hear.{hear}
use Rattle.card.specs.Receive.{carried_out, refused, received_by, received}
use Rattle.card.specs.History.{Card, Call, opens, closes, hands, answer, after, after_all}
use Rattle.promises.specs.Isolation.{own, Told, told, card_after, Isolation, OpenByIds}
use Rattle.promises.specs.Marked.{A, B, hand, of6, of9}

-- A over UDP and B over IP, then the half of a frame on flow 2, then the close: alone but for a session in row 0 that is never heard of
-- again, so that it is in row 1
abbrev half_a_frame : List ℕ
half_a_frame = 0x00 ∷ 0x00 ∷ 0x01 ∷ 0x01 ∷ 0x42 ∷ 0x01 ∷ 0x00 ∷ 0x09 ∷ 0x80 ∷ 0x02 ∷ 0x81 ∷ 0x82 ∷ []

abbrev hand_by : Packet → Call
hand_by packet = hands (record { packet = packet; output = replicate 6144 0; lengths = replicate 127 0 })

abbrev alone_calls : List Call
alone_calls = hand_by (in_udp A) ∷ hand B ∷ hand half_a_frame ∷ closes 0x101 ∷ []

abbrev one_before : List Call
one_before = opens (asking kind.Psp 0x109) ∷ []

-- The same among others, in row 0, which another session had left. Session 0x102, in row 1, hears the like on its own flow 1, between A and
-- B, and is closed; an open of 0x101 is refused, and so is a control message over UDP; and what is lent is as long, but not the same.
abbrev to_102 : ℕ → List ℕ
to_102 number = 0x00 ∷ 0x00 ∷ 0x01 ∷ 0x02 ∷ 0x41 ∷ 0x01 ∷ 0x00 ∷ number ∷ 0x80 ∷ 0x03 ∷ 0x91 ∷ 0x92 ∷ 0x93 ∷ []

abbrev hand_other : Packet → Call
hand_other packet = hands (record { packet = packet; output = replicate 6144 7; lengths = replicate 127 8 })

abbrev others-first : List Call
others-first = opens (asking kind.Dmpt 0x104) ∷ opens (asking kind.Psp 0x102) ∷ hand (to_102 0) ∷ closes 0x104 ∷ []

abbrev among-others : List Call
among-others =
    hand_other (in_udp A)
    ∷ hand_by (in_udp (to_102 1))
    ∷ hand_by (udp (0x80 ∷ 0x03 ∷ 0x00 ∷ 0x00 ∷ B))
    ∷ closes 0x102
    ∷ opens (asking kind.Dmpt 0x101)
    ∷ hand_other (ip B)
    ∷ opens (asking kind.Psp 0x103)
    ∷ hand_other (ip half_a_frame)
    ∷ closes 0x101
    ∷ hand A
    ∷ []

same-own : own 0x101 alone_calls ≡ own 0x101 among-others
unfolding rest own
same-own = refl

opens_both : ((answer (card_after (replicate 49152 0) one_before) (opens (asking kind.Psp 0x101))).code ≡ 0)
    × ((answer (card_after (replicate 49152 5) others-first) (opens (asking kind.Psp 0x101))).code ≡ 0)
unfolding part rest put joined lengths_of any least sum_to up_to ahead next body_at segment_at segments wanted broken opened closed
    settled_by settled fate_by fate at_gap in_order psp_fate hear carried_out refused received_by received answer after after_all
opens_both = (refl, refl)

abbrev answered : List Told
answered =
    record { code = 0; frames = 1; bytes = 6; dropped = 0; gap = 0; output = of6; lengths = 6 ∷ [] }
    ∷ record { code = 0; frames = 1; bytes = 9; dropped = 0; gap = 0; output = of9; lengths = 9 ∷ [] }
    ∷ record { code = 0; frames = 0; bytes = 0; dropped = 0; gap = 0; output = []; lengths = [] }
    ∷ record { code = 0; frames = 0; bytes = 0; dropped = 2; gap = 0; output = []; lengths = [] }
    ∷ []

isolation_instance : (told 0x101 (after (card_after (replicate 49152 0) one_before) (opens (asking kind.Psp 0x101))) alone_calls ≡ answered)
    × (told 0x101 (after (card_after (replicate 49152 5) others-first) (opens (asking kind.Psp 0x101))) among-others ≡ answered)
unfolding part rest put joined lengths_of any least sum_to up_to ahead next body_at segment_at segments wanted broken opened closed
    settled_by settled fate_by fate at_gap in_order psp_fate hear carried_out refused received_by received answer after after_all told
isolation_instance = (refl, refl)

-- `isolation`, applied
same_length : length {A = ℕ} (replicate 49152 0) ≡ length {A = ℕ} (replicate 49152 5)
same_length = length-replicate {A = ℕ} 49152 0 ∙ sym (length-replicate {A = ℕ} 49152 5)

abbrev pub IsolationHere : Type 0
IsolationHere = told 0x101 (after (card_after (replicate 49152 0) one_before) (opens (asking kind.Psp 0x101))) alone_calls ≡ answered

pub isolation_applied : Isolation → IsolationHere
unfolding rest own
isolation_applied theorem =
    let here = theorem (asking kind.Psp 0x101) (replicate 49152 0) (replicate 49152 5) one_before others-first alone_calls among-others in
    here same_length opens_both.0 opens_both.1 same-own ∙ isolation_instance.1

-- Session 2 is open in row 1 of the one table and in row 0 of the other, and no other session in either: opening 3 succeeds, opening 2
-- again and opening 0 does not. With six open, a seventh is refused.
abbrev calls_to_row_1 : List Call
calls_to_row_1 = opens (asking kind.Psp 1) ∷ opens (asking kind.Dmpt 2) ∷ closes 1 ∷ []

abbrev calls_to_row_0 : List Call
calls_to_row_0 = opens (asking kind.Psp 2) ∷ []

abbrev in_row_1 : Card
in_row_1 = card_after [] calls_to_row_1

abbrev in_row_0 : Card
in_row_0 = card_after [] calls_to_row_0

open_by_ids_instance : ((answer in_row_1 (opens (asking kind.Psp 3))).code ≡ 0)
    × ((answer in_row_0 (opens (asking kind.Psp 3))).code ≡ 0)
    × ((answer in_row_1 (opens (asking kind.Psp 2))).code ≡ 22)
    × ((answer in_row_0 (opens (asking kind.Psp 2))).code ≡ 22)
    × ((answer in_row_1 (opens (asking kind.Psp 0))).code ≡ 21)
    × ((answer in_row_0 (opens (asking kind.Psp 0))).code ≡ 21)
    × ((answer (card_after []
    (opens (asking kind.Psp 1) ∷ opens (asking kind.Psp 2) ∷ opens (asking kind.Psp 3) ∷ opens (asking kind.Dmpt 4)
    ∷ opens (asking kind.Psp 5) ∷ opens (asking kind.Psp 6) ∷ [])) (opens (asking kind.Psp 7))).code ≡ 23)
    × (is_open in_row_1.table 2 ≡ true)
    × (is_open in_row_0.table 2 ≡ true)
    × (is_open in_row_1.table 1 ≡ false)
    × (is_open in_row_0.table 1 ≡ false)
unfolding any least sum_to broken opened closed answer after after_all
open_by_ids_instance = (refl, refl, refl, refl, refl, refl, refl, refl, refl, refl, refl)

-- `open_by_ids`, applied: to an open that succeeds, and to two that are refused
same_ids : (id : ℕ) → is_open in_row_1.table id ≡ is_open in_row_0.table id
unfolding any least sum_to broken opened closed answer after after_all
same_ids id = in_either (eqb 2 id)
  where
    -- whether a row is found, where one row alone may pass the test
    in_either : (passes : Bool) → ltb (least (λ r. cond (eqb r 1) passes false) 6) 6 ≡ ltb (least (λ r. cond (eqb r 0) passes false) 6) 6
    in_either true = refl
    in_either false = refl

abbrev pub OpenByIdsHere : Type 0
OpenByIdsHere =
    ((answer in_row_1 (opens (asking kind.Psp 3))).code ≡ 0)
    × ((answer in_row_1 (opens (asking kind.Psp 2))).code ≡ 22)
    × ((answer in_row_1 (opens (asking kind.Psp 0))).code ≡ 21)

pub open_by_ids_applied : OpenByIds → OpenByIdsHere
open_by_ids_applied theorem = (of_id 3 ∙ open_by_ids_instance.1, of_id 2 ∙ open_by_ids_instance.3, of_id 0 ∙ open_by_ids_instance.5)
  where
    of_id : (id : ℕ) → (answer in_row_1 (opens (asking kind.Psp id))).code ≡ (answer in_row_0 (opens (asking kind.Psp id))).code
    of_id id = theorem (asking kind.Psp id) [] [] calls_to_row_1 calls_to_row_0 same_ids
