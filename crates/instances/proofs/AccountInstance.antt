-- A closed instance of the byte account, of each byte and of never broken: a history that takes 18 body bytes, delivers 15, holds 3 and
-- then drops them at the close. And the three statements, applied to closed histories. It cites definitions alone, so that it can be held
-- against wrong ones.
use Prim.Native.Nat.{ℕ, ◌+◌, ◌<◌}
use mathlib.Core.Path.{◌≡◌, refl, ◌∙◌}
use mathlib.Core.Bool.{false}
use mathlib.Core.List.{List, [], ◌∷◌, ◌++◌}
use native.Mathlib.Omega.{arith}
use lib.ListN.{length, replicate}
use Rattle.octets.specs.Stretch.{part, rest, put, joined, lengths_of, cut_by}
use Rattle.octets.specs.Count.{any, least, sum_to, up_to}
use Rattle.flow.specs.Numbers.{ahead, next}
use Rattle.packet.specs.Header.{in_udp}
use Rattle.packet.specs.Segments.{body_at, segment_at, segments}
use Rattle.packet.specs.Psp.{wanted}
use Rattle.packet.specs.Dmpt.{mpeg_at, mpegs}
use Rattle.table.specs.declared.Kind.TheVariants as kind
use Rattle.table.specs.Rows.{row_at, empty}
use Rattle.table.specs.Broken.{broken}
use Rattle.table.specs.Calls.{asking, opened, closed}
use Rattle.join.specs.Join.{settled_by, settled, fate_by, fate, at_gap, in_order, psp_fate}
use Rattle.pass.specs.Pass.{pass_all, dmpt_fate}
use Rattle.card.specs.Hear.{hear}
use Rattle.card.specs.Receive.{carried_out, refused, received_by, received}
use Rattle.card.specs.History.{Card, Call, opens, closes, answer, after, after_all, empty_card, hands}
use Rattle.promises.specs.Account.{Lent, card_for, table_after_all, counted_by, bytes_taken, bytes_delivered, bytes_dropped, held_in_all}
use Rattle.promises.specs.Account.{taken_by}
use Rattle.promises.specs.Account.{delivered_by, dropped_by, gathered, times, bytes_held, ByteAccount, EachByte}
use Rattle.promises.specs.Limits.{NeverBroken}
use Rattle.promises.specs.Marked.{A, B, single, whole3, hand}

-- the beginning of a frame behind a gap of 4
abbrev begins : List ℕ
begins = single 5 0x8000 3 (0x71 ∷ 0x72 ∷ 0x73 ∷ [])

-- each call with a holding slice of its own: an open with none, A over UDP, B over IP with one that is a byte short (1), B with another
-- one, a beginning behind a gap
abbrev with_slice : List ℕ → Call → Lent
with_slice holding x = record { holding = holding; call = x }

abbrev hand-udp : List ℕ → Call
hand-udp packet = hands (record { packet = in_udp packet; output = replicate 6144 0; lengths = replicate 127 0 })

abbrev slices_change : List Lent
slices_change =
    with_slice [] (opens (asking kind.Psp 0x101))
    ∷ with_slice (replicate 49152 0) (hand-udp A)
    ∷ with_slice (replicate 49151 0) (hand B)
    ∷ with_slice (replicate 49152 9) (hand B)
    ∷ with_slice (replicate 49152 0) (hand begins)
    ∷ []

byte_account_instance : (counted_by bytes_taken empty slices_change ≡ 18)
    × (counted_by bytes_delivered empty slices_change ≡ 15)
    × (counted_by bytes_dropped empty slices_change ≡ 0)
    × (held_in_all (table_after_all empty slices_change) ≡ 3)
unfolding part rest put joined lengths_of cut_by any least sum_to up_to ahead next body_at segment_at segments wanted broken opened
    settled_by settled fate_by fate at_gap in_order psp_fate hear carried_out refused received_by received answer after counted_by
    table_after_all
byte_account_instance = (refl, refl, refl, refl)

-- the slice that is a byte short was refused by 1
abbrev short_slice : Lent
short_slice = with_slice (replicate 49151 0) (hand B)

abbrev before_it : List Lent
before_it = with_slice [] (opens (asking kind.Psp 0x101)) ∷ with_slice (replicate 49152 0) (hand-udp A) ∷ []

refused_by_1 : (answer (card_for (table_after_all empty before_it) short_slice) (hand B)).code ≡ 1
unfolding part rest put joined lengths_of cut_by any least sum_to up_to ahead next body_at segment_at segments wanted broken opened
    settled_by settled fate_by fate at_gap in_order psp_fate hear carried_out refused received_by received answer after table_after_all
refused_by_1 = refl

-- then a D-MPT session with a packet over UDP, of two MPEG packets, one of which carries nothing, and the close of the other session, which
-- drops the 3 bytes
abbrev mpegs_come : List ℕ
mpegs_come =
    0x00 ∷ 0x00 ∷ 0x01 ∷ 0x03 ∷ 0x00 ∷ 0x00 ∷ 0x00 ∷ 0x00 ∷ 0x47 ∷ 0x1F ∷ 0xFF
    ∷ (replicate 185 0xB1 ++ (0x47 ∷ 0x00 ∷ 0x10 ∷ replicate 185 0xA1))

abbrev before_close : List Lent
before_close =
    slices_change ++ (with_slice [] (opens (asking kind.Dmpt 0x103)) ∷ with_slice (replicate 49152 4) (hand-udp mpegs_come) ∷ [])

abbrev and-closes : List Lent
and-closes = before_close ++ (with_slice [] (closes 0x101) ∷ [])

closes-counted : (counted_by bytes_taken empty and-closes ≡ 394)
    × (counted_by bytes_delivered empty and-closes ≡ 203)
    × (counted_by bytes_dropped empty and-closes ≡ 191)
    × (held_in_all (table_after_all empty and-closes) ≡ 0)
unfolding part rest put joined lengths_of cut_by any least sum_to up_to ahead next body_at segment_at segments wanted mpeg_at mpegs broken
    opened closed settled_by settled fate_by fate at_gap in_order psp_fate pass_all dmpt_fate hear carried_out refused received_by
    received answer after counted_by table_after_all
closes-counted = (refl, refl, refl, refl)

never_broken_instance : (broken (table_after_all empty slices_change) ≡ false) × (length (table_after_all empty slices_change).rows ≡ 6)
unfolding part rest put joined lengths_of cut_by any least sum_to up_to ahead next body_at segment_at segments wanted broken opened
    settled_by settled fate_by fate at_gap in_order psp_fate hear carried_out refused received_by received answer after table_after_all
never_broken_instance = (refl, refl)

-- one slice through all calls, and the close: which bytes come in, are delivered, are dropped, and that none is held at the end
abbrev calls : List Call
calls = opens (asking kind.Psp 0x101) ∷ hand A ∷ hand-udp B ∷ hand begins ∷ closes 0x101 ∷ []

each_byte_instance : (gathered taken_by (empty_card (replicate 49152 0)) calls
    ≡ 0x11 ∷ 0x12 ∷ 0x13 ∷ 0x14 ∷ 0x15 ∷ 0x16 ∷ 0x21 ∷ 0x22 ∷ 0x23 ∷ 0x24 ∷ 0x25 ∷ 0x26 ∷ 0x27 ∷ 0x28 ∷ 0x29 ∷ 0x71 ∷ 0x72 ∷ 0x73 ∷ [])
    × (gathered delivered_by (empty_card (replicate 49152 0)) calls
    ≡ 0x11 ∷ 0x12 ∷ 0x13 ∷ 0x14 ∷ 0x15 ∷ 0x16 ∷ 0x21 ∷ 0x22 ∷ 0x23 ∷ 0x24 ∷ 0x25 ∷ 0x26 ∷ 0x27 ∷ 0x28 ∷ 0x29 ∷ [])
    × (gathered dropped_by (empty_card (replicate 49152 0)) calls ≡ 0x71 ∷ 0x72 ∷ 0x73 ∷ [])
    × (bytes_held (after_all (empty_card (replicate 49152 0)) calls) ≡ [])
unfolding part rest put joined lengths_of cut_by any least sum_to up_to ahead next body_at segment_at segments wanted broken opened closed
    settled_by settled fate_by fate at_gap in_order psp_fate hear carried_out refused received_by received answer after after_all gathered
each_byte_instance = (refl, refl, refl, refl)

closed-unbroken : broken (after_all (empty_card (replicate 49152 0)) calls).table ≡ false
unfolding part rest put joined lengths_of cut_by any least sum_to up_to ahead next body_at segment_at segments wanted broken opened closed
    settled_by settled fate_by fate at_gap in_order psp_fate hear carried_out refused received_by received answer after after_all
closed-unbroken = refl

-- a close is not given the holding slice: what was held stands there still, in the place of row 0, flow 1, which begins at 2,048
close_leaves-places : part (after_all (empty_card (replicate 49152 0)) calls).holding 2048 4 ≡ 0x71 ∷ 0x72 ∷ 0x73 ∷ 0 ∷ []
unfolding part rest put joined lengths_of cut_by any least sum_to up_to ahead next body_at segment_at segments wanted broken opened closed
    settled_by settled fate_by fate at_gap in_order psp_fate hear carried_out refused received_by received answer after after_all
close_leaves-places = refl

-- `byte_account`, applied. Before the close 394 bytes have been taken: 203 delivered, 188 dropped, and 3 are held.
before_close_told : counted_by bytes_delivered empty before_close
    + counted_by bytes_dropped empty before_close
    + held_in_all (table_after_all empty before_close)
    ≡ 203 + 188 + 3
unfolding part rest put joined lengths_of cut_by any least sum_to up_to ahead next body_at segment_at segments wanted mpeg_at mpegs broken
    opened settled_by settled fate_by fate at_gap in_order psp_fate pass_all dmpt_fate hear carried_out refused received_by received
    answer after counted_by table_after_all
before_close_told = refl

-- And with one slice through all calls: A leaves 2 bytes held; then comes a frame of 3 behind a gap, and they are dropped.
abbrev before-gap : List Call
before-gap = opens (asking kind.Psp 0x101) ∷ hand A ∷ []

abbrev at_gap_lem : Card
at_gap_lem = after_all (empty_card (replicate 49152 0)) before-gap

says_2_held : held_in_all at_gap_lem.table ≡ 2
unfolding part rest put joined lengths_of any least sum_to up_to ahead next body_at segment_at segments wanted broken opened settled_by
    settled fate_by fate at_gap in_order psp_fate hear carried_out refused received_by received after after_all
says_2_held = refl

finds_3_drops_2 : (length (delivered_by at_gap_lem (hand (whole3 1))) ≡ 3) × (length (dropped_by at_gap_lem (hand (whole3 1))) ≡ 2)
unfolding part rest put joined lengths_of cut_by any least sum_to up_to ahead next body_at segment_at segments wanted broken opened
    settled_by settled fate_by fate at_gap in_order psp_fate hear carried_out refused received_by received answer after after_all
finds_3_drops_2 = (refl, refl)

abbrev pub ByteAccountHere : Type 0
ByteAccountHere =
    (counted_by bytes_taken empty before_close ≡ 394)
    × (length (bytes_held at_gap_lem) ≡ 2)
    × ((answer at_gap_lem (hand (whole3 1))).bytes ≡ 3)
    × ((answer at_gap_lem (hand (whole3 1))).dropped ≡ 2)

pub byte_account_applied : ByteAccount → ByteAccountHere
byte_account_applied theorem = (
  theorem.all_told before_close ∙ before_close_told,
  theorem.places_hold (replicate 49152 0) before-gap ∙ says_2_held,
  (theorem.as_answered (replicate 49152 0) before-gap (hand (whole3 1))).0 ∙ finds_3_drops_2.0,
  (theorem.as_answered (replicate 49152 0) before-gap (hand (whole3 1))).1 ∙ finds_3_drops_2.1,
)

-- `each_byte`, applied: the value 0x77 is delivered three times, dropped twice at a gap, and held once.
abbrev all_fates : List Call
all_fates =
    opens (asking kind.Psp 0x101)
    ∷ hand (single 0 0xC000 3 (0x77 ∷ 0x77 ∷ 0x77 ∷ []))
    ∷ hand (single 1 0x8000 3 (0x77 ∷ 0x78 ∷ 0x77 ∷ []))
    ∷ hand (single 5 0x8000 2 (0x79 ∷ 0x77 ∷ []))
    ∷ []

fates_of_77 : times 0x77 (gathered delivered_by (empty_card (replicate 49152 0)) all_fates)
    + times 0x77 (gathered dropped_by (empty_card (replicate 49152 0)) all_fates)
    + times 0x77 (bytes_held (after_all (empty_card (replicate 49152 0)) all_fates))
    ≡ 3 + 2 + 1
unfolding part rest put joined lengths_of cut_by any least sum_to up_to ahead next body_at segment_at segments wanted broken opened
    settled_by settled fate_by fate at_gap in_order psp_fate hear carried_out refused received_by received answer after after_all gathered
    times
fates_of_77 = refl

abbrev pub EachByteHere : Type 0
EachByteHere = times 0x77 (gathered taken_by (empty_card (replicate 49152 0)) all_fates) ≡ 6

pub each_byte_applied : EachByte → EachByteHere
each_byte_applied theorem = theorem (replicate 49152 0) all_fates 0x77 ∙ fates_of_77

-- `never_broken`, applied to the history with the D-MPT session, and to its last row
row_5 : 5 < 6
row_5 = omega arith

abbrev pub NeverBrokenHere : Type 0
NeverBrokenHere =
    (broken (table_after_all empty and-closes) ≡ false)
    × (length (table_after_all empty and-closes).rows ≡ 6)
    × (length (row_at (table_after_all empty and-closes) 5).flows ≡ 4)

pub never_broken_applied : NeverBroken → NeverBrokenHere
never_broken_applied theorem = (
  theorem.unbroken and-closes,
  theorem.six_rows and-closes,
  theorem.four-flows and-closes 5 row_5,
)
