-- Closed instances of what a PSP packet without a number does: with bytes held, on a fresh flow, twice, between packets of another flow,
-- over both transports, with several numbers in its field, at 2,048 and 2,049 bytes; and what the account says of them. And the statements
-- of document 02, W2, applied to closed cards. They cite definitions alone, so that they can be held against wrong ones.
use Prim.Native.Nat.{ℕ, ◌+◌}
use mathlib.Core.Path.{◌≡◌, refl, ◌∙◌}
use mathlib.Core.Bool.{true, false}
use mathlib.Core.List.{List, [], ◌∷◌, ◌++◌, map}
use lib.ListN.{length, take, set, replicate}
use Rattle.octets.specs.Stretch.{part, rest, put, joined, lengths_of, cut_by}
use Rattle.octets.specs.Count.{any, least, sum_to, up_to}
use Rattle.flow.specs.Numbers.{ahead, next}
use Rattle.flow.specs.declared.Flow.{Flow}
use Rattle.flow.specs.Flow.{fresh, emptied}
use Rattle.packet.specs.Header.{Packet, ip, in_udp, sub, s_set, session_id}
use Rattle.packet.specs.Segments.{entry_width, body_at, segment_at, segments}
use Rattle.packet.specs.Psp.{wanted}
use Rattle.packet.specs.Check.{check_refusals, check, cause_refusals, segment_cause}
use Rattle.table.specs.declared.Kind.TheVariants as kind
use Rattle.table.specs.declared.Table.{Table}
use Rattle.table.specs.Rows.{is_dmpt, terms_at, closed_row, empty, with_flow}
use Rattle.table.specs.Broken.{broken}
use Rattle.table.specs.Calls.{is_open, asking, opened, opened_by_number}
use Rattle.join.specs.Join.{settled_by, settled, fate_by, fate, at_gap, in_order, psp_fate}
use Rattle.pass.specs.Pass.{pass_all, unnumbered_fate}
use Rattle.card.specs.Hear.{hear}
use Rattle.card.specs.Receive.{too_small, row_of, flow_to, flow_of, carried_out, refused, received_by, received}
use Rattle.card.specs.History.{Card, Arrival, Call, opens, hands, lent_with, frames_of, answer, after, after_all, empty_card}
use Rattle.promises.specs.Words.{chosen}
use Rattle.promises.specs.Account.{Lent, bytes_taken, bytes_delivered, bytes_dropped, counted_by, table_after_all, held_in_all}
use Rattle.promises.specs.Account.{gathered, dropped_by}
use Rattle.promises.specs.Unnumbered.{whole_ones, others, UnnumberedAccepted, UnnumberedDelivers, NeverGiven}
use Rattle.promises.specs.Marked.{A, B, whole3, hand}

-- a card on which session 0x101 is open, and then these calls
abbrev card : List Call → Card
card calls = after_all (empty_card (replicate 49152 0)) (opens (asking kind.Psp 0x101) ∷ calls)

-- a packet of flow 1 without its number, and with another number in the field
abbrev clear : List ℕ → List ℕ
clear packet = set packet 4 0x01

abbrev saying : ℕ → ℕ → List ℕ → List ℕ
saying high low packet = set (set packet 6 high) 7 low

abbrev hand-udp : List ℕ → Call
hand-udp packet = hands (record { packet = in_udp packet; output = replicate 6144 0; lengths = replicate 127 0 })

-- what a call is answered
abbrev told : Card → Call → List ℕ
told c x = (answer c x).code ∷ (answer c x).frames ∷ (answer c x).bytes ∷ (answer c x).dropped ∷ (answer c x).gap ∷ []

-- A leaves 2 bytes held, the front of a frame whose end is in B. B without its number is not joined to them: all 9 are dropped, whatever
-- its field says, and number 0 is expected as before. So B with its number then comes in time, without a gap, and finds nothing to join.
pub nothing_joined : (told (card (hand A ∷ [])) (hand (clear B)) ≡ 0 ∷ 0 ∷ 0 ∷ 9 ∷ 0 ∷ [])
    × (told (card (hand A ∷ [])) (hand (saying 0x00 0x05 (clear B))) ≡ 0 ∷ 0 ∷ 0 ∷ 9 ∷ 0 ∷ [])
    × (told (card (hand A ∷ [])) (hand (saying 0x80 0x00 (clear B))) ≡ 0 ∷ 0 ∷ 0 ∷ 9 ∷ 0 ∷ [])
    × (told (card (hand A ∷ hand (clear B) ∷ [])) (hand B) ≡ 0 ∷ 0 ∷ 0 ∷ 7 ∷ 0 ∷ [])
    × (told (card (hand A ∷ hand (clear B) ∷ [])) (hand (clear B)) ≡ 0 ∷ 0 ∷ 0 ∷ 7 ∷ 0 ∷ [])
unfolding part rest put joined lengths_of any least sum_to up_to ahead next body_at segment_at segments wanted broken opened settled_by
    settled fate_by fate at_gap in_order psp_fate pass_all unnumbered_fate hear carried_out refused received_by received answer after
    after_all
nothing_joined = (refl, refl, refl, refl, refl)

-- So demand 3 asks that no packet without a number comes on the flow: A, a whole frame of 3 without a number, then B. Both packets of the
-- frame of 9 arrived, before any packet sent after them, and it does not come out.
pub premise_needed : (told (card (hand A ∷ [])) (hand (clear (whole3 0))) ≡ 0 ∷ 1 ∷ 3 ∷ 2 ∷ 0 ∷ [])
    × (told (card (hand A ∷ hand (clear (whole3 0)) ∷ [])) (hand B) ≡ 0 ∷ 0 ∷ 0 ∷ 7 ∷ 0 ∷ [])
unfolding part rest put joined lengths_of any least sum_to up_to ahead next body_at segment_at segments wanted broken opened settled_by
    settled fate_by fate at_gap in_order psp_fate pass_all unnumbered_fate hear carried_out refused received_by received answer after
    after_all
premise_needed = (refl, refl)

-- On a fresh flow A without its number gives its frame of 6, and the 2 bytes behind it are dropped. The flow stays fresh: the card is as it
-- was, twice over, and over UDP too; then B with any number is taken without a gap.
pub stays_fresh : (frames_of (answer (card []) (hand (clear A))) ≡ (0x11 ∷ 0x12 ∷ 0x13 ∷ 0x14 ∷ 0x15 ∷ 0x16 ∷ []) ∷ [])
    × (told (card []) (hand (clear A)) ≡ 0 ∷ 1 ∷ 6 ∷ 2 ∷ 0 ∷ [])
    × (card (hand (clear A) ∷ hand-udp (clear A) ∷ []) ≡ card [])
    × (told (card (hand (clear A) ∷ [])) (hand (saying 0x90 0x00 B)) ≡ 0 ∷ 0 ∷ 0 ∷ 7 ∷ 0 ∷ [])
unfolding part rest put joined lengths_of cut_by any least sum_to up_to ahead next body_at segment_at segments wanted broken opened
    settled_by settled fate_by fate at_gap in_order psp_fate pass_all unnumbered_fate hear carried_out refused received_by received answer
    after after_all
stays_fresh = (refl, refl, refl, refl)

-- One on flow 2 leaves what flow 1 holds: B gives its frame of 9.
pub another_flow : (told (card (hand A ∷ [])) (hand (set A 4 0x02)) ≡ 0 ∷ 1 ∷ 6 ∷ 2 ∷ 0 ∷ [])
    × (told (card (hand A ∷ hand (set A 4 0x02) ∷ [])) (hand B) ≡ 0 ∷ 1 ∷ 9 ∷ 0 ∷ 0 ∷ [])
unfolding part rest put joined lengths_of any least sum_to up_to ahead next body_at segment_at segments wanted broken opened settled_by
    settled fate_by fate at_gap in_order psp_fate pass_all unnumbered_fate hear carried_out refused received_by received answer after
    after_all
another_flow = (refl, refl)

-- A whole frame of 2,048 bytes, one of 2,049; two whole frames between pieces: they come out in order, and nothing is held.
abbrev one : ℕ → ℕ → ℕ → List ℕ
one high low n = 0x00 ∷ 0x00 ∷ 0x01 ∷ 0x01 ∷ 0x01 ∷ 0x01 ∷ 0x00 ∷ 0x00 ∷ high ∷ low ∷ replicate n 0x66

abbrev four : List ℕ
four =
    0x00 ∷ 0x00 ∷ 0x01 ∷ 0x01 ∷ 0x01 ∷ 0x04 ∷ 0x12 ∷ 0x34 ∷ 0x40 ∷ 0x01 ∷ 0xC0 ∷ 0x02 ∷ 0xC0 ∷ 0x01 ∷ 0x80 ∷ 0x03
    ∷ 0x31 ∷ 0x41 ∷ 0x42 ∷ 0x51 ∷ 0x61 ∷ 0x62 ∷ 0x63 ∷ []

pub whole_ones_lem : (told (card []) (hand (one 0xC8 0x00 2048)) ≡ 0 ∷ 1 ∷ 2048 ∷ 0 ∷ 0 ∷ [])
    × (told (card []) (hand (one 0xC8 0x01 2049)) ≡ 0 ∷ 0 ∷ 0 ∷ 2049 ∷ 0 ∷ [])
    × (frames_of (answer (card (hand A ∷ [])) (hand four)) ≡ (0x41 ∷ 0x42 ∷ []) ∷ (0x51 ∷ []) ∷ [])
    × (told (card (hand A ∷ [])) (hand four) ≡ 0 ∷ 2 ∷ 3 ∷ 6 ∷ 0 ∷ [])
    × (told (card (hand A ∷ hand four ∷ [])) (hand B) ≡ 0 ∷ 0 ∷ 0 ∷ 7 ∷ 0 ∷ [])
    × (s_set (sub (ip four)) ≡ false)
    × (whole_ones (segments entry_width (sub (ip four))) ≡ (0x41 ∷ 0x42 ∷ []) ∷ (0x51 ∷ []) ∷ [])
    × (others (segments entry_width (sub (ip four))) ≡ (0x31 ∷ []) ∷ (0x61 ∷ 0x62 ∷ 0x63 ∷ []) ∷ [])
unfolding part rest put joined lengths_of cut_by any least sum_to up_to ahead next body_at segment_at segments wanted broken opened
    settled_by settled fate_by fate at_gap in_order psp_fate pass_all unnumbered_fate hear carried_out refused received_by received answer
    after after_all chosen
whole_ones_lem = (refl, refl, refl, refl, refl, refl, refl, refl)

-- 8 is given neither by the check nor by the request for a segment.
pub no_eight : (check 1 (ip (clear A)) ≡ 0) × (segment_cause 1 (ip (clear A)) 1 ≡ 0) × (segment_cause 1 (in_udp (clear A)) 2 ≡ 14)
unfolding check check_refusals segment_cause cause_refusals body_at rest wanted any sum_to
no_eight = (refl, refl, refl)

-- The account: the 2 bytes that A leaves and the 4 that are no frame of `four` are dropped, each once.
abbrev calls : List Call
calls = opens (asking kind.Psp 0x101) ∷ hand A ∷ hand four ∷ []

abbrev lent : List Lent
lent = map (λ (x : Call). record { holding = replicate 49152 0; call = x }) calls

pub account_without : (counted_by bytes_taken empty lent ≡ 15)
    × (counted_by bytes_delivered empty lent ≡ 9)
    × (counted_by bytes_dropped empty lent ≡ 6)
    × (held_in_all (table_after_all empty lent) ≡ 0)
    × (gathered dropped_by (empty_card (replicate 49152 0)) calls ≡ 0x21 ∷ 0x22 ∷ 0x31 ∷ 0x61 ∷ 0x62 ∷ 0x63 ∷ [])
unfolding part rest put joined lengths_of cut_by any least sum_to up_to ahead next body_at segment_at segments wanted broken opened
    settled_by settled fate_by fate at_gap in_order psp_fate pass_all unnumbered_fate hear carried_out refused received_by received answer
    after counted_by table_after_all gathered
account_without = (refl, refl, refl, refl, refl)

-- `unnumbered_delivers`, applied. Flow 1 of session 0x101 expects number 7 and holds 2 bytes. `four` comes over UDP, with 0x1234 in its
-- field.
abbrev table : Flow → Table
table flow =
    record {
      rows =
          record { id = 0x101; kind = 1; flows = fresh ∷ flow ∷ fresh ∷ fresh ∷ [] }
          ∷ closed_row
          ∷ closed_row
          ∷ closed_row
          ∷ closed_row
          ∷ closed_row
          ∷ [];
    }

abbrev waiting : Card
waiting =
    record {
      table = table (record { heard = 1; expected = 7; held = 2 });
      holding = replicate 2048 0 ++ (0x21 ∷ 0x22 ∷ replicate 47102 0);
    }

abbrev arrives : Packet → Arrival
arrives packet = record { packet = packet; output = replicate 6144 0; lengths = replicate 127 0 }

abbrev comes : Arrival
comes = arrives (in_udp four)

-- Another card, another packet: flow 3 of the session in row 2 is fresh, and the packet comes over IP, with one whole frame; beside it a
-- D-MPT session, and a PSP session that holds a byte.
abbrev beside : Card
beside =
    record {
      table = record {
        rows =
            record { id = 0x104; kind = 2; flows = replicate 4 fresh }
            ∷ record { id = 0x102; kind = 1; flows = record { heard = 1; expected = 0; held = 1 } ∷ replicate 3 fresh }
            ∷ record { id = 0x80000001; kind = 1; flows = replicate 4 fresh }
            ∷ closed_row
            ∷ closed_row
            ∷ closed_row
            ∷ [];
      };
      holding = replicate 49152 3;
    }

abbrev alone : Arrival
alone = arrives (ip (0x80 ∷ 0x00 ∷ 0x00 ∷ 0x01 ∷ 0x03 ∷ 0x01 ∷ 0xFF ∷ 0xFF ∷ 0xC0 ∷ 0x02 ∷ 0x71 ∷ 0x72 ∷ []))

-- the premises: the session is PSP, S is clear, and the packet is accepted
both_psp : (is_dmpt (terms_at waiting.table (row_of waiting.table comes.packet)).kind ≡ false)
    × (is_dmpt (terms_at beside.table (row_of beside.table alone.packet)).kind ≡ false)
unfolding any least
both_psp = (refl, refl)

both_clear : (s_set (sub comes.packet) ≡ false) × (s_set (sub alone.packet) ≡ false)
unfolding rest
both_clear = (refl, refl)

both_accepted : ((answer waiting (hands comes)).code ≡ 0) × ((answer beside (hands alone)).code ≡ 0)
unfolding part rest put joined lengths_of any least sum_to up_to body_at segment_at segments wanted broken in_order pass_all
    unnumbered_fate hear carried_out refused received_by received answer
both_accepted = (refl, refl)

-- what is in the packets, and what becomes of the flows' records
whole_of_four : (whole_ones (segments entry_width (sub comes.packet)) ≡ (0x41 ∷ 0x42 ∷ []) ∷ (0x51 ∷ []) ∷ [])
    × (length (joined (whole_ones (segments entry_width (sub comes.packet)))) ≡ 3)
    × (whole_ones (segments entry_width (sub alone.packet)) ≡ (0x71 ∷ 0x72 ∷ []) ∷ [])
unfolding part rest joined any least sum_to up_to body_at segment_at segments chosen
whole_of_four = (refl, refl, refl)

held-and-others : (flow_of waiting.table (row_of waiting.table comes.packet) (sub comes.packet)).held
    + length (joined (others (segments entry_width (sub comes.packet))))
    ≡ 2 + 4
unfolding part rest joined any least sum_to up_to body_at segment_at segments chosen
held-and-others = refl

abbrev with_emptied : Table → Packet → Table
with_emptied t p = with_flow t (row_of t p) (flow_to t (row_of t p) (sub p)) (emptied (flow_of t (row_of t p) (sub p)))

still_7 : (with_emptied waiting.table comes.packet ≡ table (record { heard = 1; expected = 7; held = 0 }))
    × (with_emptied beside.table alone.packet ≡ beside.table)
unfolding rest any least
still_7 = (refl, refl)

-- two frames; 2 held bytes and 4 more dropped; gap 0; the places as they were; number 7 expected still; and on the fresh flow its frame,
-- and the table as it was
abbrev pub UnnumberedDeliversHere : Type 0
UnnumberedDeliversHere =
    (frames_of (answer waiting (hands comes)) ≡ (0x41 ∷ 0x42 ∷ []) ∷ (0x51 ∷ []) ∷ [])
    × ((answer waiting (hands comes)).bytes ≡ 3)
    × ((answer waiting (hands comes)).dropped ≡ 6)
    × ((answer waiting (hands comes)).gap ≡ 0)
    × ((after waiting (hands comes)).holding ≡ waiting.holding)
    × ((after waiting (hands comes)).table ≡ table (record { heard = 1; expected = 7; held = 0 }))
    × (frames_of (answer beside (hands alone)) ≡ (0x71 ∷ 0x72 ∷ []) ∷ [])
    × ((after beside (hands alone)).table ≡ beside.table)

pub unnumbered_delivers_applied : UnnumberedDelivers → UnnumberedDeliversHere
unnumbered_delivers_applied theorem =
    let delivers = theorem waiting comes both_psp.0 both_clear.0 both_accepted.0 in
    let one-beside = theorem beside alone both_psp.1 both_clear.1 both_accepted.1 in (
      delivers.frames_are ∙ whole_of_four.0,
      delivers.bytes_are ∙ whole_of_four.1,
      delivers.dropped_are ∙ held-and-others,
      delivers.no_gap,
      delivers.places_stay,
      delivers.only_emptied ∙ still_7.0,
      one-beside.frames_are ∙ whole_of_four.2,
      one-beside.only_emptied ∙ still_7.1,
    )

-- `unnumbered-accepted`, applied: `four` is accepted, since it passes the check; without its last byte it is answered 10, as the check
-- answers
abbrev cut_short : Arrival
cut_short = arrives (in_udp (take 22 four))

accepted_instance : ((answer waiting (hands comes)).code ≡ 0)
    × (check 1 comes.packet ≡ 0)
    × ((answer waiting (hands cut_short)).code ≡ 10)
    × (check 1 cut_short.packet ≡ 10)
unfolding part rest put joined lengths_of any least sum_to up_to body_at segment_at segments wanted check check_refusals broken in_order
    pass_all unnumbered_fate hear carried_out refused received_by received answer
accepted_instance = (refl, refl, refl, refl)

large-enough : (too_small (lent_with waiting comes) ≡ false) × (too_small (lent_with waiting cut_short) ≡ false)
large-enough = (refl, refl)

not-broken : broken waiting.table ≡ false
unfolding any least sum_to broken
not-broken = refl

both_open : (is_open waiting.table (session_id comes.packet) ≡ true) × (is_open waiting.table (session_id cut_short.packet) ≡ true)
unfolding any least
both_open = (refl, refl)

cut_is_psp : is_dmpt (terms_at waiting.table (row_of waiting.table cut_short.packet)).kind ≡ false
unfolding any least
cut_is_psp = refl

cut_is_clear : s_set (sub cut_short.packet) ≡ false
unfolding rest
cut_is_clear = refl

abbrev pub UnnumberedAcceptedHere : Type 0
UnnumberedAcceptedHere = ((answer waiting (hands comes)).code ≡ 0) × ((answer waiting (hands cut_short)).code ≡ 10)

pub unnumbered-accepted_applied : UnnumberedAccepted → UnnumberedAcceptedHere
unnumbered-accepted_applied theorem =
    let passes = theorem waiting comes large-enough.0 not-broken both_open.0 both_psp.0 both_clear.0 in
    let does_not = theorem waiting cut_short large-enough.1 not-broken both_open.1 cut_is_psp cut_is_clear in
    (passes ∙ accepted_instance.1, does_not ∙ accepted_instance.3)

-- `never_given`, applied to the card and the packet of above, and to an open by number 3, which is no kind
abbrev pub NeverGivenHere : Type 0
NeverGivenHere =
    ((answer waiting (hands comes)).code ≡ 8 → ⊥)
    × ((opened_by_number waiting.table 0x102 3).code ≡ 8 → ⊥)
    × (check 1 (in_udp four) ≡ 8 → ⊥)
    × (segment_cause 1 (in_udp four) 0 ≡ 8 → ⊥)
    × ((answer waiting (hands comes)).code ≡ 12 → ⊥)

pub never_given_applied : NeverGiven → NeverGivenHere
never_given_applied theorem = (
  theorem.eight_by_call waiting (hands comes),
  theorem.eight_by_number waiting.table 0x102 3,
  theorem.eight_by_check 1 (in_udp four),
  theorem.eight_by_request 1 (in_udp four) 0,
  theorem.twelve_unnumbered waiting comes both_clear.0,
)
