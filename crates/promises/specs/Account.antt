-- The byte account (document 01, end of "Opening, closing, listening"): over any calls from an empty table, the body bytes of accepted
-- packets are the bytes delivered, the bytes dropped, those of closes included, and the bytes held. First by number, as the answers and the
-- table give them, then by the bytes themselves: each byte's fate is told by the segment rules, call after call, and none is found by
-- subtraction.
use Rattle.std.specs.Prelude.{ℕ, ◌+◌, ◌≡◌, cond, List, [], ◌∷◌, ◌++◌, map, eqb, length}
use Rattle.octets.specs.Stretch.{part, joined}
use Rattle.octets.specs.Count.{sum_to, up_to}
use Rattle.flow.specs.Flow.{flows}
use Rattle.packet.specs.Header.{sub}
use Rattle.packet.specs.Segments.{Segment, segments}
use Rattle.packet.specs.Dmpt.{mpegs}
use Rattle.table.specs.declared.Table.{Table}
use Rattle.table.specs.declared.Kind.{Kind}
use Rattle.table.specs.Rows.{rows, is_dmpt, row_at, flow_at, find, held_in, empty, terms_at}
use Rattle.card.specs.Hear.{width_in}
use Rattle.card.specs.Receive.{place_of, row_of, heard_by}
use Rattle.card.specs.History.{Card, Call, opens, closes, hands, frames_of, lent_with, takes_in, answer, after, after_all, empty_card}

-- the body of a packet: the bodies of its segments, or its MPEG packets, those with PID 0x1FFF included
abbrev pub packet_body : Kind → List ℕ → List ℕ
packet_body kind sub = cond (is_dmpt kind) (joined (mpegs sub)) (joined (map (λ (s : Segment). s.body) (segments (width_in kind) sub)))

-- the body bytes that a call brings in: those of a packet that is accepted
abbrev pub taken_by : Card → Call → List ℕ
taken_by c (opens q) = []
taken_by c (closes id) = []
taken_by c (hands a) =
    cond (takes_in c a)
    (packet_body (terms_at c.table (row_of c.table a.packet)).kind (sub a.packet)) []

-- A history for the numbers: each call may bring another holding slice, of any length and with anything in it. Only the table goes on.
pub record Lent : Type 0 where
  pub holding : List ℕ
  pub call : Call

abbrev pub card_for : Table → Lent → Card
card_for t l = record { table = t; holding = l.holding }

abbrev pub table_after : Table → Lent → Table
table_after t l = (after (card_for t l) l.call).table

unfoldable pub table_after_all : Table → List Lent → Table
table_after_all t [] = t
table_after_all t (l ∷ more) = table_after_all (table_after t l) more

-- something that each call of the history counts, all together
unfoldable pub counted_by : (Card → Call → ℕ) → Table → List Lent → ℕ
counted_by count t [] = 0
counted_by count t (l ∷ more) = count (card_for t l) l.call + counted_by count (table_after t l) more

abbrev pub bytes_taken : Card → Call → ℕ
bytes_taken c x = length (taken_by c x)

abbrev pub bytes_delivered : Card → Call → ℕ
bytes_delivered c x = (answer c x).bytes

abbrev pub bytes_dropped : Card → Call → ℕ
bytes_dropped c x = (answer c x).dropped

-- what all rows together hold, as the table says
abbrev pub held_in_all : Table → ℕ
held_in_all t = sum_to (λ r. held_in (row_at t r)) rows

-- the bytes in the places of a row, and in those of all rows, as many of each as the table says
abbrev pub bytes_of_row : Card → ℕ → List ℕ
bytes_of_row c r = joined (up_to (λ k. part c.holding (place_of r k) (flow_at (row_at c.table r) k).held) flows)

abbrev pub bytes_held : Card → List ℕ
bytes_held c = joined (up_to (bytes_of_row c) rows)

-- the bytes that a call delivers, as the caller finds them in the output
abbrev pub delivered_by : Card → Call → List ℕ
delivered_by c x = joined (frames_of (answer c x))

-- The bytes that a call drops. No slice shows them, so they are told by the rules: of an accepted packet by what its flow makes of it; a
-- close drops what its row holds; an open, or a call that is refused, drops none.
abbrev pub dropped_by : Card → Call → List ℕ
dropped_by c (opens q) = []
dropped_by c (closes id) = cond (eqb (answer c (closes id)).code 0) (bytes_of_row c (find c.table id)) []
dropped_by c (hands a) =
    cond (takes_in c a)
    (heard_by c.table (row_of c.table a.packet) (sub a.packet) (lent_with c a)).fate.dropped []

-- `byte_account`: the numbers, over any history; and where one holding slice goes through all calls, the places hold as many bytes as the
-- table says, and each further call delivers and drops as many as it answers.
pub record ByteAccount : Type 0 where
  pub all_told : (calls : List Lent) →
      counted_by bytes_taken empty calls
      ≡ counted_by bytes_delivered empty calls
      + counted_by bytes_dropped empty calls
      + held_in_all (table_after_all empty calls)
  pub places_hold : (holding : List ℕ) (calls : List Call) →
      length (bytes_held (after_all (empty_card holding) calls)) ≡ held_in_all (after_all (empty_card holding) calls).table
  pub as_answered : (holding : List ℕ) (calls : List Call) (x : Call) →
      let c = after_all (empty_card holding) calls in
      ((answer c x).bytes ≡ length (delivered_by c x)) × ((answer c x).dropped ≡ length (dropped_by c x))

-- what each call of a history adds, one behind the other
unfoldable pub gathered : (Card → Call → List ℕ) → Card → List Call → List ℕ
gathered what c [] = []
gathered what c (x ∷ more) = what c x ++ gathered what (after c x) more

-- how often a value stands in a list
unfoldable pub times : ℕ → List ℕ → ℕ
times value [] = 0
times value (b ∷ more) = cond (eqb b value) 1 0 + times value more

-- `each_byte`: each value came in as often as it is delivered, dropped or held. The elements of a list are numbers of any size here, and
-- the rules never look into the body of a segment: so one may give all body bytes of a history of PSP packets different numbers, and follow
-- each of them. (That the elements are bytes is on purpose not asked for.) It says nothing of their order, nor which frame a byte is in:
-- that is demand 3's.
abbrev pub EachByte : Type 0
EachByte =
    (holding : List ℕ) (calls : List Call) (value : ℕ) →
    times value (gathered taken_by (empty_card holding) calls)
    ≡ times value (gathered delivered_by (empty_card holding) calls)
    + times value (gathered dropped_by (empty_card holding) calls)
    + times value (bytes_held (after_all (empty_card holding) calls))
