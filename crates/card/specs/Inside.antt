-- Inside: what functions promise each other on the way to a result. Nobody has to believe this file: the result is said without it.
-- Here: where a packet's session is found, what its row makes of the packet, and what its flow does.
use Rattle.std.specs.Prelude.{ℕ, zero, suc, ◌+◌, ◌<◌, ◌≤◌, ◌≡◌, Result, Ok, Err, Bool, true, false, not, ◌||◌, List, [], ◌∷◌, ◌++◌, ltb}
use Rattle.std.specs.Prelude.{length}
use Rattle.refusal.specs.declared.Refusal as error
use Rattle.refusal.specs.Refusal.{Refusal, ◌when◌, first}
use Rattle.refusal.specs.Number.{number_of}
use Rattle.octets.specs.Stretch.{part, joined}
use Rattle.flow.specs.declared.Flow.{Flow}
use Rattle.flow.specs.Flow.{longest, Judged, judged_as, too_late}
use Rattle.packet.specs.Header.{Packet, sub, session_id, id_length, longest_packet}
use Rattle.table.specs.declared.Row.{Row}
use Rattle.table.specs.declared.Table.{Table}
use Rattle.table.specs.declared.Terms.{Terms}
use Rattle.table.specs.Rows.{rows, is_dmpt, row_with, with_row}
use Rattle.table.specs.Broken.{row_broken}
use Rattle.table.specs.Calls.{is_open}
use Rattle.join.specs.declared.Tally.{Tally}
use Rattle.join.specs.Slices.{Slices, most_frames, most_bytes}
use Rattle.join.specs.Inside.{nothing_yet, Placed, Within}
use Rattle.card.specs.declared.Sought.{Sought}
use Rattle.card.specs.declared.Hearing.{Hearing}
use Rattle.card.specs.declared.Taken.{Taken}
use Rattle.card.specs.Hear.{judged_of, fate_of, Heard, record_after}
use Rattle.card.specs.declared.Received.{Received}
use Rattle.card.specs.Receive.{holding_size, row_of, flow_number, heard_in, slices_after}
use Rattle.card.specs.Receive.{too_small, early_refusals, packet_refusals, row_refusals}

-- Refusal 1, from the lengths of the slices.
abbrev pub small_by : ℕ → ℕ → ℕ → Bool
small_by holding output lengths = ltb holding holding_size || ltb output most_bytes || ltb lengths most_frames

-- Seeking a packet's session: refusals 1, 13, 24, 2, 3, 15, 4 and 5; or its row. A row is named in any case, so that there is one to be put
-- back.
abbrev pub seek_refusals : Table → Packet → Bool → List Refusal
seek_refusals t p small = 1 when small ∷ early_refusals t p ++ (5 when not (is_open t (session_id p)) ∷ [])

pub record Found : Type 0 where
  pub code : ℕ
  pub row : ℕ

abbrev pub not_found : ℕ → Found
not_found number = record { code = number; row = 0 }

-- .. as the code says it
abbrev pub found_by : Result Sought error.Refusal → Found
found_by (Ok sought) = record { code = 0; row = sought.at }
found_by (Err refusal) = not_found (number_of refusal)

pub record Seeks (t : Table) (p : Packet) (small : Bool) (found : Found) : Type 0 where
  pub its_number : found.code ≡ first (seek_refusals t p small)
  pub its_row : found.code ≡ 0 → found.row ≡ row_of t p
  pub in_table : found.row < rows

-- What a row makes of a packet: the first refusal of 6, 7 and 9 to 12, with the row as it was; or what its flow hears, with the flow's
-- next record.
pub record RowAnswer : Type 0 where
  pub code : ℕ
  pub frames : ℕ
  pub bytes : ℕ
  pub dropped : ℕ
  pub gap : ℕ
  pub row : Row

pub record TakenOutcome : Type 0 where
  pub taken : RowAnswer
  pub slices : Slices

abbrev pub not_taken : ℕ → Row → RowAnswer
not_taken number row = record { code = number; frames = 0; bytes = 0; dropped = 0; gap = 0; row = row }

-- .. as the code says it, of the row that it was given
abbrev pub accepted_by : Row → Taken → RowAnswer
accepted_by row taken =
    record {
      code = 0;
      frames = taken.frames;
      bytes = taken.bytes;
      dropped = taken.dropped;
      gap = taken.gap;
      row = taken.row;
    }

abbrev pub row_answer : Row → Result Taken error.Refusal → RowAnswer
row_answer row (Ok taken) = accepted_by row taken
row_answer row (Err refusal) = not_taken (number_of refusal) row

abbrev pub hears_in : ℕ → Heard → Row → RowAnswer
hears_in k h row =
    record {
      code = 0;
      frames = length h.fate.delivered;
      bytes = length (joined h.fate.delivered);
      dropped = length h.fate.dropped;
      gap = h.judged.gap;
      row = row_with row k (record_after h);
    }

abbrev pub taken_as : ℕ → ℕ → Row → List ℕ → Slices → TakenOutcome
taken_as zero r row sub s =
    record {
      taken = hears_in (flow_number row sub) (heard_in row r sub s) row;
      slices = slices_after r (flow_number row sub) (heard_in row r sub s) s;
    }
taken_as (suc c) r row sub s = record { taken = not_taken (suc c) row; slices = s }

unfoldable pub takes : ℕ → Row → Packet → Slices → TakenOutcome
takes r row p s = taken_as (first (row_refusals row (sub p))) r row (sub p) s

-- what the call answers where row r accepts the packet: the counts, and the table with that row put back
abbrev pub accepted_answer : Table → ℕ → Taken → Received
accepted_answer t r taken =
    record {
      code = 0;
      frames = taken.frames;
      bytes = taken.bytes;
      dropped = taken.dropped;
      gap = taken.gap;
      table = with_row t r taken.row;
    }

-- what a row is given: all that can be refused without it has passed (that there is a whole header says the packet's type, `DataPacket`)
pub record Ready (row : Row) (p : Packet) (s : Slices) : Type 0 where
  pub large : too_small s ≡ false
  pub sound : row_broken row ≡ false
  pub short : id_length + length (sub p) ≤ longest_packet

-- the answer that shows the counts, for flow k and the number as judged
abbrev pub answered : Row → ℕ → Judged → Tally → RowAnswer
answered row k j tally =
    record {
      code = 0;
      frames = tally.frames;
      bytes = tally.bytes;
      dropped = tally.dropped;
      gap = j.gap;
      row = row_with row k (record { heard = j.flow.heard; expected = j.flow.expected; held = tally.held });
    }

-- What a flow is given: refusals 6, 7 and 9 to 11 have passed, and it holds no more than it may.
pub record Hearable (terms : Terms) (held : ℕ) (sub : List ℕ) : Type 0 where
  pub most : terms.longest ≤ longest
  pub fits : held ≤ terms.longest
  pub bare : is_dmpt terms.kind ≡ true → held ≡ 0
  pub short : id_length + length sub ≤ longest_packet
  pub passed : first (packet_refusals terms sub) ≡ 0

-- What it does: the number is judged, and unless it is late the bytes are placed. A late packet changes none of the slices.
pub record HearsIt (terms : Terms) (f : Flow) (place : ℕ) (sub : List ℕ) (s : Slices) (h : Hearing) (s' : Slices) : Type 0 where
  pub judges : judged_as h.accepted ≡ judged_of f sub
  pub places : Placed (fate_of terms h.accepted.gap (part s.holding place f.held) sub) place nothing_yet s h.tally s'
  pub within : Within h.tally

pub record RefusesLate (f : Flow) (sub : List ℕ) (s : Slices) (refusal : error.Refusal) (s' : Slices) : Type 0 where
  pub its_number : number_of refusal ≡ 12
  pub judges : too_late f ≡ judged_of f sub
  pub leaves : s' ≡ s

abbrev pub Hears : Terms → Flow → ℕ → List ℕ → Slices → Result Hearing error.Refusal → Slices → Type 0
Hears terms f place sub s (Ok h) s' = HearsIt terms f place sub s h s'
Hears terms f place sub s (Err refusal) s' = RefusesLate f sub s refusal s'
