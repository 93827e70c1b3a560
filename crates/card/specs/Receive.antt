-- The data call, whole (document 01, "The card in numbers", "Opening, closing, listening" and "Refusal numbers"; document 02, W1 and W2).
-- It is given the table, a packet with its transport, and three slices: the holding slice, and two for what comes out, the frames back to
-- back and their lengths. Either it is refused, with the first number of the order that applies, all counts 0 and everything as it was;
-- or the packet's flow hears it, and that flow's record, its place and what is delivered are all that changes.
use Rattle.std.specs.Prelude.{ℕ, zero, suc, ◌+◌, ◌*◌, ◌≡◌, Bool, cond, not, ◌||◌, List, [], ◌∷◌, ◌++◌, ltb, length}
use Rattle.refusal.specs.Refusal.{Refusal, ◌when◌, first}
use Rattle.octets.specs.Stretch.{part, put, joined, lengths_of, cut_by}
use Rattle.flow.specs.declared.Flow.{Flow}
use Rattle.flow.specs.Flow.{longest, flows}
use Rattle.packet.specs.Header.{Packet, sub, session_id, before_session}
use Rattle.packet.specs.Psp.{psp_refusals}
use Rattle.packet.specs.Dmpt.{dmpt_refusals}
use Rattle.table.specs.declared.Row.{Row}
use Rattle.table.specs.declared.Table.{Table}
use Rattle.table.specs.declared.Terms.{Terms}
use Rattle.table.specs.Rows.{rows, is_dmpt, terms_of, row_at, flow_at, find, with_flow}
use Rattle.table.specs.Broken.{broken}
use Rattle.table.specs.Calls.{is_open}
use Rattle.join.specs.Slices.{Slices, most_frames, most_bytes}
use Rattle.card.specs.declared.Received.{Received}
use Rattle.card.specs.Hear.{width_in, flow_in, Heard, judged_of, hear, record_after}

-- A place of 2,048 bytes for each flow of each row, row by row: 49,152 bytes, and the place of row r, flow k starts at (4r + k) x 2,048.
abbrev pub holding_size : ℕ
holding_size = rows * flows * longest

abbrev pub place_of : ℕ → ℕ → ℕ
place_of r k = (flows * r + k) * longest

-- Everything that a call answers and leaves: the table afterwards is in the answer.
pub record Outcome : Type 0 where
  pub answer : Received
  pub slices : Slices

-- Where a packet goes. Its session's row is r (6, where the session is not open), and that row's terms say how it is read; its flow there
-- has a record, and the bytes that this flow holds are the first ones of its place; and so the flow hears the packet. All but `row_of` is
-- said of a row by itself, and then of row r of a table.
abbrev pub row_of : Table → Packet → ℕ
row_of t p = find t (session_id p)

abbrev pub flow_number : Row → List ℕ → ℕ
flow_number row sub = flow_in (terms_of row).kind sub

abbrev pub flow_for : Row → List ℕ → Flow
flow_for row sub = flow_at row (flow_number row sub)

abbrev pub held_for : Row → ℕ → List ℕ → Slices → List ℕ
held_for row r sub s = part s.holding (place_of r (flow_number row sub)) (flow_for row sub).held

abbrev pub heard_in : Row → ℕ → List ℕ → Slices → Heard
heard_in row r sub s = hear (terms_of row) (flow_for row sub) (held_for row r sub s) sub

abbrev pub flow_to : Table → ℕ → List ℕ → ℕ
flow_to t r sub = flow_number (row_at t r) sub

abbrev pub flow_of : Table → ℕ → List ℕ → Flow
flow_of t r sub = flow_for (row_at t r) sub

abbrev pub held_by : Table → ℕ → List ℕ → Slices → List ℕ
held_by t r sub s = held_for (row_at t r) r sub s

abbrev pub heard_by : Table → ℕ → List ℕ → Slices → Heard
heard_by t r sub s = heard_in (row_at t r) r sub s

-- The refusals, in order: 1, 13, 24 for the transport, 2, 3, 15, 4, 5, then 6, 7 and 9 to 11 by the kind of the session, and 12 where the
-- packet has a number.
abbrev pub too_small : Slices → Bool
too_small s = ltb (length s.holding) holding_size || ltb (length s.output) most_bytes || ltb (length s.lengths) most_frames

-- 13, then 24, 2, 3, 15 and 4, which need no session
abbrev pub early_refusals : Table → Packet → List Refusal
early_refusals t p = 13 when broken t ∷ before_session p

-- 6, 7 and 9 to 11, by the terms of the session
abbrev pub packet_refusals : Terms → List ℕ → List Refusal
packet_refusals terms sub = cond (is_dmpt terms.kind) (dmpt_refusals sub) (psp_refusals (width_in terms.kind) sub)

-- those that need the session's row: 6, 7 and 9 to 11, and 12
abbrev pub row_refusals : Row → List ℕ → List Refusal
row_refusals row sub = packet_refusals (terms_of row) sub ++ (12 when (judged_of (flow_for row sub) sub).late ∷ [])

abbrev pub flow_refusals : Table → ℕ → List ℕ → List Refusal
flow_refusals t r sub = row_refusals (row_at t r) sub

abbrev pub data_refusals : Table → Packet → Slices → List Refusal
data_refusals t p s =
    1 when too_small s
    ∷ early_refusals t p
    ++ (5 when not (is_open t (session_id p)) ∷ [])
    ++ flow_refusals t (row_of t p) (sub p)

-- What is heard, carried out for row r, flow k: the counts; the flow's next record; the held bytes at the start of the flow's place;
-- and the frames and their lengths at the start of the other two slices. `put` leaves every other element as it was, so of the place no
-- byte behind the held ones changes, and none at all where nothing is held.
abbrev pub slices_after : ℕ → ℕ → Heard → Slices → Slices
slices_after r k h s =
    record {
      holding = put s.holding (place_of r k) h.fate.held;
      output = put s.output 0 (joined h.fate.delivered);
      lengths = put s.lengths 0 (lengths_of h.fate.delivered);
    }

unfoldable pub carried_out : ℕ → ℕ → Heard → Table → Slices → Outcome
carried_out r k h t s =
    record {
      answer = record {
        code = 0;
        frames = length h.fate.delivered;
        bytes = length (joined h.fate.delivered);
        dropped = length h.fate.dropped;
        gap = h.judged.gap;
        table = with_flow t r k (record_after h);
      };
      slices = slices_after r k h s;
    }

-- A refusal: its number, all counts 0, and table and slices as they were.
abbrev pub refused_answer : ℕ → Table → Received
refused_answer number t = record { code = number; frames = 0; bytes = 0; dropped = 0; gap = 0; table = t }

unfoldable pub refused : ℕ → Table → Slices → Outcome
refused number t s = record { answer = refused_answer number t; slices = s }

-- by the number of the first refusal that applies
unfoldable pub received_by : ℕ → Table → ℕ → List ℕ → Slices → Outcome
received_by zero t r sub s = carried_out r (flow_to t r sub) (heard_by t r sub s) t s
received_by (suc c) t r sub s = refused (suc c) t s

unfoldable pub received : Table → Packet → Slices → Outcome
received t p s = received_by (first (data_refusals t p s)) t (row_of t p) (sub p) s

-- the frames that the caller finds: as many as the answer says, of the lengths that stand in the lengths slice, back to back in the output
abbrev pub frames_found : ℕ → List ℕ → List ℕ → List (List ℕ)
frames_found count lengths output = cut_by (part lengths 0 count) output

-- What the call permits, whole: t and s are the table and the slices when it is called, p the packet, and o has table and slices when it
-- returns.
pub record PermitsReceive (t : Table) (p : Packet) (s : Slices) (o : Outcome) : Type 0 where
  pub its_number : o.answer.code ≡ (received t p s).answer.code
  pub its_frames : o.answer.frames ≡ (received t p s).answer.frames
  pub its_bytes : o.answer.bytes ≡ (received t p s).answer.bytes
  pub its_dropped : o.answer.dropped ≡ (received t p s).answer.dropped
  pub its_gap : o.answer.gap ≡ (received t p s).answer.gap
  pub its_table : o.answer.table ≡ (received t p s).answer.table
  pub its_holding : o.slices.holding ≡ (received t p s).slices.holding
  pub its_output : o.slices.output ≡ (received t p s).slices.output
  pub its_lengths : o.slices.lengths ≡ (received t p s).slices.lengths
