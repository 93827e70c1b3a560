-- An accepted data call is the step of one flow, on its row and in its place, and no other row, flow, place or byte changes. Everything
-- that is said of histories rests on this. (That a refused call changes nothing at all is `received-refused`.)
use Prim.Native.Nat.{ℕ, ◌+◌, ◌*◌, ◌<◌, ◌≤◌}
use mathlib.Core.Path.{◌≡◌, refl, ◌∙◌}
use mathlib.Core.Logic.{◌⊎◌, inl, inr, ⊎_elim}
use mathlib.Core.Bool.{true, false}
use mathlib.Core.List.{List}
use native.Mathlib.Omega.{arith}
use lib.Dec.{eqb, ltb}
use lib.ListN.{length, length-set}
use lib.Seq.{get_or-set_same, get_or-set_other}
use borrow.Author.Tests.{eqb-true, eqb-false, ltb-true, ltb-false}
use Rattle.octets.specs.Bytes.{byte_at}
use Rattle.octets.specs.Stretch.{part, joined, lengths_of}
use Rattle.octets.proofs.Counts.{true-or-false}
use Rattle.octets.proofs.Stretches.{length-put, length-lengths_of, byte_put, part-put, part-put_apart, cut-put}
use Rattle.flow.specs.Flow.{longest, flows}
use Rattle.packet.specs.Header.{Packet, sub}
use Rattle.table.specs.declared.Table.{Table}
use Rattle.table.specs.Rows.{rows, no_row, row_at, row_with, flow_at, terms_at}
use Rattle.join.specs.Slices.{most_frames, most_bytes, Slices}
use Rattle.card.specs.Hear.{Heard, record_after}
use Rattle.card.specs.Receive.{place_of, Outcome, row_of, flow_to, heard_by, carried_out, received, frames_found}
use Rattle.card.proofs.Taking.{Large, large-enough}
use Rattle.card.proofs.Accepted.{accepted, flow-there, received-accepted}
use Rattle.card.proofs.Limits.{accepted_bounded}

-- six rows of four flows, as the code's tables are by their type
pub record Shaped (t : Table) : Type 0 where
  pub six : length t.rows ≡ rows
  pub four : (r : ℕ) → r < rows → length (row_at t r).flows ≡ flows

-- the frames that the caller finds
abbrev pub frames_in : Outcome → List (List ℕ)
frames_in o = frames_found o.answer.frames o.slices.lengths o.slices.output

-- The outcome o of a call is the step h of flow k in row r.
pub record StepOf (r k : ℕ) (h : Heard) (t : Table) (s : Slices) (o : Outcome) : Type 0 where
  -- the answer
  pub no_refusal : o.answer.code ≡ 0
  pub frames_are : o.answer.frames ≡ length h.fate.delivered
  pub bytes_are : o.answer.bytes ≡ length (joined h.fate.delivered)
  pub dropped_are : o.answer.dropped ≡ length h.fate.dropped
  pub gap_is : o.answer.gap ≡ h.judged.gap
  -- the table
  pub its_record : flow_at (row_at o.answer.table r) k ≡ record_after h
  pub its_session : ((row_at o.answer.table r).id ≡ (row_at t r).id) × ((row_at o.answer.table r).kind ≡ (row_at t r).kind)
      × (terms_at o.answer.table r ≡ terms_at t r)
  pub other_flows : (j : ℕ) → (j ≡ k → ⊥) → flow_at (row_at o.answer.table r) j ≡ flow_at (row_at t r) j
  pub other_rows : (r' : ℕ) → (r' ≡ r → ⊥) → row_at o.answer.table r' ≡ row_at t r'
  pub same_shape : Shaped o.answer.table
  -- the holding slice
  pub its_place : part o.slices.holding (place_of r k) (length h.fate.held) ≡ h.fate.held
  pub other_bytes : (i : ℕ) → (i < place_of r k) ⊎ (place_of r k + length h.fate.held ≤ i) →
      byte_at o.slices.holding i ≡ byte_at s.holding i
  pub other_places : (r' j n : ℕ) → r' < rows → j < flows → (r' ≡ r → j ≡ k → ⊥) → n ≤ longest →
      part o.slices.holding (place_of r' j) n ≡ part s.holding (place_of r' j) n
  -- what comes out
  pub frames_found_lem : frames_in o ≡ h.fate.delivered
  pub output_behind : (i : ℕ) → length (joined h.fate.delivered) ≤ i → byte_at o.slices.output i ≡ byte_at s.output i
  pub lengths_behind : (i : ℕ) → length h.fate.delivered ≤ i → byte_at o.slices.lengths i ≡ byte_at s.lengths i
  pub same-lengths : (length o.slices.holding ≡ length s.holding) × (length o.slices.output ≡ length s.output)
      × (length o.slices.lengths ≡ length s.lengths)

-- two places apart
places_apart : (a b n m : ℕ) → (a ≡ b → ⊥) → n ≤ longest → m ≤ longest → (a * longest + n ≤ b * longest) ⊎ (b * longest + m ≤ a * longest)
places_apart a b n m other l o =
    ⊎_elim
    (λ (h : ltb a b ≡ true). inl (let g = ltb-true a b h in let e : a * longest + n ≤ b * longest = omega arith in e))
    (λ (h : ltb a b ≡ false).
    inr (let g = ltb-false a b h in let d : (a ≡ b → ⊥) = other in let e : b * longest + m ≤ a * longest = omega arith in e))
    (true-or-false (ltb a b))

module _ (r k : ℕ) (h : Heard) (t : Table) (s : Slices) (shaped : Shaped t) (there : r < rows) (inside : k < flows)
    (large : Large s) (few : length h.fate.held ≤ longest) (frames : length h.fate.delivered ≤ most_frames)
    (bytes : length (joined h.fate.delivered) ≤ most_bytes) where
  abbrev done : Outcome
  done = carried_out r k h t s

  -- the number of a place tells its row and its flow
  numbers_apart : (r' j : ℕ) → j < flows → (r' ≡ r → j ≡ k → ⊥) → flows * r' + j ≡ flows * r + k → ⊥
  numbers_apart r' j o other e = other (omega arith) (omega arith)

  place-room : place_of r k + length h.fate.held ≤ length s.holding
  place-room = omega (arith, large.holding-enough)

  output_room : 0 + length (joined h.fate.delivered) ≤ length s.output
  output_room = omega (arith, large.output-enough)

  lengths-room : 0 + length (lengths_of h.fate.delivered) ≤ length s.lengths
  lengths-room = omega (arith, large.lengths-enough, length-lengths_of h.fate.delivered)

  shape_kept : Shaped done.answer.table
  unfolding carried_out
  shape_kept =
      record {
        six = length-set t.rows r _ ∙ shaped.six;
        four = λ r' l. four_at r' l (true-or-false (eqb r' r));
      }
    where
      four_at : (r' : ℕ) → r' < rows → (eqb r' r ≡ true) ⊎ (eqb r' r ≡ false) → length (row_at done.answer.table r').flows ≡ flows
      four_at r' l (inl e) =
          rw (eqb-true r' r e, get_or-set_same t.rows r (row_with (row_at t r) k (record_after h)) no_row (omega (arith, shaped.six)))
          (length-set (row_at t r).flows k (record_after h) ∙ shaped.four r there)
      four_at r' l (inr e) = rw (get_or-set_other t.rows r r' _ no_row (eqb-false r' r e)) (shaped.four r' l)

  row_there : row_at done.answer.table r ≡ row_with (row_at t r) k (record_after h)
  unfolding carried_out
  row_there = get_or-set_same t.rows r _ _ (omega (arith, shaped.six))

  found : frames_in done ≡ h.fate.delivered
  unfolding carried_out
  found = cut-put h.fate.delivered s.lengths s.output (omega (arith, large.lengths-enough))

  pub carried_step : StepOf r k h t s done
  unfolding carried_out
  carried_step =
      let n = length-lengths_of h.fate.delivered in
      record {
        no_refusal = refl;
        frames_are = refl;
        bytes_are = refl;
        dropped_are = refl;
        gap_is = refl;
        its_record = rw row_there (get_or-set_same (row_at t r).flows k (record_after h) _ (omega (arith, shaped.four r there)));
        its_session = rw row_there (refl, refl, refl);
        other_flows = λ j other. rw row_there (get_or-set_other (row_at t r).flows k j (record_after h) _ other);
        other_rows = λ r' other. get_or-set_other t.rows r r' _ _ other;
        same_shape = shape_kept;
        its_place = part-put s.holding (place_of r k) h.fate.held place-room;
        other_bytes = λ i apart. byte_put s.holding (place_of r k) h.fate.held i place-room apart;
        other_places = λ r' j m l o other size.
            part-put_apart s.holding (place_of r k) h.fate.held (place_of r' j) m place-room (omega (arith, large.holding-enough))
            (places_apart (flows * r' + j) (flows * r + k) m (length h.fate.held) (numbers_apart r' j o other) size few);
        frames_found_lem = found;
        output_behind = λ i behind. byte_put s.output 0 (joined h.fate.delivered) i output_room (inr (omega arith));
        lengths_behind = λ i behind. byte_put s.lengths 0 (lengths_of h.fate.delivered) i lengths-room (inr (omega (arith, n)));
        same-lengths = (
          length-put s.holding (place_of r k) h.fate.held place-room,
          length-put s.output 0 (joined h.fate.delivered) output_room,
          length-put s.lengths 0 (lengths_of h.fate.delivered) lengths-room,
        );
      }

-- The lemma itself.
pub one_flow_step : (t : Table) (p : Packet) (s : Slices) → Shaped t → (received t p s).answer.code ≡ 0 →
    StepOf (row_of t p) (flow_to t (row_of t p) (sub p)) (heard_by t (row_of t p) (sub p) s) t s (received t p s)
one_flow_step t p s shaped z =
    let a = accepted t p s z in
    let b = accepted_bounded t p s a in
    rw (received-accepted t p s z)
    (carried_step (row_of t p) (flow_to t (row_of t p) (sub p)) (heard_by t (row_of t p) (sub p) s) t s shaped a.found
    (flow-there t p s a) (large-enough s a.large) (omega (arith, b.held-few)) b.frames-few (omega (arith, b.all, b.bytes-few)))
