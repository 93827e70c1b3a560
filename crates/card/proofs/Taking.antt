-- The ways out of a row: for each return of `take` the case of the definition that it answers, with what the code has found as arguments;
-- and what is known of a flow and its place in a row that is not broken.
use Prim.Native.Nat.{ℕ, zero, suc, ◌<◌, ◌≤◌}
use mathlib.Core.Path.{◌≡◌, refl, sym, ap, ◌∙◌}
use mathlib.Core.Bool.{true, false, cond, ◌||◌}
use mathlib.Core.List.{List, [], ◌∷◌}
use native.Mathlib.Omega.{arith}
use lib.Dec.{ltb}
use lib.ListN.{length}
use borrow.Author.Tests.{ltb-false}
use Rattle.refusal.specs.Refusal.{◌when◌, first}
use Rattle.refusal.proofs.Laws.{first-passed, first_stopped}
use Rattle.octets.specs.Stretch.{part, joined}
use Rattle.octets.proofs.Counts.{or-false-left, or-false-right}
use Rattle.flow.specs.Flow.{Judged}
use Rattle.flow.specs.Flow.{flows}
use Rattle.packet.specs.Header.{Packet, sub}
use Rattle.table.specs.declared.Row.{Row}
use Rattle.table.specs.declared.Table.{Table}
use Rattle.table.specs.declared.Terms.{Terms}
use Rattle.table.specs.Rows.{rows, is_dmpt, terms_of, terms_at, row_at, flow_at}
use Rattle.table.specs.Broken.{row_broken, broken}
use Rattle.table.proofs.Keeping.{row_whole, rows-sound}
use Rattle.join.specs.declared.Tally.{Tally}
use Rattle.join.specs.Join.{Fate}
use Rattle.join.specs.Slices.{Slices, most_frames, most_bytes}
use Rattle.join.specs.Inside.{nothing_yet, Placed, Roomy}
use Rattle.card.specs.Hear.{judged_of, fate_of, hear}
use Rattle.card.specs.Receive.{holding_size, place_of, flow_number, flow_for, heard_in, too_small, packet_refusals, row_refusals}
use Rattle.card.specs.Receive.{slices_after}
use Rattle.card.specs.Inside.{RowAnswer, TakenOutcome, taken_as, takes, not_taken, hears_in, Ready, answered, Hearable}
use Rattle.card.proofs.ByKind.{numbered-packet}

-- What is not refused for its size is large enough.
pub record Large (s : Slices) : Type 0 where
  pub holding-enough : holding_size ≤ length s.holding
  pub output-enough : most_bytes ≤ length s.output
  pub lengths-enough : most_frames ≤ length s.lengths

pub large-enough : (s : Slices) → too_small s ≡ false → Large s
large-enough s e =
    let holding = ltb (length s.holding) holding_size in
    let output = ltb (length s.output) most_bytes in
    let lengths = ltb (length s.lengths) most_frames in
    let two = or-false-left (holding || output) lengths e in
    record {
      holding-enough = ltb-false _ _ (or-false-left holding output two);
      output-enough = ltb-false _ _ (or-false-right holding output two);
      lengths-enough = ltb-false _ _ (or-false-right (holding || output) lengths e);
    }

-- the place of each flow lies in the holding slice
pub place_roomy : (s : Slices) (r k : ℕ) → too_small s ≡ false → r < rows → k < flows → Roomy (place_of r k) s
place_roomy s r k e l m =
    let enough = large-enough s e in
    record {
      place_inside = omega (arith, enough.holding-enough);
      output_long = enough.output-enough;
      lengths_long = enough.lengths-enough;
    }

-- a flow holds no more than a place has room for, and nothing where the session is D-MPT
pub row_fits : (row : Row) (k : ℕ) → row_broken row ≡ false → k < flows → (flow_at row k).held ≤ (terms_of row).longest
row_fits row k sound m = (row_whole row sound k m).fits

pub row_bare : (row : Row) (k : ℕ) → row_broken row ≡ false → k < flows → is_dmpt (terms_of row).kind ≡ true → (flow_at row k).held ≡ 0
row_bare row k sound m d = (row_whole row sound k m).holds_none d

pub held_fits : (t : Table) (r k : ℕ) → broken t ≡ false → r < rows → k < flows → (flow_at (row_at t r) k).held ≤ (terms_at t r).longest
held_fits t r k whole l m = row_fits (row_at t r) k (rows-sound t whole r l) m

pub dmpt_bare : (t : Table) (r k : ℕ) → broken t ≡ false → r < rows → k < flows → is_dmpt (terms_at t r).kind ≡ true →
    (flow_at (row_at t r) k).held ≡ 0
dmpt_bare t r k whole l m d = row_bare (row_at t r) k (rows-sound t whole r l) m d

-- so a flow of the row has what it asks for, once the packet has passed
pub row_gives : (row : Row) (k : ℕ) (p : Packet) (s : Slices) → Ready row p s → k < flows → (terms : Terms) → terms ≡ terms_of row →
    (after : List ℕ) → after ≡ sub p → first (packet_refusals terms after) ≡ 0 → Hearable terms (flow_at row k).held after
row_gives row k p s given m terms asked after behind passed =
    record {
      most = rw asked (omega arith);
      fits = rw asked (row_fits row k given.sound m);
      bare = λ d. row_bare row k given.sound m (sym (ap (λ (x : Terms). is_dmpt x.kind) asked) ∙ d);
      short = rw behind given.short;
      passed = passed;
    }

-- What is heard, in the row and in the slices, is what the counts and the slices show.
heard_in_lem : (row : Row) (r k : ℕ) (j : Judged) (f : Fate) (s s' : Slices) (tally : Tally) →
    Placed f (place_of r k) nothing_yet s tally s' →
    ◌≡◌ {A = TakenOutcome}
    (record { taken = answered row k j tally; slices = s' })
    (record { taken = hears_in k (record { judged = j; fate = f }) row; slices = slices_after r k (record { judged = j; fate = f }) s })
heard_in_lem row r k j f s s' tally p =
    let frames : tally.frames ≡ length f.delivered = omega (arith, p.frames_more) in
    let bytes : tally.bytes ≡ length (joined f.delivered) = omega (arith, p.bytes_more) in
    let dropped : tally.dropped ≡ length f.dropped = omega (arith, p.dropped_more) in
    rw (frames, bytes, dropped, p.held_now)
    (ap (λ (z : Slices). record { taken = hears_in k (record { judged = j; fate = f }) row; slices = z }) slices_are)
  where
    slices_are : s' ≡ slices_after r k (record { judged = j; fate = f }) s
    slices_are = rw (← p.holding_now, ← p.output_now, ← p.lengths_now) refl

-- A refusal, by its number.
not_taken_by : (c r : ℕ) (row : Row) (after : List ℕ) (s : Slices) → (c ≡ 0 → ⊥) →
    ◌≡◌ {A = TakenOutcome} (record { taken = not_taken c row; slices = s }) (taken_as c r row after s)
not_taken_by zero r row after s some = absurd (some refl)
not_taken_by (suc c) r row after s some = refl

-- The returns of `take`: refused by 6, 7 and 9 to 11, late, heard. `terms` and `refused` are what it found of the row and of the packet.
module _ (row : Row) (r : ℕ) (p : Packet) (s : Slices) where
  module _ (after : List ℕ) (behind : after ≡ sub p) (terms : Terms) (asked : terms ≡ terms_of row) (refused : ℕ)
      (found : refused ≡ first (packet_refusals terms after)) where
    by_row : takes r row p s ≡ taken_as (first (row_refusals row (sub p))) r row (sub p) s
    unfolding takes
    by_row = refl

    refused_is : refused ≡ first (packet_refusals (terms_of row) (sub p))
    refused_is = found ∙ rw (asked, behind) refl

    pub take-refused : (refused ≡ 0 → ⊥) → ◌≡◌ {A = TakenOutcome} (record { taken = not_taken refused row; slices = s }) (takes r row p s)
    take-refused some =
        let late = 12 when (judged_of (flow_for row (sub p)) (sub p)).late ∷ [] in
        let stops = first_stopped (packet_refusals (terms_of row) (sub p)) late (λ z. some (refused_is ∙ z)) in
        rw (by_row, stops, ← refused_is) (not_taken_by refused r row (sub p) s some)

    module _ (over : refused ≡ 0) (k : ℕ) (flow : k ≡ flow_number row (sub p)) (j : Judged)
        (judges : j ≡ judged_of (flow_at row k) after) where
      judged_is : j ≡ judged_of (flow_for row (sub p)) (sub p)
      judged_is = judges ∙ rw (flow, behind) refl

      last_line : first (row_refusals row (sub p)) ≡ cond j.late 12 0
      last_line =
          rw judged_is
          (first-passed (packet_refusals (terms_of row) (sub p)) (12 when (judged_of (flow_for row (sub p)) (sub p)).late ∷ [])
          (numbered-packet (terms_of row) (sub p)) (sym refused_is ∙ over))

      pub take_late : j.late ≡ true → (n : ℕ) → n ≡ 12 → (s' : Slices) → s' ≡ s →
          ◌≡◌ {A = TakenOutcome} (record { taken = not_taken n row; slices = s' }) (takes r row p s)
      take_late late n number s' left = rw (by_row, last_line, late, number, left) refl

      pub take_heard : j.late ≡ false → (place : ℕ) → place ≡ place_of r k → (tally : Tally) (s' : Slices) →
          Placed (fate_of terms j.gap (part s.holding place (flow_at row k).held) after) place nothing_yet s tally s' →
          (answer : RowAnswer) → answer ≡ answered row k j tally →
          ◌≡◌ {A = TakenOutcome} (record { taken = answer; slices = s' }) (takes r row p s)
      unfolding hear
      take_heard in_time_lem place at tally s' places answer e =
          let placed : Placed (heard_in row r (sub p) s).fate (place_of r (flow_number row (sub p))) nothing_yet s tally s' =
          rw (asked, at, flow, behind, judged_is) at places in
          rw (by_row, last_line, in_time_lem, e, flow, judged_is)
          (heard_in_lem row r (flow_number row (sub p)) (judged_of (flow_for row (sub p)) (sub p)) (heard_in row r (sub p) s).fate s s'
          tally placed)
