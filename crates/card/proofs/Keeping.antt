-- A data call leaves a table that is not broken unbroken; and a packet without a number leaves its flow as it was, but holding nothing, so
-- that one for D-MPT leaves the table as it was.
use Prim.Native.Nat.{ℕ, zero, suc}
use mathlib.Core.Path.{◌≡◌, refl, sym, ap, ◌∙◌}
use mathlib.Core.Bool.{true, false, not}
use mathlib.Core.Logic.{⊎_elim}
use mathlib.Core.List.{List, []}
use lib.Dec.{eqb}
use lib.ListN.{length, set}
use lib.Seq.{set-get_or}
use borrow.Author.Tests.{not-true}
use Rattle.octets.proofs.Counts.{true-or-false, least_passes}
use Rattle.refusal.proofs.Laws.{and_left}
use Rattle.flow.specs.declared.Flow.{Flow}
use Rattle.flow.specs.Flow.{Judged}
use Rattle.flow.specs.Flow.{heard_mark, judge, emptied}
use Rattle.flow.proofs.Judging.{judge-sound}
use Rattle.packet.specs.Header.{Packet, s_set, number, sub, session_id}
use Rattle.packet.specs.Segments.{segments}
use Rattle.packet.specs.Dmpt.{mpegs}
use Rattle.packet.proofs.Passing.{dmpt_passed}
use Rattle.table.specs.declared.Row.{Row}
use Rattle.table.specs.declared.Table.{Table}
use Rattle.table.specs.Rows.{rows, is_closed, is_dmpt, no_row, terms_at, row_at, open_in, with_flow}
use Rattle.table.specs.Broken.{broken}
use Rattle.table.proofs.Keeping.{accepted_keeps, emptied-flow_keeps}
use Rattle.join.specs.Slices.{Slices}
use Rattle.pass.proofs.Carrying.{unnumbered_holds_none, dmpt_holds_none}
use Rattle.card.specs.Hear.{width_in, hear, record_after}
use Rattle.card.specs.Receive.{row_of, flow_to, flow_of, held_by, heard_by, carried_out, refused, received}
use Rattle.card.proofs.ByKind.{refusals_dmpt}
use Rattle.card.proofs.Taking.{dmpt_bare}
use Rattle.card.proofs.Accepted.{Accepted, accepted, flow-there, received-accepted, received-refused}
use Rattle.card.proofs.Limits.{accepted_bounded}

module _ (t : Table) (p : Packet) (s : Slices) (a : Accepted t p s) where
  abbrev r : ℕ
  r = row_of t p

  abbrev after : List ℕ
  after = sub p

  abbrev flow : Flow
  flow = flow_of t r after

  -- the row where a session is found is open
  row_open : is_closed (row_at t r).kind ≡ false
  row_open =
      not-true (is_closed (row_at t r).kind)
      (and_left (not (is_closed (row_at t r).kind)) (eqb (row_at t r).id (session_id p))
      (least_passes (open_in t (session_id p)) rows a.found))

  -- a D-MPT packet: flow 0, and nothing is held before or after
  dmpt_flow : is_dmpt (terms_at t r).kind ≡ true → flow_to t r after ≡ 0
  dmpt_flow d = (dmpt_passed after (sym (refusals_dmpt (terms_at t r) after d) ∙ a.passed)).only_flow

  dmpt_after : is_dmpt (terms_at t r).kind ≡ true → (heard_by t r after s).fate.held ≡ []
  unfolding hear
  dmpt_after d = rw d (dmpt_holds_none (held_by t r after s) (mpegs after))

  -- with S clear nothing is held afterwards, whatever the kind, and the record is else as it was
  clear_after : s_set after ≡ false → (heard_by t r after s).fate.held ≡ []
  unfolding hear
  clear_after c =
      ⊎_elim
      (λ (d : is_dmpt (terms_at t r).kind ≡ true). dmpt_after d)
      (λ (d : is_dmpt (terms_at t r).kind ≡ false).
      rw (d, c)
      (unnumbered_holds_none (terms_at t r).longest (held_by t r after s) (segments (width_in (terms_at t r).kind) after)))
      (true-or-false (is_dmpt (terms_at t r).kind))

  clear_record : s_set after ≡ false → record_after (heard_by t r after s) ≡ emptied flow
  unfolding hear
  clear_record c =
      let none : length (heard_by t r after s).fate.held ≡ 0 = ap (λ (l : List ℕ). length l) (clear_after c) in
      rw (none, c) refl

  -- so of D-MPT nothing of the table changes
  same_flow : is_dmpt (terms_at t r).kind ≡ true → emptied flow ≡ flow
  same_flow d =
      ap (λ (n : ℕ). record { heard = flow.heard; expected = flow.expected; held = n })
      (sym (dmpt_bare t r (flow_to t r after) a.whole a.found (flow-there t p s a) d))

  same-table : record_after (heard_by t r after s) ≡ flow → with_flow t r (flow_to t r after) (record_after (heard_by t r after s)) ≡ t
  same-table e =
      rw (e, set-get_or (row_at t r).flows (flow_to t r after))
      (ap (λ (l : List Row). record { rows = l }) (set-get_or t.rows r no_row))

  -- a number that was accepted was heard
  set_heard : s_set after ≡ true → (record_after (heard_by t r after s)).heard ≡ heard_mark
  unfolding hear
  set_heard set =
      let in_time_lem : (judge flow (number after)).late ≡ false = rw set at a.in_time_lem in
      rw set (ap (λ (j : Judged). j.flow.heard) ((judge-sound flow (number after)).accepts in_time_lem))

  pub step_keeps : broken (with_flow t r (flow_to t r after) (record_after (heard_by t r after s))) ≡ false
  step_keeps =
      ⊎_elim
      (λ (set : s_set after ≡ true).
      accepted_keeps t r (flow_to t r after) (record_after (heard_by t r after s)) a.whole a.found row_open
      (set_heard set) (accepted_bounded t p s a).held-few (λ d. (dmpt_flow d, ap (λ (l : List ℕ). length l) (dmpt_after d))))
      (λ (clear : s_set after ≡ false).
      rw (clear_record clear) (emptied-flow_keeps t r (flow_to t r after) a.whole a.found (flow-there t p s a)))
      (true-or-false (s_set after))

-- No data call breaks a table.
keeps_by : (c : ℕ) (t : Table) (p : Packet) (s : Slices) → (received t p s).answer.code ≡ c → broken t ≡ false →
    broken (received t p s).answer.table ≡ false
unfolding carried_out refused
keeps_by zero t p s e whole = rw (received-accepted t p s e) (step_keeps t p s (accepted t p s e))
keeps_by (suc c) t p s e whole = rw (received-refused t p s c e) whole

pub received_keeps : (t : Table) (p : Packet) (s : Slices) → broken t ≡ false → broken (received t p s).answer.table ≡ false
received_keeps t p s whole = keeps_by (received t p s).answer.code t p s refl whole

-- A packet with S clear that is not refused leaves its flow's record as it was, but holding nothing: a fresh flow stays fresh ..
pub clear_empties : (t : Table) (p : Packet) (s : Slices) → (received t p s).answer.code ≡ 0 → s_set (sub p) ≡ false →
    (received t p s).answer.table
    ≡ with_flow t (row_of t p) (flow_to t (row_of t p) (sub p)) (emptied (flow_of t (row_of t p) (sub p)))
unfolding carried_out
clear_empties t p s z clear =
    let a = accepted t p s z in
    rw (received-accepted t p s z, clear_record t p s a clear) refl

-- .. and for D-MPT the whole table as it was
pub clear_leaves : (t : Table) (p : Packet) (s : Slices) → (received t p s).answer.code ≡ 0 → s_set (sub p) ≡ false →
    is_dmpt (terms_at t (row_of t p)).kind ≡ true → (received t p s).answer.table ≡ t
unfolding carried_out
clear_leaves t p s z clear d =
    let a = accepted t p s z in
    rw (received-accepted t p s z) (same-table t p s a (clear_record t p s a clear ∙ same_flow t p s a d))
