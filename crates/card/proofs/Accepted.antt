-- What the number of a data call's answer says: 0, and none of the refusals applies, so all that the step of one flow needs is there;
-- any other, and nothing has changed.
use Prim.Native.Nat.{ℕ, zero, suc, ◌+◌, ◌<◌, ◌≤◌}
use mathlib.Core.Path.{◌≡◌, refl, sym, ◌∙◌}
use mathlib.Core.Bool.{false, not}
use mathlib.Core.List.{List, [], ◌∷◌, ◌++◌}
use native.Mathlib.Omega.{arith}
use lib.ListN.{length}
use borrow.Author.Tests.{ltb-true, not-false}
use Rattle.refusal.specs.Refusal.{◌when◌, first}
use Rattle.refusal.proofs.Laws.{NoneApplies, numbered_both, none-applies, none_first, none_apart}
use Rattle.flow.specs.Flow.{flows}
use Rattle.packet.specs.Header.{Packet, id_length, sub, session_id, before_session, longest_packet}
use Rattle.packet.proofs.Passing.{EarlyPassed, early_passed, sub-length}
use Rattle.table.specs.declared.Table.{Table}
use Rattle.table.specs.Rows.{rows, terms_at}
use Rattle.table.specs.Broken.{broken}
use Rattle.table.specs.Calls.{is_open}
use Rattle.join.specs.Slices.{Slices}
use Rattle.card.specs.Hear.{judged_of}
use Rattle.card.specs.Receive.{row_of, flow_to, flow_of, heard_by, too_small, early_refusals, packet_refusals, flow_refusals, data_refusals}
use Rattle.card.specs.Receive.{carried_out, refused, received_by, received}
use Rattle.card.proofs.ByKind.{numbered-packet, flow_in_row}

-- The answer's number is that of the order.
by_code : (c : ℕ) (t : Table) (r : ℕ) (sub : List ℕ) (s : Slices) → (received_by c t r sub s).answer.code ≡ c
unfolding received_by carried_out refused
by_code zero t r sub s = refl
by_code (suc c) t r sub s = refl

module _ (t : Table) (p : Packet) (s : Slices) where
  pub received-code : (received t p s).answer.code ≡ first (data_refusals t p s)
  unfolding received
  received-code = by_code (first (data_refusals t p s)) t (row_of t p) (sub p) s

  -- 0: what the flow hears, carried out
  pub received-accepted : (received t p s).answer.code ≡ 0 →
      received t p s
      ≡ carried_out (row_of t p) (flow_to t (row_of t p) (sub p)) (heard_by t (row_of t p) (sub p) s) t s
  unfolding received received_by
  received-accepted z =
      let none : first (data_refusals t p s) ≡ 0 = sym (by_code (first (data_refusals t p s)) t (row_of t p) (sub p) s) ∙ z in
      rw none refl

  -- any other: all counts 0, and everything as it was
  pub received-refused : (c : ℕ) → (received t p s).answer.code ≡ suc c → received t p s ≡ refused (suc c) t s
  unfolding received received_by
  received-refused c z =
      let given : first (data_refusals t p s) ≡ suc c = sym (by_code (first (data_refusals t p s)) t (row_of t p) (sub p) s) ∙ z in
      rw given refl

-- One record for each stretch of the order, so that a number more in one of them moves nothing elsewhere. Refusals 13, 24, 2, 3, 15 and 4
-- passed:
pub record EarlyOver (t : Table) (p : Packet) : Type 0 where
  pub whole : broken t ≡ false
  pub passed : EarlyPassed p

early_of : (t : Table) (p : Packet) → NoneApplies (early_refusals t p) → EarlyOver t p
early_of t p n = record { whole = n.0; passed = early_passed p (none_first (before_session p) n.1) }

pub early_over : (t : Table) (p : Packet) → first (early_refusals t p) ≡ 0 → EarlyOver t p
early_over t p z = early_of t p (none-applies (early_refusals t p) refl z)

-- refusals 6, 7 and 9 to 11 passed, and 12:
record FlowOver (t : Table) (r : ℕ) (after : List ℕ) : Type 0 where
  passed : first (packet_refusals (terms_at t r) after) ≡ 0
  in_time_lem : (judged_of (flow_of t r after) after).late ≡ false

flow_of_lem : (t : Table) (r : ℕ) (after : List ℕ) → NoneApplies (flow_refusals t r after) → FlowOver t r after
flow_of_lem t r after n =
    let late = 12 when (judged_of (flow_of t r after) after).late ∷ [] in
    let both = none_apart (packet_refusals (terms_at t r) after) late n in
    record { passed = none_first (packet_refusals (terms_at t r) after) both.0; in_time_lem = both.1.0 }

-- What an accepted call is known to have.
pub record Accepted (t : Table) (p : Packet) (s : Slices) : Type 0 where
  pub large : too_small s ≡ false
  pub whole : broken t ≡ false
  pub early : EarlyPassed p
  pub found : row_of t p < rows
  pub passed : first (packet_refusals (terms_at t (row_of t p)) (sub p)) ≡ 0
  pub in_time_lem : (judged_of (flow_of t (row_of t p) (sub p)) (sub p)).late ≡ false

pub accepted : (t : Table) (p : Packet) (s : Slices) → (received t p s).answer.code ≡ 0 → Accepted t p s
accepted t p s z =
    let r = row_of t p in
    let late = 12 when (judged_of (flow_of t r (sub p)) (sub p)).late ∷ [] in
    let unopened = 5 when not (is_open t (session_id p)) ∷ [] in
    let some = numbered_both (packet_refusals (terms_at t r) (sub p)) late (numbered-packet (terms_at t r) (sub p)) refl in
    let none = none-applies (data_refusals t p s) some (sym (received-code t p s) ∙ z) in
    let parts = none_apart (early_refusals t p) (unopened ++ flow_refusals t r (sub p)) none.1 in
    let early = early_of t p parts.0 in
    let behind = none_apart unopened (flow_refusals t r (sub p)) parts.1 in
    let flow = flow_of_lem t r (sub p) behind.1 in
    record {
      large = none.0;
      whole = early.whole;
      early = early.passed;
      found = ltb-true r rows (not-false (is_open t (session_id p)) behind.0.0);
      passed = flow.passed;
      in_time_lem = flow.in_time_lem;
    }

module _ (t : Table) (p : Packet) (s : Slices) (a : Accepted t p s) where
  pub flow-there : flow_to t (row_of t p) (sub p) < flows
  flow-there = flow_in_row (terms_at t (row_of t p)) (sub p) a.passed

  pub sub-short : id_length + length (sub p) ≤ longest_packet
  sub-short = omega (arith, sub-length p a.early.not_short, a.early.not_long)
