-- What a call is known to have that the sender's refusals let pass, and the order of these refusals as two stretches, one behind the other.
-- And the invariant of the loop that surveys the lengths, with a begin and a turn.
use Prim.Native.Nat.{ℕ, ◌+◌, ◌*◌, ◌<◌, ◌≤◌}
use mathlib.Core.Path.{◌≡◌, refl, sym, ap, ◌∙◌}
use mathlib.Core.Bool.{Bool, false, ◌||◌}
use mathlib.Core.List.{List, ◌++◌}
use native.Mathlib.Omega.{arith}
use lib.Dec.{eqb, ltb}
use lib.ListN.{length}
use borrow.Author.Tests.{ltb-false, eqb-false}
use Rattle.refusal.specs.Refusal.{Refusal, first}
use Rattle.refusal.proofs.Laws.{NoneApplies, none-applies, none_apart, first-passed, first_stopped}
use Rattle.octets.specs.Count.{sum_to}
use Rattle.octets.proofs.Counts.{Gathered, gather_begin, gather_turn, sum-none, sum_more, or-false-left, or-false-right}
use Rattle.flow.specs.Flow.{top_flow}
use Rattle.packet.specs.Header.{id_length}
use Rattle.sender.specs.declared.Position.{Position}
use Rattle.sender.specs.Cut.{frame_length}
use Rattle.sender.specs.Send.{least_limit, greatest_limit, bad_address, bad_limit, bad_size, bad_length, bad_frames, outside}
use Rattle.sender.specs.Send.{early_refusals, later_refusals}

-- The survey of the lengths.
pub record Surveying (lengths : List ℕ) (n total : ℕ) (bad : Bool) (k : ℕ) : Type 0 where
  pub gathered : Gathered false (bad_length lengths) n bad k
  pub sum : total ≡ sum_to (frame_length lengths) k
  pub small : total ≤ 65536 * k

pub survey_begin : (lengths : List ℕ) (n : ℕ) → Surveying lengths n 0 false 0
survey_begin lengths n =
    record { gathered = gather_begin false (bad_length lengths) n; sum = sym (sum-none (frame_length lengths)); small = omega arith }

pub survey_turn : {lengths : List ℕ} {n total : ℕ} {bad : Bool} {k size : ℕ} {r : Bool} → Surveying lengths n total bad k → k < n →
    size ≡ frame_length lengths k → size < 65536 → r ≡ bad_size size → Surveying lengths n (total + size) (bad || r) (k + 1)
survey_turn {lengths} {n} {total} {bad} {k} {size} {r} s l e small j =
    record {
      gathered = gather_turn s.gathered l (j ∙ ap bad_size e);
      sum = rw (sum_more (frame_length lengths) k, s.sum, e) refl;
      small = omega (arith, s.small);
    }

-- What a call that is not refused is known to have.
pub record Passed (session flow limit total : ℕ) (lengths : List ℕ) : Type 0 where
  pub addressed : bad_address session flow ≡ false
  pub limited : bad_limit limit ≡ false
  pub frames-sound : bad_frames total lengths ≡ false

early_of : (session flow limit total : ℕ) (lengths : List ℕ) → NoneApplies (early_refusals session flow limit total lengths) →
    Passed session flow limit total lengths
early_of session flow limit total lengths n = record { addressed = n.0; limited = n.1.0; frames-sound = n.1.1.0 }

pub early_passed : (session flow limit total : ℕ) (lengths : List ℕ) → first (early_refusals session flow limit total lengths) ≡ 0 →
    Passed session flow limit total lengths
early_passed session flow limit total lengths z =
    early_of session flow limit total lengths (none-applies (early_refusals session flow limit total lengths) refl z)

module _ (session flow limit total : ℕ) (lengths : List ℕ) (p : Passed session flow limit total lengths) where
  pub has_session : session ≡ 0 → ⊥
  has_session = eqb-false session 0 (or-false-left (eqb session 0) (ltb top_flow flow) p.addressed)

  pub has_flow : flow ≤ top_flow
  has_flow = ltb-false top_flow flow (or-false-right (eqb session 0) (ltb top_flow flow) p.addressed)

  pub limit-enough : least_limit ≤ limit
  limit-enough = ltb-false limit least_limit (or-false-left (ltb limit least_limit) (ltb greatest_limit limit) p.limited)

  pub limit-small : limit ≤ greatest_limit
  limit-small = ltb-false greatest_limit limit (or-false-right (ltb limit least_limit) (ltb greatest_limit limit) p.limited)

pub record Standing (limit : ℕ) (lengths : List ℕ) (at : Position) (space : ℕ) : Type 0 where
  pub in_frames : outside lengths at ≡ false
  pub remain : at.frame ≡ length lengths → ⊥
  pub output_long : limit + id_length ≤ space

-- The whole order.
module _ (session flow limit total : ℕ) (lengths : List ℕ) (at : Position) (space : ℕ) where
  abbrev early : List Refusal
  early = early_refusals session flow limit total lengths

  abbrev later : List Refusal
  later = later_refusals limit lengths at space

  pub send_stopped : (code : ℕ) → code ≡ first early → (code ≡ 0 → ⊥) → code ≡ first (early ++ later)
  send_stopped code e s = e ∙ sym (first_stopped early later (λ z. s (e ∙ z)))

  pub send_later : (code answer : ℕ) → code ≡ first early → code ≡ 0 → answer ≡ first later → answer ≡ first (early ++ later)
  send_later code answer e z a = a ∙ sym (first-passed early later refl (sym e ∙ z))

  pub send_passed : first (early ++ later) ≡ 0 → Passed session flow limit total lengths × Standing limit lengths at space
  send_passed z =
      let both = none_apart early later (none-applies (early ++ later) refl z) in
      let l = both.1 in (
        early_of session flow limit total lengths both.0,
        record {
          in_frames = l.0;
          remain = eqb-false at.frame (length lengths) l.1.0;
          output_long = ltb-false space (limit + id_length) l.1.1.0;
        },
      )
