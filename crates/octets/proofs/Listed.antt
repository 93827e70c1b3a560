-- Definitions read a list by number, and code reads it in order: what the library's words say of a list is what the definitions say of its
-- places.
use Prim.Native.Nat.{ℕ, zero, suc, ◌+◌, ◌<◌, ◌≤◌}
use mathlib.Core.Path.{◌≡◌, refl, sym, ap, ◌∙◌}
use mathlib.Core.Bool.{Bool, false, cond, not, ◌||◌}
use mathlib.Core.List.{List}
use mathlib.Core.Logic.{⊎_elim}
use native.Mathlib.Omega.{arith}
use Rattle.std.proofs.lemmas.Bool.{cases_lt}
use lib.Dec.{ltb}
use lib.ListN.{get_or, length, take}
use Rattle.std.specs.List.{list_any, position, position_or_len, range_with_len}
use Rattle.std.specs.Prelude.{Some, None}
use Rattle.std.proofs.Common.{add-one, zero-add}
use Rattle.std.proofs.Math.Seq.{take-length}
use Rattle.std.proofs.lemmas.List.Folds.{list_any_more}
use Rattle.std.proofs.lemmas.List.Sums.{prefix_len-le-length, fails_before_first, passes_at_first}
use Rattle.std.proofs.lemmas.List.FromFn.{length-range_with_len, get_or-range_with_len}
use Rattle.octets.specs.Count.{any, least}
use Rattle.octets.proofs.Counts.{none_all, any_same, least_at, least-none}

module _ {A : Type 0} (p : A → Bool) (xs : List A) (d : A) where
  -- the element at a place passes
  abbrev passes : ℕ → Bool
  passes i = p (get_or xs i d)

  pub any_front : (n : ℕ) → n ≤ length xs → list_any p (take n xs) ≡ any passes n
  unfolding any
  any_front zero within = refl
  any_front (suc n) within =
      let more : list_any p (take (n + 1) xs) ≡ (list_any p (take n xs) || passes n) = list_any_more p xs n d (omega arith) in
      rw add-one at more ∙ ap (λ (b : Bool). b || passes n) (any_front n (omega arith))

  pub any_listed : list_any p xs ≡ any passes (length xs)
  any_listed = ap (list_any p) (sym (take-length xs)) ∙ any_front (length xs) (omega arith)

  pub position_listed : position p xs ≡ cond (ltb (least passes (length xs)) (length xs)) (Some (least passes (length xs))) None
  position_listed =
      let none_before : any passes (position_or_len p xs) ≡ false =
      none_all passes (position_or_len p xs) (λ k l. fails_before_first p xs k d l) in
      ⊎_elim
      (λ (inside : position_or_len p xs < length xs).
      rw (least_at passes (length xs) (position_or_len p xs) none_before (passes_at_first p xs d inside) inside) refl)
      (λ (behind : length xs ≤ position_or_len p xs).
      let at_end : position_or_len p xs ≡ length xs = omega (arith, prefix_len-le-length (λ (x : A). not (p x)) xs) in
      rw (at_end, least-none passes (length xs) (rw at_end at none_before)) refl)
      (cases_lt (position_or_len p xs) (length xs))

-- the numbers below n, one after another
pub any_counted : (p : ℕ → Bool) (n : ℕ) → list_any p (range_with_len 0 n) ≡ any p n
any_counted p n =
    any_listed p (range_with_len 0 n) 0
    ∙ rw (length-range_with_len 0 n)
    (any_same (λ i. p (get_or (range_with_len 0 n) i 0)) p n (λ i l. ap p (get_or-range_with_len 0 n i 0 l ∙ zero-add i)))
