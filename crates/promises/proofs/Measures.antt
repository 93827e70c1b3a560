-- Ways to count bytes: all of them, those of one value, or none. Each turns bytes laid behind one another into a sum, and nothing more
-- is asked of a count below: so the account of bytes is proved once, for every such measure.
use Prim.Native.Nat.{ℕ, zero, suc, ◌+◌}
use mathlib.Core.Path.{◌≡◌, refl, ap, ◌∙◌}
use mathlib.Core.List.{List, [], ◌∷◌, ◌++◌}
use native.Mathlib.Omega.{arith}
use lib.ListN.{length, length-append}
use Rattle.octets.specs.Stretch.{joined}
use Rattle.octets.specs.Count.{sum_to, up_to}
use Rattle.octets.proofs.Stretches.{joined-none, joined-append, joined-one_more}
use Rattle.promises.specs.Account.{times}

pub record Measure (m : List ℕ → ℕ) : Type 0 where
  pub none : m [] ≡ 0
  pub both : (a b : List ℕ) → m (a ++ b) ≡ m a + m b

pub by_length : Measure length
by_length = record { none = refl; both = length-append }

pub by_value : (value : ℕ) → Measure (times value)
unfolding times
by_value value = record { none = refl; both = split }
  where
    split : (a b : List ℕ) → times value (a ++ b) ≡ times value a + times value b
    split [] b = omega arith
    split (x ∷ a) b = omega (arith, split a b)

pub by_nothing : Measure (λ l. 0)
by_nothing = record { none = refl; both = λ a b. refl }

module _ (m : List ℕ → ℕ) (is : Measure m) where
  pub measure_joined : (a b : List (List ℕ)) → m (joined (a ++ b)) ≡ m (joined a) + m (joined b)
  measure_joined a b = ap m (joined-append a b) ∙ is.both (joined a) (joined b)

  pub measure_up_to : (f : ℕ → List ℕ) (n : ℕ) → m (joined (up_to f n)) ≡ sum_to (λ k. m (f k)) n
  unfolding up_to sum_to
  measure_up_to f zero = ap m joined-none ∙ is.none
  measure_up_to f (suc n) =
      ap m (joined-one_more (up_to f n) (f n)) ∙ is.both (joined (up_to f n)) (f n) ∙ ap (λ (k : ℕ). k + m (f n)) (measure_up_to f n)
