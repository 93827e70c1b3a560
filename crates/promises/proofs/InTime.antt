-- Arriving in time, as a test and as it is meant: the two agree. And what one arrival more does to the test.
use Prim.Native.Nat.{ℕ, zero, suc, ◌≤◌, ◌<◌}
use mathlib.Core.Path.{◌≡◌, refl}
use mathlib.Core.Bool.{Bool, true, false, cond, false≢true}
use mathlib.Core.List.{List, [], ◌∷◌}
use native.Mathlib.Omega.{arith}
use lib.ListN.{length, get_or}
use lib.Dec.{ltb, eqb}
use borrow.Author.Tests.{lt-ltb, le-ltb, ltb-true, ltb-false, eq-eqb, ne_eqb, eqb-true}
use Rattle.promises.specs.Arrivals.{InTime, in_time, InTimeIsMeant}

-- an arrival of an earlier packet changes nothing for packet k, that of a later one ends its time, and its own is in time
pub in_time-after : (x : ℕ) (xs : List ℕ) (k : ℕ) → x < k → in_time (x ∷ xs) k ≡ in_time xs k
unfolding in_time
in_time-after x xs k l = rw (lt-ltb x k l)

pub in_time-before : (x : ℕ) (xs : List ℕ) (k : ℕ) → k < x → in_time (x ∷ xs) k ≡ false
unfolding in_time
in_time-before x xs k l = rw (le-ltb x k (omega arith)) (ne_eqb x k (omega arith))

pub in_time_at : (x : ℕ) (xs : List ℕ) → in_time (x ∷ xs) x ≡ true
unfolding in_time
in_time_at x xs = rw (le-ltb x x (omega arith)) (eq-eqb x x refl)

-- none arrives in time where none arrives
pub in_time-none : (k : ℕ) → in_time [] k ≡ false
unfolding in_time
in_time-none k = refl

-- from the test to its meaning
pub test_means : (xs : List ℕ) (k : ℕ) → in_time xs k ≡ true → InTime xs k
unfolding in_time
test_means [] k e = absurd (false≢true e)
test_means (x ∷ xs) k e = pick (ltb x k) refl (test_means xs k) e
  where
    pick : (t : Bool) → ltb x k ≡ t → (in_time xs k ≡ true → InTime xs k) → cond t (in_time xs k) (eqb x k) ≡ true → InTime (x ∷ xs) k
    pick true l later e' =
        let r = later e' in
        record {
          arrival = suc r.arrival;
          there = omega (arith, r.there);
          of_it = r.of_it;
          none_later = λ j. elim j as (λ j. j < suc r.arrival → get_or (x ∷ xs) j 0 ≤ k) [
            | zero ↦ λ i. omega (arith, ltb-true x k l)
            | suc j' ↦ λ i. r.none_later j' (omega arith)
          ];
        }
    pick false l later e' = record { arrival = 0; there = omega arith; of_it = eqb-true x k e'; none_later = λ j i. absurd (omega arith) }

-- and back
pub meant_passes : (xs : List ℕ) (k arrival : ℕ) → arrival < length xs → get_or xs arrival 0 ≡ k →
    ((j : ℕ) → j < arrival → get_or xs j 0 ≤ k) →
    in_time xs k ≡ true
unfolding in_time
meant_passes [] k arrival there of_it none_later = absurd (omega arith)
meant_passes (x ∷ xs) k zero there of_it none_later = rw (le-ltb x k (omega arith)) (eq-eqb x k of_it)
meant_passes (x ∷ xs) k (suc arrival) there of_it none_later =
    pick (ltb x k) refl (meant_passes xs k arrival (omega arith) of_it (λ j l. none_later (suc j) (omega arith)))
  where
    pick : (t : Bool) → ltb x k ≡ t → in_time xs k ≡ true → cond t (in_time xs k) (eqb x k) ≡ true
    pick true l later = later
    pick false l later = eq-eqb x k (omega (arith, none_later 0 (omega arith), ltb-false x k l))

pub in_time_is_meant : InTimeIsMeant
in_time_is_meant arrivals k = (
  test_means arrivals k,
  λ t. meant_passes arrivals k t.arrival t.there t.of_it t.none_later,
)
