-- The laws of the tests of lists, `none` and `same`: what they say of a list, and what makes them true.
use Prim.Native.Nat.{ℕ, ◌≤◌, ◌<◌}
use mathlib.Core.Path.{◌≡◌, refl, sym, ap, ◌∙◌}
use mathlib.Core.Bool.{true, false, ◌&&◌, and-true, and_assoc, and-eq-true_iff, true≢false}
use mathlib.Core.List.{List, [], ◌∷◌}
use native.Mathlib.Omega.{arith}
use lib.Dec.{eqb}
use lib.ListN.{length}
use borrow.Author.Tests.{eqb-true, eq-eqb}
use Rattle.octets.specs.Bytes.{byte_at}
use Rattle.octets.specs.Stretch.{part}
use Rattle.octets.specs.Tests.{none, same}
use Rattle.octets.proofs.Stretches.{part_none, part-four}

-- nothing is there
pub none-empty : (l : List ℕ) → none l ≡ true → l ≡ []
unfolding none
none-empty [] h = refl
none-empty (x ∷ l) h = absurd (true≢false (sym h))

pub none-length : (l : List ℕ) → length l ≡ 0 → none l ≡ true
unfolding none
none-length [] h = refl
none-length (x ∷ l) h = absurd (let z : ⊥ = omega arith in z)

-- .. and something is
pub none-some : (l : List ℕ) → 0 < length l → none l ≡ false
unfolding none
none-some [] h = absurd (let z : ⊥ = omega arith in z)
none-some (x ∷ l) h = refl

pub some-length : (l : List ℕ) → none l ≡ false → 0 < length l
unfolding none
some-length [] h = absurd (true≢false h)
some-length (x ∷ l) h = omega arith

-- two lists that are the same
pub same_self : (l : List ℕ) → same l l ≡ true
unfolding same
same_self [] = refl
same_self (x ∷ l) = rw (eq-eqb x x refl) (same_self l)

pub same_equal : (a b : List ℕ) → same a b ≡ true → a ≡ b
unfolding same
same_equal [] [] h = refl
same_equal [] (y ∷ b) h = absurd (true≢false (sym h))
same_equal (x ∷ a) [] h = absurd (true≢false (sym h))
same_equal (x ∷ a) (y ∷ b) h =
    let both = (and-eq-true_iff (eqb x y) (same a b)).0 h in
    let e : x ≡ y = eqb-true x y both.0 in
    let f : a ≡ b = same_equal a b both.1 in
    rw (e, f) refl

-- the first four elements, one by one
pub same-four : (l : List ℕ) (w x y z : ℕ) → 4 ≤ length l →
    same (part l 0 4) (w ∷ x ∷ y ∷ z ∷ []) ≡ (eqb (byte_at l 0) w && eqb (byte_at l 1) x && eqb (byte_at l 2) y && eqb (byte_at l 3) z)
unfolding same
same-four l w x y z h =
    ap (λ (s : List ℕ). same s (w ∷ x ∷ y ∷ z ∷ [])) (part-four l 0 0 h)
    ∙ ap (λ (s : List ℕ). same (byte_at l 0 ∷ byte_at l 1 ∷ byte_at l 2 ∷ byte_at l 3 ∷ s) (w ∷ x ∷ y ∷ z ∷ [])) (part_none l 4)
    ∙ simp (and-true, and_assoc)
