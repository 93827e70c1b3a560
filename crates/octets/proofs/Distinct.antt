-- Lists of numbers without repeats: two of them that have the same members are equally long. Take a member of the one out of the other, and
-- what is left of both has the same members again.
use Prim.Native.Nat.{ℕ, suc}
use mathlib.Core.Path.{◌≡◌, refl, sym, ap, ◌∙◌}
use mathlib.Core.Bool.{Bool, true, false, cond, ◌||◌, true≢false}
use mathlib.Core.List.{List, [], ◌∷◌}
use native.Mathlib.Omega.{arith}
use lib.Dec.{eqb}
use lib.ListN.{length}
use borrow.Author.Tests.{eqb-true, eq-eqb}
use Rattle.octets.proofs.Numbers.{eqb-sym}

-- whether a number is a member
abbrev pub has : ℕ → List ℕ → Bool
has i [] = false
has i (y ∷ ys) = eqb y i || has i ys

abbrev pub Distinct : List ℕ → Type 0
Distinct [] = Unit {0}
Distinct (x ∷ xs) = (has x xs ≡ false) × Distinct xs

-- the list without the first place where the number stands
abbrev without : ℕ → List ℕ → List ℕ
without x [] = []
without x (y ∷ ys) = cond (eqb y x) ys (y ∷ without x ys)

without_length : (x : ℕ) (ys : List ℕ) → has x ys ≡ true → length ys ≡ suc (length (without x ys))
without_length x [] e = absurd (true≢false (sym e))
without_length x (y ∷ ys) e = pick (eqb y x) (without_length x ys) e
  where
    pick : (u : Bool) → (has x ys ≡ true → length ys ≡ suc (length (without x ys))) → (u || has x ys) ≡ true →
        suc (length ys) ≡ suc (length (cond u ys (y ∷ without x ys)))
    pick true shorter e' = refl
    pick false shorter e' = ap suc (shorter e')

-- any other member stays one, ..
without_other : (x i : ℕ) (ys : List ℕ) → eqb x i ≡ false → has i (without x ys) ≡ has i ys
without_other x i [] e = refl
without_other x i (y ∷ ys) e = pick (eqb y x) refl (without_other x i ys e)
  where
    pick : (u : Bool) → eqb y x ≡ u → has i (without x ys) ≡ has i ys → has i (cond u ys (y ∷ without x ys)) ≡ (eqb y i || has i ys)
    pick true d below = let same : y ≡ x = eqb-true y x d in rw (same, e)
    pick false d below = ap (λ (r : Bool). eqb y i || r) below

-- .. and this one is none any more, where it stood once
without_same : (x : ℕ) (ys : List ℕ) → Distinct ys → has x (without x ys) ≡ false
without_same x [] a = refl
without_same x (y ∷ ys) a = pick (eqb y x) refl (without_same x ys a.1)
  where
    pick : (u : Bool) → eqb y x ≡ u → has x (without x ys) ≡ false → has x (cond u ys (y ∷ without x ys)) ≡ false
    pick true d below = let same : x ≡ y = sym (eqb-true y x d) in rw same a.0
    pick false d below = rw d below

without_distinct : (x : ℕ) (ys : List ℕ) → Distinct ys → Distinct (without x ys)
without_distinct x [] a = tt
without_distinct x (y ∷ ys) a = pick (eqb y x) refl (without_distinct x ys a.1)
  where
    pick : (u : Bool) → eqb y x ≡ u → Distinct (without x ys) → Distinct (cond u ys (y ∷ without x ys))
    pick true d below = a.1
    pick false d below = (without_other x y ys (eqb-sym x y ∙ d) ∙ a.0, below)

pub same_length : (xs ys : List ℕ) → Distinct xs → Distinct ys → ((i : ℕ) → has i xs ≡ has i ys) → length xs ≡ length ys
same_length [] [] a b members = refl
same_length [] (y ∷ ys) a b members =
    absurd (true≢false (sym (members y ∙ ap (λ (r : Bool). r || has y ys) (eq-eqb y y refl))))
same_length (x ∷ xs) ys a b members =
    let there : has x ys ≡ true = sym (members x) ∙ ap (λ (r : Bool). r || has x xs) (eq-eqb x x refl) in
    omega (arith, without_length x ys there, same_length xs (without x ys) a.1 (without_distinct x ys b) (λ i. left i (eqb x i) refl))
  where
    left : (i : ℕ) (u : Bool) → eqb x i ≡ u → has i xs ≡ has i (without x ys)
    left i true d = let same : i ≡ x = sym (eqb-true x i d) in rw same (a.0 ∙ sym (without_same x ys b))
    left i false d = ap (λ (r : Bool). r || has i xs) (sym d) ∙ members i ∙ sym (without_other x i ys d)
