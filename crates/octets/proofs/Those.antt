-- The laws of `those`: of no elements, of one before others, of lists behind one another, and of one element more; how many they are,
-- and how long the stretches made of them, of the first n elements of a table; where they are all or none; and what holds of each.
use Prim.Native.Nat.{ℕ, zero, suc, ◌+◌, ◌≤◌}
use mathlib.Core.Path.{◌≡◌, refl, sym, ap, ◌∙◌}
use mathlib.Core.Bool.{Bool, true, false, cond}
use mathlib.Core.List.{List, [], ◌∷◌, ◌++◌, map, append-nil}
use native.Mathlib.Omega.{arith}
use lib.ListN.{length, length-append}
use Rattle.octets.specs.Count.{sum_to, up_to}
use Rattle.octets.specs.Each.{Each}
use Rattle.octets.specs.Stretch.{joined}
use Rattle.octets.specs.Those.{those}
use Rattle.octets.proofs.Stretches.{length-joined-none, length-joined, joined-map_more}

module _ {A : Type 0} (test : A → Bool) where
  pub those-none : those test [] ≡ []
  unfolding those
  those-none = refl

  pub those-cons : (x : A) (more : List A) → those test (x ∷ more) ≡ cond (test x) (x ∷ those test more) (those test more)
  unfolding those
  those-cons x more = refl

  cond-append : (t : Bool) (x : A) (a b : List A) → cond t (x ∷ (a ++ b)) (a ++ b) ≡ cond t (x ∷ a) a ++ b
  cond-append true x a b = refl
  cond-append false x a b = refl

  pub those-append : (a b : List A) → those test (a ++ b) ≡ those test a ++ those test b
  unfolding those
  those-append [] b = refl
  those-append (x ∷ a) b =
      ap (λ (l : List A). cond (test x) (x ∷ l) l) (those-append a b) ∙ cond-append (test x) x (those test a) (those test b)

  pub those-one_more : (a : List A) (x : A) → those test (a ++ (x ∷ [])) ≡ those test a ++ cond (test x) (x ∷ []) []
  unfolding those
  those-one_more a x = those-append a (x ∷ [])

  -- how many: never more than there are
  few_more : (t : Bool) (x : A) (a b : List A) → length a ≤ length b → length (cond t (x ∷ a) a) ≤ length (x ∷ b)
  few_more true x a b h = omega arith
  few_more false x a b h = omega arith

  pub those-few : (l : List A) → length (those test l) ≤ length l
  unfolding those
  those-few [] = omega arith
  those-few (x ∷ more) = few_more (test x) x (those test more) more (those-few more)

  length-cond : (t : Bool) (x : A) → length (cond t (x ∷ []) []) ≡ cond t 1 0
  length-cond true x = refl
  length-cond false x = refl

  pub length-those : (f : ℕ → A) (n : ℕ) → length (those test (up_to f n)) ≡ sum_to (λ k. cond (test (f k)) 1 0) n
  unfolding sum_to up_to
  length-those f zero = ap length those-none
  length-those f (suc n) =
      let front = those test (up_to f n) in
      let last = cond (test (f n)) (f n ∷ []) [] in
      ap length (those-one_more (up_to f n) (f n))
      ∙ omega (arith, length-append front last, length-cond (test (f n)) (f n), length-those f n)

  -- stretches made of them, back to back
  module _ (stretch : A → List ℕ) where
    joined-cond : (t : Bool) (a : List A) (x : A) →
        joined (map stretch (a ++ cond t (x ∷ []) [])) ≡ joined (map stretch a) ++ cond t (stretch x) []
    joined-cond true a x = joined-map_more stretch a x
    joined-cond false a x = ap (λ (l : List A). joined (map stretch l)) (append-nil a) ∙ sym (append-nil (joined (map stretch a)))

    pub joined-those_more : (a : List A) (x : A) →
        joined (map stretch (those test (a ++ (x ∷ [])))) ≡ joined (map stretch (those test a)) ++ cond (test x) (stretch x) []
    joined-those_more a x =
        ap (λ (l : List A). joined (map stretch l)) (those-one_more a x) ∙ joined-cond (test x) (those test a) x

    length_stretch : (t : Bool) (x : A) → length (cond t (stretch x) []) ≡ cond t (length (stretch x)) 0
    length_stretch true x = refl
    length_stretch false x = refl

    pub length-joined-those : (f : ℕ → A) (n : ℕ) →
        length (joined (map stretch (those test (up_to f n)))) ≡ sum_to (λ k. cond (test (f k)) (length (stretch (f k))) 0) n
    unfolding sum_to up_to
    length-joined-those f zero = ap (λ (l : List A). length (joined (map stretch l))) those-none ∙ length-joined-none
    length-joined-those f (suc n) =
        let front = joined (map stretch (those test (up_to f n))) in
        let last = cond (test (f n)) (stretch (f n)) [] in
        ap length (joined-those_more (up_to f n) (f n))
        ∙ omega (arith, length-append front last, length_stretch (test (f n)) (f n), length-joined-those f n)

  -- One before others, by its test: it is one of them, and so they are one more; or it is not.
  pub those-taken : (x : A) (more : List A) → test x ≡ true → those test (x ∷ more) ≡ x ∷ those test more
  those-taken x more t = those-cons x more ∙ ap (λ (b : Bool). cond b (x ∷ those test more) (those test more)) t

  pub those-left : (x : A) (more : List A) → test x ≡ false → those test (x ∷ more) ≡ those test more
  those-left x more f = those-cons x more ∙ ap (λ (b : Bool). cond b (x ∷ those test more) (those test more)) f

  length_by : (t : Bool) (x : A) (l : List A) → length (cond t (x ∷ l) l) ≡ cond t 1 0 + length l
  length_by true x l = omega arith
  length_by false x l = omega arith

  pub length-those-cons : (x : A) (more : List A) → length (those test (x ∷ more)) ≡ cond (test x) 1 0 + length (those test more)
  length-those-cons x more = ap length (those-cons x more) ∙ length_by (test x) x (those test more)

  -- the stretches made of them are no longer than those of all
  module _ (stretch : A → List ℕ) where
    longer_by : (t : Bool) (x : A) (few all : List A) → length (joined (map stretch few)) ≤ length (joined (map stretch all)) →
        length (joined (map stretch (cond t (x ∷ few) few))) ≤ length (joined (map stretch (x ∷ all)))
    longer_by true x few all h =
        omega (arith, h, length-joined (stretch x) (map stretch few), length-joined (stretch x) (map stretch all))
    longer_by false x few all h = omega (arith, h, length-joined (stretch x) (map stretch all))

    pub joined-those-short : (l : List A) → length (joined (map stretch (those test l))) ≤ length (joined (map stretch l))
    joined-those-short [] = omega (arith, ap (λ (l : List A). length (joined (map stretch l))) those-none)
    joined-those-short (x ∷ more) =
        let shorter = longer_by (test x) x (those test more) more (joined-those-short more) in
        omega (arith, shorter, ap (λ (l : List A). length (joined (map stretch l))) (those-cons x more))

  -- where all pass they are all, and where none does they are none
  pub those_all : (l : List A) → Each (λ x. test x ≡ true) l → those test l ≡ l
  those_all [] passes = those-none
  those_all (x ∷ l) passes = those-taken x l passes.0 ∙ ap (λ (m : List A). x ∷ m) (those_all l passes.1)

  pub those_nothing : (l : List A) → Each (λ x. test x ≡ false) l → those test l ≡ []
  those_nothing [] fails = those-none
  those_nothing (x ∷ l) fails = those-left x l fails.0 ∙ those_nothing l fails.1

  -- each of them passes, and has whatever each element has
  module _ (P : A → Type 0) where
    each_by : (t : Bool) (x : A) (l : List A) → test x ≡ t → P x → Each (λ y. (test y ≡ true) × P y) l →
        Each (λ y. (test y ≡ true) × P y) (cond t (x ∷ l) l)
    each_by true x l t p more = ((t, p), more)
    each_by false x l t p more = more

    pub each-those : (l : List A) → Each P l → Each (λ x. (test x ≡ true) × P x) (those test l)
    unfolding those
    each-those [] p = tt
    each-those (x ∷ l) p = each_by (test x) x (those test l) refl p.0 (each-those l p.1)
