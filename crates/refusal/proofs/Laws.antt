-- Laws of tests, and what an order of refusals says: it gives 0 exactly where no condition holds; and of an order in two stretches, one
-- behind the other, the second decides exactly where the first refuses nothing. A function that judges stretch after stretch is right by
-- these laws.
use Prim.Native.Nat.{ℕ}
use mathlib.Core.Path.{◌≡◌, refl, sym, ap, ◌∙◌}
use mathlib.Core.Bool.{Bool, true, false, cond, not, ◌&&◌, and-false, true≢false}
use mathlib.Core.List.{List, [], ◌∷◌, ◌++◌}
use lib.Dec.{eqb}
use borrow.Author.Tests.{eq-eqb, ne_eqb}
use Rattle.refusal.specs.Refusal.{Refusal, ◌when◌, first}

-- No line gives 0, which would say that nothing was refused. Of a list that is written out this is `refl`.
abbrev pub numbered : List Refusal → Bool
numbered [] = true
numbered (r ∷ rest) = not (eqb r.number 0) && numbered rest

pub and_left : (a b : Bool) → (a && b) ≡ true → a ≡ true
and_left true b h = refl
and_left false b h = h

pub and_right : (a b : Bool) → (a && b) ≡ true → b ≡ true
and_right true b h = h
and_right false b h = absurd (true≢false (sym h))

-- neither both, nor the second where the first holds
pub and-rest : (a b : Bool) → (a && b) ≡ false → a ≡ true → b ≡ false
and-rest a b none holds = sym (ap (λ (x : Bool). x && b) holds) ∙ none

-- not both, where not the second
pub and-false_by : (a b : Bool) → b ≡ false → (a && b) ≡ false
and-false_by a b e = ap (λ (x : Bool). a && x) e ∙ and-false a

-- what a test that is decided picks
pub cond-true : {A : Type 0} (t : Bool) (x y : A) → t ≡ true → cond t x y ≡ x
cond-true t x y e = ap (λ (b : Bool). cond b x y) e

pub cond-false : {A : Type 0} (t : Bool) (x y : A) → t ≡ false → cond t x y ≡ y
cond-false t x y e = ap (λ (b : Bool). cond b x y) e

-- by the number of an answer: nothing was refused, or something was
pub when_accepted : {A : Type 0} (n : ℕ) → n ≡ 0 → (x y : A) → cond (eqb n 0) x y ≡ x
when_accepted n none x y = cond-true (eqb n 0) x y (eq-eqb n 0 none)

pub when_refused : {A : Type 0} (n : ℕ) → (n ≡ 0 → ⊥) → (x y : A) → cond (eqb n 0) x y ≡ y
when_refused n some x y = cond-false (eqb n 0) x y (ne_eqb n 0 some)

pub numbered_both : (xs ys : List Refusal) → numbered xs ≡ true → numbered ys ≡ true → numbered (xs ++ ys) ≡ true
numbered_both [] ys n m = m
numbered_both (r ∷ xs) ys n m =
    let head = not (eqb r.number 0) in
    rw (and_left head (numbered xs) n) (numbered_both xs ys (and_right head (numbered xs) n) m)

not_zero : (n : ℕ) → not (eqb n 0) ≡ true → n ≡ 0 → ⊥
not_zero n h z = let e : not (eqb n 0) ≡ false = simp (eq-eqb n 0 z) in true≢false (sym h ∙ e)

-- no condition holds
abbrev pub NoneApplies : List Refusal → Type 0
NoneApplies [] = Unit {0}
NoneApplies (r ∷ rest) = (r.applies ≡ false) × NoneApplies rest

module _ (r : Refusal) (xs : List Refusal) (nonzero : r.number ≡ 0 → ⊥) where
  head_passed : (b : Bool) → cond b r.number (first xs) ≡ 0 → (b ≡ false) × (first xs ≡ 0)
  head_passed true z = absurd (nonzero z)
  head_passed false z = (refl, z)

pub none-applies : (xs : List Refusal) → numbered xs ≡ true → first xs ≡ 0 → NoneApplies xs
none-applies [] n z = tt
none-applies (r ∷ xs) n z =
    let h = head_passed r xs (not_zero r.number (and_left (not (eqb r.number 0)) (numbered xs) n)) r.applies z in
    (h.0, none-applies xs (and_right (not (eqb r.number 0)) (numbered xs) n) h.1)

-- where the first stretch refuses nothing, the second decides
pub first-passed : (xs ys : List Refusal) → numbered xs ≡ true → first xs ≡ 0 → first (xs ++ ys) ≡ first ys
first-passed [] ys n z = refl
first-passed (r ∷ xs) ys n z =
    let h = head_passed r xs (not_zero r.number (and_left (not (eqb r.number 0)) (numbered xs) n)) r.applies z in
    simp h.0 (first-passed xs ys (and_right (not (eqb r.number 0)) (numbered xs) n) h.1)

stopped_by : (b : Bool) (m : ℕ) (xs ys : List Refusal) → ((first xs ≡ 0 → ⊥) → first (xs ++ ys) ≡ first xs) →
    (cond b m (first xs) ≡ 0 → ⊥) → cond b m (first (xs ++ ys)) ≡ cond b m (first xs)
stopped_by true m xs ys below s = refl
stopped_by false m xs ys below s = below s

-- what the first stretch refuses is refused
pub first_stopped : (xs ys : List Refusal) → (first xs ≡ 0 → ⊥) → first (xs ++ ys) ≡ first xs
first_stopped [] ys s = absurd (s refl)
first_stopped (r ∷ xs) ys s = stopped_by r.applies r.number xs ys (first_stopped xs ys) s

-- The other way round, and an order taken apart.
pub none_first : (xs : List Refusal) → NoneApplies xs → first xs ≡ 0
none_first [] n = refl
none_first (r ∷ xs) n = simp n.0 (none_first xs n.1)

pub none_apart : (xs ys : List Refusal) → NoneApplies (xs ++ ys) → NoneApplies xs × NoneApplies ys
none_apart [] ys n = (tt, n)
none_apart (r ∷ xs) ys n = let both = none_apart xs ys n.1 in ((n.0, both.0), both.1)

-- A number that no line gives is not given. Of a list that is written out `lacks n` is `refl`.
abbrev pub lacks : ℕ → List Refusal → Bool
lacks n [] = true
lacks n (r ∷ rest) = not (eqb r.number n) && lacks n rest

pub lacks_both : (n : ℕ) (xs ys : List Refusal) → lacks n xs ≡ true → lacks n ys ≡ true → lacks n (xs ++ ys) ≡ true
lacks_both n [] ys l m = m
lacks_both n (r ∷ xs) ys l m =
    let head = not (eqb r.number n) in
    rw (and_left head (lacks n xs) l) (lacks_both n xs ys (and_right head (lacks n xs) l) m)

pub first_lacks : (n : ℕ) (xs : List Refusal) → eqb 0 n ≡ false → lacks n xs ≡ true → first xs ≡ n → ⊥
first_lacks n [] some l e = true≢false (sym (eq-eqb 0 n e) ∙ some)
first_lacks n (r ∷ xs) some l e =
    let head = not (eqb r.number n) in
    by r.applies (and_left head (lacks n xs) l) (first_lacks n xs some (and_right head (lacks n xs) l)) e
  where
    by : (b : Bool) → not (eqb r.number n) ≡ true → (first xs ≡ n → ⊥) → cond b r.number (first xs) ≡ n → ⊥
    by true other later z = let same : not (eqb r.number n) ≡ false = simp (eq-eqb r.number n z) in true≢false (sym other ∙ same)
    by false other later z = later z

-- A last line whose condition does not hold says nothing.
pub first-idle : (n : ℕ) (xs : List Refusal) → first (xs ++ (n when false ∷ [])) ≡ first xs
first-idle n [] = refl
first-idle n (r ∷ xs) = ap (λ (behind : ℕ). cond r.applies r.number behind) (first-idle n xs)

-- Nor does one in the middle.
pub first-skips : (xs : List Refusal) (n : ℕ) (ys : List Refusal) → first (xs ++ (n when false ∷ []) ++ ys) ≡ first (xs ++ ys)
first-skips [] n ys = refl
first-skips (r ∷ xs) n ys = ap (λ (behind : ℕ). cond r.applies r.number behind) (first-skips xs n ys)
