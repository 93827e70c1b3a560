-- The laws of `any`, `least`, `sum_to` and `up_to`: what they mean, and one turn more, at the code's `k + 1`. The invariants of
-- the loops that compute them stand here too, as records: `Gathered` for a loop that gathers faults, whose own proof then only
-- cites a begin, a turn and an end; `Sought` for one that looks for the first number that passes.
use Prim.Native.Nat.{ℕ, zero, suc, ◌+◌, ◌*◌, ◌<◌, ◌≤◌}
use mathlib.Core.Path.{◌≡◌, refl, ap, ◌∙◌, sym}
use mathlib.Core.Bool.{Bool, true, false, not, ◌||◌, or-true, or-false, or_assoc, true≢false}
use mathlib.Core.Logic.{◌⊎◌, inl, inr, ⊎_elim}
use mathlib.Core.List.{List, [], ◌∷◌, ◌++◌}
use native.Mathlib.Numerals.{add-one}
use native.Mathlib.Omega.{arith}
use native.Mathlib.Nat.{mul-zero, mul-suc, not-suc-le-zero, eq-or-lt_of_le, le_of_suc-le-suc, le_refl, le_trans, le-add_right}
use lib.Dec.{ltb, leb}
use lib.ListN.{length, get_or, length-append}
use borrow.Author.Tests.{lt-ltb, le-ltb, lt-leb, le-leb}
use Rattle.octets.specs.Count.{any, least, sum_to, up_to}

pub true-or-false : (b : Bool) → (b ≡ true) ⊎ (b ≡ false)
true-or-false true = inl refl
true-or-false false = inr refl

pub or-false-left : (a b : Bool) → (a || b) ≡ false → a ≡ false
or-false-left false b h = refl
or-false-left true b h = h

pub or-false-right : (a b : Bool) → (a || b) ≡ false → b ≡ false
or-false-right false b h = h
or-false-right true false h = refl
or-false-right true true h = h

pub or_true_right : (a b : Bool) → (a || b) ≡ true → a ≡ false → b ≡ true
or_true_right true b h e = absurd (true≢false e)
or_true_right false b h e = h

-- Some number passes, or none.
pub any_none : (p : ℕ → Bool) → any p 0 ≡ false
unfolding any
any_none p = refl

pub any_more : (p : ℕ → Bool) (n : ℕ) → any p (n + 1) ≡ (any p n || p n)
unfolding any
any_more p n = rw add-one

pub none_more : (p : ℕ → Bool) (n : ℕ) → any p n ≡ false → p n ≡ false → any p (n + 1) ≡ false
none_more p n h e = simp (any_more, h, e)

-- one that passes
pub any_at : (p : ℕ → Bool) (n i : ℕ) → p i ≡ true → i < n → any p n ≡ true
unfolding any
any_at p zero i e b = absurd (not-suc-le-zero b)
any_at p (suc n) i e b =
    ⊎_elim
    (λ (q : i ≡ n). simp (ap p (sym q) ∙ e, or-true))
    (λ (l : i < n). simp (any_at p n i e l))
    (eq-or-lt_of_le (le_of_suc-le-suc b))

-- none below n passes: none of them does
pub none_at : (p : ℕ → Bool) (n i : ℕ) → any p n ≡ false → i < n → p i ≡ false
unfolding any
none_at p zero i h b = absurd (not-suc-le-zero b)
none_at p (suc n) i h b =
    ⊎_elim
    (λ (q : i ≡ n). ap p q ∙ or-false-right (any p n) (p n) h)
    (λ (l : i < n). none_at p n i (or-false-left (any p n) (p n) h) l)
    (eq-or-lt_of_le (le_of_suc-le-suc b))

-- .. and the other way round
pub none_all : (p : ℕ → Bool) (n : ℕ) → ((k : ℕ) → k < n → p k ≡ false) → any p n ≡ false
unfolding any
none_all p zero h = refl
none_all p (suc n) h = simp (none_all p n (λ k l. h k (omega arith)), h n (omega arith))

-- two tests that agree below n
pub any_same : (p q : ℕ → Bool) (n : ℕ) → ((k : ℕ) → k < n → p k ≡ q k) → any p n ≡ any q n
unfolding any
any_same p q zero h = refl
any_same p q (suc n) h = simp (any_same p q n (λ k l. h k (omega arith)), h n (omega arith))

-- The least number that passes.
pub least-none : (p : ℕ → Bool) (n : ℕ) → any p n ≡ false → least p n ≡ n
unfolding any least
least-none p zero h = refl
least-none p (suc n) h = simp (or-false-left (any p n) (p n) h, or-false-right (any p n) (p n) h)

pub least-same : (p q : ℕ → Bool) (n : ℕ) → ((k : ℕ) → k < n → p k ≡ q k) → least p n ≡ least q n
unfolding least
least-same p q zero h = refl
least-same p q (suc n) h =
    simp (any_same p q n (λ k l. h k (omega arith)), least-same p q n (λ k l. h k (omega arith)), h n (omega arith))

-- none below i passes, and i does
pub least_at : (p : ℕ → Bool) (n i : ℕ) → any p i ≡ false → p i ≡ true → i < n → least p n ≡ i
unfolding any least
least_at p zero i h e b = absurd (not-suc-le-zero b)
least_at p (suc n) i h e b =
    ⊎_elim
    (λ (q : i ≡ n). simp (ap (any p) (sym q) ∙ h, ap p (sym q) ∙ e) (sym q))
    (λ (l : i < n). simp (any_at p n i e l) (least_at p n i h e l))
    (eq-or-lt_of_le (le_of_suc-le-suc b))

pub least_below : (p : ℕ → Bool) (n : ℕ) → any p n ≡ true → least p n < n
unfolding any least
least_below p zero h = absurd (true≢false (sym h))
least_below p (suc n) h =
    ⊎_elim
    (λ (a : any p n ≡ true). let l : least p n < n = least_below p n a in simp a (omega arith))
    (λ (a : any p n ≡ false). let e : p n ≡ true = simp a at h in simp (a, e) (omega arith))
    (true-or-false (any p n))

-- the least is not below n: none passes
pub none-least : (p : ℕ → Bool) (n : ℕ) → n ≤ least p n → any p n ≡ false
none-least p n h =
    ⊎_elim
    (λ (a : any p n ≡ true). let l : least p n < n = least_below p n a in absurd (never l))
    (λ (a : any p n ≡ false). a)
    (true-or-false (any p n))
  where
    never : least p n < n → ⊥
    never l = omega arith

-- the least passes, if it is below n
pub least_passes : (p : ℕ → Bool) (n : ℕ) → least p n < n → p (least p n) ≡ true
unfolding any least
least_passes p zero h = absurd (not-suc-le-zero h)
least_passes p (suc n) h =
    ⊎_elim
    (λ (a : any p n ≡ true). simp a (least_passes p n (least_below p n a)))
    (λ (a : any p n ≡ false).
    ⊎_elim
    (λ (e : p n ≡ true). simp (a, e))
    (λ (e : p n ≡ false). absurd (never (simp (a, e) at h)))
    (true-or-false (p n)))
    (true-or-false (any p n))
  where
    never : suc n < suc n → ⊥
    never l = omega arith

-- the least lies below n exactly where some number passes
pub least-found : (p : ℕ → Bool) (n : ℕ) → ltb (least p n) n ≡ any p n
least-found p n =
    ⊎_elim
    (λ (a : any p n ≡ true). lt-ltb (least p n) n (least_below p n a) ∙ sym a)
    (λ (a : any p n ≡ false). le-ltb (least p n) n (omega (arith, least-none p n a)) ∙ sym a)
    (true-or-false (any p n))

pub least_missed : (p : ℕ → Bool) (n : ℕ) → leb n (least p n) ≡ not (any p n)
least_missed p n =
    ⊎_elim
    (λ (a : any p n ≡ true). lt-leb n (least p n) (least_below p n a) ∙ ap not (sym a))
    (λ (a : any p n ≡ false). le-leb n (least p n) (omega (arith, least-none p n a)) ∙ ap not (sym a))
    (true-or-false (any p n))

-- Sums and lists.
pub sum-none : (f : ℕ → ℕ) → sum_to f 0 ≡ 0
unfolding sum_to
sum-none f = refl

pub sum_more : (f : ℕ → ℕ) (k : ℕ) → sum_to f (k + 1) ≡ sum_to f k + f k
unfolding sum_to
sum_more f k = rw (add-one k) refl

-- the sum before k, and the term at k, lie within the whole sum
pub sum-within : (f : ℕ → ℕ) (k n : ℕ) → k < n → sum_to f k + f k ≤ sum_to f n
unfolding sum_to
sum-within f k zero h = absurd (not-suc-le-zero h)
sum-within f k (suc n) h =
    ⊎_elim (λ e. rw e (le_refl (sum_to f n + f n))) (λ l. le_trans (sum-within f k n l) (le-add_right (sum_to f n) (f n)))
    (eq-or-lt_of_le (le_of_suc-le-suc h))

-- a part of the sum is no more than all of it
pub sum_below : (f : ℕ → ℕ) (k n : ℕ) → k ≤ n → sum_to f k ≤ sum_to f n
sum_below f k n h =
    ⊎_elim (λ e. rw e (le_refl (sum_to f n))) (λ l. le_trans (le-add_right (sum_to f k) (f k)) (sum-within f k n l)) (eq-or-lt_of_le h)

-- n times the same
pub sum_same : (a n : ℕ) → sum_to (λ k. a) n ≡ a * n
unfolding sum_to
sum_same a zero = sym (mul-zero a)
sum_same a (suc n) = ap (λ (m : ℕ). m + a) (sum_same a n) ∙ sym (mul-suc a n)

-- Sums of terms that agree, that are all 0, that are added up.
pub sum_agree : (f g : ℕ → ℕ) (n : ℕ) → ((k : ℕ) → k < n → f k ≡ g k) → sum_to f n ≡ sum_to g n
unfolding sum_to
sum_agree f g zero same = refl
sum_agree f g (suc n) same = omega (arith, sum_agree f g n (λ k l. same k (omega arith)), same n (omega arith))

pub sum-zero : (f : ℕ → ℕ) (n : ℕ) → ((k : ℕ) → k < n → f k ≡ 0) → sum_to f n ≡ 0
sum-zero f n none = omega (arith, sum_agree f (λ k. 0) n none, sum_same 0 n)

pub sum_both : (f g h : ℕ → ℕ) (n : ℕ) → ((k : ℕ) → k < n → f k + g k ≡ h k) → sum_to f n + sum_to g n ≡ sum_to h n
unfolding sum_to
sum_both f g h zero both = refl
sum_both f g h (suc n) both = omega (arith, sum_both f g h n (λ k l. both k (omega arith)), both n (omega arith))

-- all terms but one agree
pub sum_but_one : (f g : ℕ → ℕ) (r n : ℕ) → r < n → ((k : ℕ) → k < n → (k ≡ r → ⊥) → g k ≡ f k) → sum_to g n + f r ≡ sum_to f n + g r
unfolding sum_to
sum_but_one f g r zero there same = absurd (not-suc-le-zero there)
sum_but_one f g r (suc n) there same =
    ⊎_elim
    (λ (e : r ≡ n). rw e (omega (arith, sum_agree g f n (λ k l. same k (omega arith) (λ d. omega arith)))))
    (λ (l : r < n). omega (arith, sum_but_one f g r n l (λ k m other. same k (omega arith) other), same n (omega arith) (λ d. omega arith)))
    (eq-or-lt_of_le (le_of_suc-le-suc there))

pub up_to_more : {A : Type 0} (f : ℕ → A) (n : ℕ) → up_to f (n + 1) ≡ up_to f n ++ (f n ∷ [])
unfolding up_to
up_to_more f n = rw (add-one n) refl

pub up_to-none : {A : Type 0} (f : ℕ → A) → up_to f 0 ≡ []
unfolding up_to
up_to-none f = refl

-- the first of them before the others
pub up_to_front : {A : Type 0} (f : ℕ → A) (n : ℕ) → up_to f (suc n) ≡ f 0 ∷ up_to (λ k. f (suc k)) n
unfolding up_to
up_to_front f zero = refl
up_to_front f (suc n) = ap (λ l. l ++ (f (suc n) ∷ [])) (up_to_front f n)

-- all elements of a list are the list
pub up_to_elements : {A : Type 0} (f : ℕ → A) (l : List A) (d : A) → ((k : ℕ) → k < length l → f k ≡ get_or l k d) → up_to f (length l) ≡ l
up_to_elements f [] d same = up_to-none f
up_to_elements f (x ∷ l) d same =
    up_to_front f (length l)
    ∙ rw (same 0 (omega arith)) (ap (λ m. x ∷ m) (up_to_elements (λ k. f (suc k)) l d (λ k there. same (suc k) (omega arith))))

-- elements that agree
pub up_to_agree : {A : Type 0} (f g : ℕ → A) (n : ℕ) → ((k : ℕ) → k < n → f k ≡ g k) → up_to f n ≡ up_to g n
unfolding up_to
up_to_agree f g zero same = refl
up_to_agree f g (suc n) same = rw (up_to_agree f g n (λ k l. same k (omega arith)), same n (omega arith)) refl

pub length-up_to : {A : Type 0} (f : ℕ → A) (n : ℕ) → length (up_to f n) ≡ n
unfolding up_to
length-up_to f zero = refl
length-up_to f (suc n) = length-append (up_to f n) (f n ∷ []) ∙ ap (λ (k : ℕ). k + 1) (length-up_to f n) ∙ add-one n

-- The invariant of a loop that gathers `bad = bad | r`, with r the test at k, for k from 0 to n.
pub record Gathered (b : Bool) (p : ℕ → Bool) (n : ℕ) (bad : Bool) (k : ℕ) : Type 0 where
  pub within : k ≤ n
  pub so_far : bad ≡ (b || any p k)

pub gather_begin : (b : Bool) (p : ℕ → Bool) (n : ℕ) → Gathered b p n b 0
gather_begin b p n = record { within = omega arith; so_far = simp (any_none, or-false) }

pub gather_turn : {b : Bool} {p : ℕ → Bool} {n : ℕ} {bad : Bool} {k : ℕ} {r : Bool} →
    Gathered b p n bad k → k < n → r ≡ p k → Gathered b p n (bad || r) (k + 1)
gather_turn {p = p} {k = k} g l e = record { within = omega arith; so_far = simp (any_more p k, g.so_far, e, or_assoc) }

pub gather_end : {b : Bool} {p : ℕ → Bool} {n : ℕ} {bad : Bool} {k : ℕ} → Gathered b p n bad k → n ≤ k → bad ≡ (b || any p n)
gather_end {b} {p} {n} {bad} {k} g l = let q : k ≡ n = omega arith in g.so_far ∙ ap (λ (m : ℕ). b || any p m) q

-- The invariant of a loop that looks for the least i below n that passes.
pub record Sought (p : ℕ → Bool) (n i : ℕ) : Type 0 where
  pub within : i ≤ n
  pub none : any p i ≡ false

pub seek_none : {p : ℕ → Bool} {n i : ℕ} → Sought p n i → n ≤ i → any p n ≡ false
seek_none {p} {n} {i} g l = let q : n ≡ i = omega (arith, g.within, l) in ap (any p) q ∙ g.none
