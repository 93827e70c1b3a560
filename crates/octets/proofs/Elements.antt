-- What holds of each element of a list, when lists are laid behind one another, taken apart, or read by place; and lists of anything
-- from a place on. A list of numbers is cut by `part` and `rest` (proofs/Stretches.antt); one of other things is cut by the kit's
-- `drop`, whose laws are passed on from here.
use Prim.Native.Nat.{ℕ, zero, suc, ◌+◌, ◌≤◌, ◌<◌}
use mathlib.Core.Path.{◌≡◌, refl, sym, ap, subst}
use mathlib.Core.Logic.{⊎_elim}
use mathlib.Core.List.{List, [], ◌∷◌, ◌++◌, map}
use native.Mathlib.Omega.{arith}
use native.Mathlib.Nat.{not-suc-le-zero, eq-or-lt_of_le}
use lib.ListN.{length, take, drop, set, get_or, replicate, length-append, take-append-drop, get_or-append}
use lib.Seq.{get_or_at}
pub use lib.ListN.{length-drop}
pub use lib.Seq.{get_or-drop, drop-drop}
use Rattle.octets.specs.Count.{up_to}
use Rattle.octets.specs.Each.{Each}
use Rattle.octets.specs.Stretch.{part, rest}

module _ {A : Type 0} (P : A → Type 0) where
  pub each_both : (a b : List A) → Each P a → Each P b → Each P (a ++ b)
  each_both [] b p q = q
  each_both (x ∷ a) b p q = (p.0, each_both a b p.1 q)

  pub each_front : (a b : List A) → Each P (a ++ b) → Each P a
  each_front [] b p = tt
  each_front (x ∷ a) b p = (p.0, each_front a b p.1)

  pub each_back : (a b : List A) → Each P (a ++ b) → Each P b
  each_back [] b p = p
  each_back (x ∷ a) b p = each_back a b p.1

  pub each_at : (a : List A) (i : ℕ) (d : A) → Each P a → i < length a → P (get_or a i d)
  each_at [] i d p l = absurd (not-suc-le-zero l)
  each_at (x ∷ a) zero d p l = p.0
  each_at (x ∷ a) (suc i) d p l = each_at a i d p.1 (omega arith)

  pub each-up_to : (f : ℕ → A) (n : ℕ) → ((k : ℕ) → k < n → P (f k)) → Each P (up_to f n)
  unfolding up_to
  each-up_to f zero p = tt
  each-up_to f (suc n) p = each_both (up_to f n) (f n ∷ []) (each-up_to f n (λ k l. p k (omega arith))) (p n (omega arith), tt)

  pub each-replicate : (n : ℕ) (x : A) → P x → Each P (replicate n x)
  each-replicate zero x p = tt
  each-replicate (suc n) x p = (p, each-replicate n x p)

-- of a stretch of numbers, and of the rest
module _ (P : ℕ → Type 0) where
  pub each-rest : (l : List ℕ) (from : ℕ) → Each P l → Each P (rest l from)
  unfolding rest
  each-rest l from p = each_back P (take from l) (drop from l) (subst (Each P) (sym (take-append-drop from l)) p)

  pub each_part : (l : List ℕ) (from n : ℕ) → Each P l → Each P (part l from n)
  unfolding part rest
  each_part l from n p =
      let back : Each P (drop from l) = each-rest l from p in
      each_front P (take n (drop from l)) (drop n (drop from l)) (subst (Each P) (sym (take-append-drop n (drop from l))) back)

-- and what follows from it for each element
pub each_too : {A : Type 0} (P Q : A → Type 0) (xs : List A) → ((x : A) → P x → Q x) → Each P xs → Each Q xs
each_too P Q [] follows p = tt
each_too P Q (x ∷ xs) follows p = (follows x p.0, each_too P Q xs follows p.1)

-- two things that hold of each
pub each_zip : {A : Type 0} (P Q : A → Type 0) (xs : List A) → Each P xs → Each Q xs → Each (λ x. P x × Q x) xs
each_zip P Q [] p q = tt
each_zip P Q (x ∷ xs) p q = ((p.0, q.0), each_zip P Q xs p.1 q.1)

-- Of what a function makes of each element; and one that another function takes back gives the list again.
module _ {A B : Type 0} (f : A → B) where
  pub each_map : (P : B → Type 0) (l : List A) → Each (λ x. P (f x)) l → Each P (map f l)
  each_map P [] p = tt
  each_map P (x ∷ l) p = (p.0, each_map P l p.1)

  pub map_back : (g : B → A) (l : List A) → Each (λ x. g (f x) ≡ x) l → map g (map f l) ≡ l
  map_back g [] back = refl
  map_back g (x ∷ l) back = rw (back.0, map_back g l back.1) refl

-- A list of no length.
pub length_none : {A : Type 0} (l : List A) → length l ≡ 0 → l ≡ []
length_none [] z = refl
length_none (x ∷ l) z = absurd (let never : ⊥ = omega arith in never)

-- A list one longer: its length, an element before the last, the last, and what holds of all.
module _ {A : Type 0} (l : List A) (x : A) where
  pub length-one_more : length (l ++ (x ∷ [])) ≡ length l + 1
  length-one_more = length-append l (x ∷ [])

  pub before_last : (k : ℕ) (d : A) → k < length l → get_or (l ++ (x ∷ [])) k d ≡ get_or l k d
  before_last k d there = get_or-append l (x ∷ []) d k there

  pub at_last : (k : ℕ) (d : A) → k ≡ length l → get_or (l ++ (x ∷ [])) k d ≡ x
  at_last k d e = get_or_at l x [] d k (sym e)

  pub all_one_more : (P : A → Type 0) (d : A) → ((k : ℕ) → k < length l → P (get_or l k d)) → P x →
      (k : ℕ) → k < length (l ++ (x ∷ [])) → P (get_or (l ++ (x ∷ [])) k d)
  all_one_more P d all p k there =
      ⊎_elim
      (λ (e : k ≡ length l). rw (at_last k d e) p)
      (λ (b : k < length l). rw (before_last k d b) (all k b))
      (eq-or-lt_of_le (let n = length-one_more in let few : k ≤ length l = omega arith in few))

-- One element of a list replaced. Past the end nothing is replaced, and what holds of the old elements holds still: this is why a law of
-- tables need not ask how many rows they have.
pub at_set : {A : Type 0} (P : A → Type 0) (l : List A) (i : ℕ) (a d : A) (j : ℕ) → (j ≡ i → P a) → P (get_or l j d) →
    P (get_or (set l i a) j d)
at_set P [] i a d j new old = old
at_set P (x ∷ l) zero a d zero new old = new refl
at_set P (x ∷ l) zero a d (suc j) new old = old
at_set P (x ∷ l) (suc i) a d zero new old = old
at_set P (x ∷ l) (suc i) a d (suc j) new old = at_set P l i a d j (λ e. new (ap suc e)) old

-- at the very place stands the new element, or the default past the end
pub at_set_same : {A : Type 0} (P : A → Type 0) (l : List A) (i : ℕ) (a d : A) → P a → P d → P (get_or (set l i a) i d)
at_set_same P [] i a d new past = past
at_set_same P (x ∷ l) zero a d new past = new
at_set_same P (x ∷ l) (suc i) a d new past = at_set_same P l i a d new past

-- A list of anything from place i on, where it begins with x: that is element i, the others stand from the next place on, and the list
-- reaches as far; and where nothing is left, it does not.
module _ {A : Type 0} (x : A) (xs : List A) where
  none_dropped : (i : ℕ) → drop (suc i) [] ≡ x ∷ xs → ⊥
  none_dropped i e = let z : 0 ≡ suc (length xs) = ap length e in omega arith

  pub drop-first : (l : List A) (i : ℕ) (d : A) → drop i l ≡ x ∷ xs → get_or l i d ≡ x
  drop-first l zero d e = ap (λ m. get_or m 0 d) e
  drop-first [] (suc i) d e = absurd (none_dropped i e)
  drop-first (y ∷ l) (suc i) d e = drop-first l i d e

  pub drop-others : (l : List A) (i : ℕ) → drop i l ≡ x ∷ xs → drop (suc i) l ≡ xs
  drop-others l zero e = ap (drop 1) e
  drop-others [] (suc i) e = absurd (none_dropped i e)
  drop-others (y ∷ l) (suc i) e = drop-others l i e

  pub drop-some : (l : List A) (i : ℕ) → drop i l ≡ x ∷ xs → i < length l
  drop-some l i e = let n : length (drop i l) ≡ suc (length xs) = ap length e in omega (arith, length-drop i l)

pub drop-none : {A : Type 0} (l : List A) (i : ℕ) → drop i l ≡ [] → length l ≤ i
drop-none l i e = let n : length (drop i l) ≡ 0 = ap length e in omega (arith, length-drop i l)
