-- How a packet with the flag cuts the frames that wait (W3): it takes whole ones, and then the front of one, or nothing and is filled up;
-- and the reader finds just this (`split`).
use Prim.Native.Nat.{ℕ, zero, suc, ◌-◌, ◌≤◌, ◌<◌}
use mathlib.Core.Path.{◌≡◌, refl, sym, ap, ◌∙◌}
use mathlib.Core.Bool.{true, false}
use mathlib.Core.Logic.{⊎_elim}
use mathlib.Core.List.{List, [], ◌∷◌, ◌++◌, append_assoc, append-nil}
use native.Mathlib.Omega.{arith}
use native.Mathlib.Nat.{not-suc-le-zero}
use lib.Dec.{leb}
use lib.ListN.{length, replicate, length-append}
use borrow.Author.Tests.{leb-true, leb-false}
use Rattle.octets.specs.Each.{Each}
use Rattle.octets.specs.Stretch.{part, rest, joined}
use Rattle.octets.proofs.Counts.{true-or-false}
use Rattle.octets.proofs.Stretches.{length_part, length_rest, part_none, part_past, part-and-rest, part-append, part-append-within}
use Rattle.octets.proofs.Stretches.{part-append_past, rest-append, joined-none, joined-cons}
use Rattle.ts.specs.Packet.{fill_byte}
use Rattle.ts.proofs.Filling.{fill_all}
use Rattle.mpeg.specs.Packet.{filled_to}
use Rattle.mpeg.specs.Frame.{said_length, starts_well, good, Good}
use Rattle.mpeg.specs.Read.{found}
use Rattle.mpeg.proofs.Backlogs.{Mid, between, mid_some, one, one_some}
use Rattle.mpeg.proofs.Frames.{Says, good_says, good-some, starts_append, starts_not_fill, said-append, front_starts, front_open}
use Rattle.mpeg.proofs.Frames.{front_begins}
use Rattle.mpeg.proofs.Found.{found_well, found_none, found_filled, found-frame, found_open}

-- What is found in 0xFF alone, in a front of a frame, and in a frame with something behind it.
found_fill : (n m : ℕ) → m ≤ n → found n (replicate m fill_byte) ≡ found_well [] []
found_fill zero zero h = found_none zero
found_fill zero (suc m) h = absurd (not-suc-le-zero h)
found_fill (suc n) m h = found_filled n (replicate m fill_byte) (fill_all m)

found_front : (n : ℕ) (front back : List ℕ) → 0 < length front → 0 < length back → Says (front ++ back) →
    found (suc n) front ≡ found_well [] front
found_front n front back some more says =
    found_open n front (starts_not_fill front some (front_starts front back some more says)) (front_open front back some more says)
    ∙ rw (front_begins front back some more says) refl

found-whole : (n : ℕ) (f behind : List ℕ) (whole : List (List ℕ)) (front : List ℕ) → good f ≡ true →
    found n behind ≡ found_well whole front →
    found (suc n) (f ++ behind) ≡ found_well (f ∷ whole) front
found-whole n f behind whole front g e =
    let s = good_says f g in
    let six = good-some f g in
    let both = length-append f behind in
    let starts : starts_well (f ++ behind) ≡ true = starts_append f behind (omega arith) ∙ s.starts in
    let said : said_length (f ++ behind) ≡ length f = said-append f behind (omega arith) ∙ s.its_length in
    found-frame n (f ++ behind) (starts_not_fill (f ++ behind) (omega arith) starts) (omega arith)
    ∙ rw (said, part-append f behind, rest-append f behind, e, g) refl

-- The m bytes behind the pointer, or behind a frame's end: of the frames that wait, filled up.
abbrev pub room : ℕ → List (List ℕ) → List ℕ
room m waiting = filled_to m (part (joined waiting) 0 m)

-- How they cut the frames that wait, and that the reader finds just this.
pub record Split (m n : ℕ) (waiting : List (List ℕ)) : Type 0 where
  pub whole : List (List ℕ)
  pub front : List ℕ
  pub back : List ℕ
  pub behind : List (List ℕ)
  pub mid : Mid front back
  pub are : waiting ≡ whole ++ (one front back ++ behind)
  pub taken : part (joined waiting) 0 m ≡ joined whole ++ front
  pub is_found : found n (room m waiting) ≡ found_well whole front

filled_behind : (m : ℕ) (f l : List ℕ) → filled_to m (f ++ l) ≡ f ++ filled_to (m - length f) l
filled_behind m f l =
    let n : m - length (f ++ l) ≡ m - length f - length l = omega (arith, length-append f l) in
    rw n (append_assoc f l (replicate (m - length f - length l) fill_byte))

-- nothing is taken: nothing waits, or there is no room
split_nothing : (m n : ℕ) (waiting : List (List ℕ)) → m ≤ n → part (joined waiting) 0 m ≡ [] → Split m n waiting
split_nothing m n waiting h none-taken =
    let e : m - 0 ≡ m = omega arith in
    record {
      whole = [];
      front = [];
      back = [];
      behind = waiting;
      mid = between;
      are = refl;
      taken = rw joined-none none-taken;
      is_found = rw (none-taken, e) (found_fill n m h);
    }

split_front : (m n : ℕ) (f : List ℕ) (waiting : List (List ℕ)) → Says f → 0 < m → m < length f → Split m (suc n) (f ∷ waiting)
split_front m n f waiting says some less =
    let front = part f 0 m in
    let back = rest f m in
    let long : length front ≡ m = length_part f 0 m (omega arith) in
    let a : 0 < length front = omega arith in
    let b : 0 < length back = omega (arith, length_rest f m) in
    let whole-frame : front ++ back ≡ f = part-and-rest f m in
    let frame-says : Says (front ++ back) = rw whole-frame says in
    let is-taken : part (joined (f ∷ waiting)) 0 m ≡ front =
    ap (λ (l : List ℕ). part l 0 m) (joined-cons f waiting) ∙ part-append-within f (joined waiting) 0 m (omega arith) in
    let filled : m - length front ≡ 0 = omega arith in
    record {
      whole = [];
      front = front;
      back = back;
      behind = waiting;
      mid = mid_some front back a b;
      are = ap (λ (l : List (List ℕ)). l ++ waiting) (sym (one_some front back b ∙ ap (λ (l : List ℕ). l ∷ []) whole-frame));
      taken = rw joined-none is-taken;
      is_found = rw (is-taken, filled, append-nil front) (found_front n front back a b frame-says);
    }

split_frame : (m n : ℕ) (f : List ℕ) (waiting : List (List ℕ)) → good f ≡ true → length f ≤ m → Split (m - length f) n waiting →
    Split m (suc n) (f ∷ waiting)
split_frame m n f waiting g fits s =
    let others = part (joined waiting) 0 (m - length f) in
    let is-taken : part (joined (f ∷ waiting)) 0 m ≡ f ++ others =
    ap (λ (l : List ℕ). part l 0 m) (joined-cons f waiting) ∙ part-append_past f (joined waiting) m fits in
    record {
      whole = f ∷ s.whole;
      front = s.front;
      back = s.back;
      behind = s.behind;
      mid = s.mid;
      are = ap (λ (l : List (List ℕ)). f ∷ l) s.are;
      taken = is-taken ∙ ap (λ (l : List ℕ). f ++ l) s.taken ∙ sym (append_assoc f (joined s.whole) s.front)
          ∙ ap (λ (l : List ℕ). l ++ s.front) (sym (joined-cons f s.whole));
      is_found = ap (found (suc n)) (ap (filled_to m) is-taken ∙ filled_behind m f others)
          ∙ found-whole n f (room (m - length f) waiting) s.whole s.front g s.is_found;
    }

pub split : (m n : ℕ) (waiting : List (List ℕ)) → Each Good waiting → m ≤ n → Split m n waiting
split m n [] gs h = split_nothing m n [] h (ap (λ (l : List ℕ). part l 0 m) joined-none ∙ part_past [] m (omega arith))
split zero n (f ∷ waiting) gs h = split_nothing 0 n (f ∷ waiting) h (part_none (joined (f ∷ waiting)) 0)
split (suc m) zero (f ∷ waiting) gs h = absurd (not-suc-le-zero h)
split (suc m) (suc n) (f ∷ waiting) (g, gs) h =
    ⊎_elim
    (λ (fits : leb (length f) (suc m) ≡ true).
    let k : length f ≤ suc m = leb-true (length f) (suc m) fits in
    let six : 6 ≤ length f = good-some f g.0 in
    split_frame (suc m) n f waiting g.0 k (split (suc m - length f) n waiting gs (omega arith)))
    (λ (less : leb (length f) (suc m) ≡ false).
    split_front (suc m) n f waiting (good_says f g.0) (omega arith) (leb-false (length f) (suc m) less))
    (true-or-false (leb (length f) (suc m)))
