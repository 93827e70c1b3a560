-- The laws of cutting and pasting lists, proved once. No proof above opens `part`, `rest`, `put`, `joined`, `lengths_of` or `cut_by`, and
-- none cites a law of the kit on `take` or `drop`: each cites these laws. (Computed examples open what they compute; `tests/laws` holds
-- the others to it.)
use mathlib.Core.Path.{◌≡◌, refl, sym, ap, ◌∙◌}
use mathlib.Core.Bool.{true, false}
use Prim.Native.Nat.{ℕ, zero, suc, ◌+◌, ◌-◌, ◌*◌, ◌≤◌, ◌<◌, min}
use native.Mathlib.Nat.{add-zero, add_assoc, mul-zero, mul-suc, not-suc-le-zero, min-eq_left, min-eq_right, min-le_right}
use native.Mathlib.Numerals.{add-one}
use native.Mathlib.Omega.{arith}
use mathlib.Core.Logic.{◌⊎◌, inl, inr, ⊎_elim}
use mathlib.Core.List.{List, [], ◌∷◌, ◌++◌, map, append_assoc, append-nil}
use lib.Dec.{leb}
use lib.ListN.{length, take, drop, set, get_or, length-append, length-take, length-drop, take-append-drop, drop_of_length-le}
use lib.ListN.{get_or-append}
use lib.Seq.{length-take-le, take-length, take-take, take-append-le, take_at, take_all, take-suc, take-add, take-append_seam}
use lib.Seq.{drop_at, drop-cons, drop-drop, drop-nil, drop-append-le, drop-append-add, drop-append_seam, split_at, set_split, append_snoc}
use lib.Seq.{get_or-drop, get_or-take, get_or-append-add, ext_get_or}
use borrow.Author.Tests.{leb-true, leb-false}
use borrow.Rule.Slice.PartMut.{put_mid, post_of, Post-is}
use Rattle.octets.specs.Bytes.{byte_at}
use Rattle.octets.specs.Stretch.{part, rest, put, joined, lengths_of, cut_by}
use Rattle.octets.specs.Count.{sum_to, up_to}
use Rattle.octets.specs.Each.{Each}
use Rattle.octets.proofs.Counts.{true-or-false, length-up_to, up_to-none, up_to_more, up_to_front, up_to_agree}

-- Stretches read out.
pub length_part : (l : List ℕ) (from n : ℕ) → from + n ≤ length l → length (part l from n) ≡ n
unfolding part
length_part l from n h =
    let k : n ≤ length (drop from l) = simp length-drop (omega arith) in
    length-take-le n (drop from l) k

-- .. and never longer than was asked for
pub part-short : (l : List ℕ) (from n : ℕ) → length (part l from n) ≤ n
unfolding part
part-short l from n = omega (arith, length-take n (drop from l))

pub part_none : (l : List ℕ) (from : ℕ) → part l from 0 ≡ []
unfolding part
part_none l from = refl

pub byte_part : (l : List ℕ) (from n i : ℕ) → i < n → byte_at (part l from n) i ≡ byte_at l (from + i)
unfolding part
byte_part l from n i h = get_or-take n (drop from l) i 0 h ∙ get_or-drop from l i 0

pub length_rest : (l : List ℕ) (from : ℕ) → length (rest l from) ≡ length l - from
unfolding rest
length_rest l from = length-drop from l

pub byte_rest : (l : List ℕ) (from i : ℕ) → byte_at (rest l from) i ≡ byte_at l (from + i)
unfolding rest
byte_rest l from i = get_or-drop from l i 0

pub part_all : (l : List ℕ) → part l 0 (length l) ≡ l
unfolding part
part_all l = take-length l

-- .. and never longer than the list
pub part-within : (l : List ℕ) (from n : ℕ) → length (part l from n) ≤ length l
unfolding part
part-within l from n = omega (arith, length-take n (drop from l), length-drop from l)

-- a stretch of one
pub part_one : (l : List ℕ) (i : ℕ) → i < length l → part l i 1 ≡ byte_at l i ∷ []
unfolding part
part_one l i h = rw (drop-cons l i 0 h) refl

-- two stretches, one behind the other, are one
pub part-part : (l : List ℕ) (from n m : ℕ) → part l from n ++ part l (from + n) m ≡ part l from (n + m)
unfolding part
part-part l from n m = rw (← drop-drop n from l) (sym (take-add n m (drop from l)))

-- .. and from the front on
pub part-part_front : (l : List ℕ) (n m : ℕ) → part l 0 n ++ part l n m ≡ part l 0 (n + m)
part-part_front l n m =
    let e : n ≡ 0 + n = omega arith in
    ap (λ (at : ℕ). part l 0 n ++ part l at m) e ∙ part-part l 0 n m

-- a stretch of two
pub part-two : (l : List ℕ) (from : ℕ) → from + 2 ≤ length l → part l from 2 ≡ byte_at l from ∷ byte_at l (from + 1) ∷ []
part-two l from h =
    sym (part-part l from 1 1) ∙ rw (part_one l from (omega arith), part_one l (from + 1) (omega arith)) refl

-- a stretch of bytes that were laid back to back
pub part-between : (before x behind : List ℕ) → part (before ++ x ++ behind) (length before) (length x) ≡ x
unfolding part
part-between before x behind =
    rw (append_assoc before x behind, drop-append_seam before (x ++ behind)) (take-append_seam x behind)

-- a stretch of the rest is a stretch of the whole, further on
pub part-rest : (l : List ℕ) (from at n : ℕ) → part (rest l from) at n ≡ part l (from + at) n
unfolding part rest
part-rest l from at n = ap (take n) (drop-drop at from l)

-- what the checker knows of a slice taken from a place to the end, `&l[from..]`
pub sliced_rest : (l : List ℕ) (from : ℕ) → take (length l - from) (drop from l) ≡ rest l from
unfolding rest
sliced_rest l from = take_all (length l - from) (drop from l) (omega (arith, length-drop from l))

-- .. and of one taken between two places, `&l[from..from + n]`
pub sliced_part : (l : List ℕ) (from to n : ℕ) → to - from ≡ n → take (to - from) (drop from l) ≡ part l from n
unfolding part
sliced_part l from to n e = ap (λ (k : ℕ). take k (drop from l)) e

-- .. and how long such a one is
pub length_taken : (l : List ℕ) (from n : ℕ) → from + n ≤ length l → length (take n (drop from l)) ≡ n
unfolding part
length_taken l from n h = length_part l from n h

-- .. and how long one is that is taken from the front, `&l[..n]`
pub length_sliced : (l : List ℕ) (n : ℕ) → n ≤ length l → n ≡ length (take n l)
length_sliced l n h = sym (length-take-le n l h)

-- .. and what stands at a place of it
pub at_sliced : (l : List ℕ) (n i : ℕ) → i < n → get_or (take n l) i 0 ≡ get_or l i 0
at_sliced l n i h = get_or-take n l i 0 h

pub sliced_front : (l : List ℕ) (n : ℕ) → take n l ≡ part l 0 n
unfolding part
sliced_front l n = refl

-- a stretch from the front, and the rest behind it
pub part-and-rest : (l : List ℕ) (n : ℕ) → part l 0 n ++ rest l n ≡ l
unfolding part rest
part-and-rest l n = take-append-drop n l

-- a stretch from the front that is asked to be longer than the list is the list
pub part_past : (l : List ℕ) (n : ℕ) → length l ≤ n → part l 0 n ≡ l
unfolding part
part_past l n h = take_all n l h

-- a stretch of the rest, from its front
pub part-rest_front : (l : List ℕ) (from n : ℕ) → part (rest l from) 0 n ≡ part l from n
part-rest_front l from n = part-rest l from 0 n ∙ ap (λ (at : ℕ). part l at n) (add-zero from)

-- one element before the list
pub part_front : (x : ℕ) (l : List ℕ) (n : ℕ) → part (x ∷ l) 0 (suc n) ≡ x ∷ part l 0 n
unfolding part
part_front x l n = refl

-- stretches of two lists, one behind the other: the first, a stretch within it, and one behind it
pub part-append : (a b : List ℕ) → part (a ++ b) 0 (length a) ≡ a
unfolding part
part-append a b = take-append_seam a b

pub part-append-within : (a b : List ℕ) (from n : ℕ) → from + n ≤ length a → part (a ++ b) from n ≡ part a from n
unfolding part
part-append-within a b from n h =
    let begins : from ≤ length a = omega arith in
    let ends : n ≤ length (drop from a) = omega (arith, length-drop from a) in
    ap (take n) (drop-append-le from a b begins) ∙ take-append-le n (drop from a) b ends

pub part-append_behind : (a b : List ℕ) (at n : ℕ) → part (a ++ b) (length a + at) n ≡ part b at n
unfolding part
part-append_behind a b at n = ap (take n) (drop-append-add a b at)

-- The rest, and the rest of that.
pub rest-none : (l : List ℕ) → rest l 0 ≡ l
unfolding rest
rest-none l = refl

pub rest-nil : (from : ℕ) → rest [] from ≡ []
unfolding rest
rest-nil from = drop-nil from

pub rest-cons : (x : ℕ) (l : List ℕ) (from : ℕ) → rest (x ∷ l) (suc from) ≡ rest l from
unfolding rest
rest-cons x l from = refl

pub rest-rest : (l : List ℕ) (from n : ℕ) → rest (rest l from) n ≡ rest l (from + n)
unfolding rest
rest-rest l from n = drop-drop n from l

-- behind the end nothing is left
pub rest_past : (l : List ℕ) (from : ℕ) → length l ≤ from → rest l from ≡ []
unfolding rest
rest_past l from h = drop_of_length-le l h

-- the rest of two lists, one behind the other: the second, and what is left of it
pub rest-append : (a b : List ℕ) → rest (a ++ b) (length a) ≡ b
unfolding rest
rest-append a b = drop-append_seam a b

pub rest-append-within : (a b : List ℕ) (from : ℕ) → from ≤ length a → rest (a ++ b) from ≡ rest a from ++ b
unfolding rest
rest-append-within a b from h = drop-append-le from a b h

pub rest-append_behind : (a b : List ℕ) (at : ℕ) → rest (a ++ b) (length a + at) ≡ rest b at
unfolding rest
rest-append_behind a b at = drop-append-add a b at

-- the rest begins with the element at its place
pub rest_byte : (l : List ℕ) (i : ℕ) → i < length l → rest l i ≡ byte_at l i ∷ rest l (i + 1)
unfolding rest
rest_byte l i h = drop-cons l i 0 h ∙ ap (λ (n : ℕ). byte_at l i ∷ drop n l) (sym (add-one i))

-- .. and so it tells that element and the rest from the next place on
pub byte_of_rest : (l : List ℕ) (i x : ℕ) (more : List ℕ) → rest l i ≡ x ∷ more → byte_at l i ≡ x
byte_of_rest l i x more e = ap (byte_at l) (sym (add-zero i)) ∙ sym (byte_rest l i 0) ∙ ap (λ (m : List ℕ). byte_at m 0) e

pub rest_of_rest : (l : List ℕ) (i x : ℕ) (more : List ℕ) → rest l i ≡ x ∷ more → rest l (i + 1) ≡ more
rest_of_rest l i x more e =
    sym (rest-rest l i 1) ∙ ap (λ (m : List ℕ). rest m 1) e ∙ rest-cons x more 0 ∙ rest-none more

-- an element that is not 0 lies in the list
pub byte_inside : (l : List ℕ) (i : ℕ) → 1 ≤ byte_at l i → i < length l
byte_inside [] i h = absurd (not-suc-le-zero h)
byte_inside (x ∷ l) zero h = omega arith
byte_inside (x ∷ l) (suc i) h = let r = byte_inside l i h in omega arith

-- lists one behind the other, each of which is as it was
pub append-same : {a b x y : List ℕ} → a ≡ x → b ≡ y → a ++ b ≡ x ++ y
append-same p q = rw (p, q) refl

-- Stretches replaced.
head_length : (d : List ℕ) (at : ℕ) (x : List ℕ) → at ≤ length d → length (take at d ++ x) ≡ at + length x
head_length d at x h = length-append (take at d) x ∙ ap (λ (k : ℕ). k + length x) (length-take-le at d h)

pub length-put : (d : List ℕ) (at : ℕ) (x : List ℕ) → at + length x ≤ length d → length (put d at x) ≡ length d
unfolding put
length-put d at x h =
    let k : at ≤ length d = omega arith in
    omega (arith, length-append (take at d ++ x) (drop (at + length x) d), head_length d at x k, length-drop (at + length x) d)

pub put-nil : (d : List ℕ) (at : ℕ) → put d at [] ≡ d
unfolding put
put-nil d at = rw (add-zero at, append-nil (take at d)) (take-append-drop at d)

-- two puts, one behind the other, are one
pub put-put : (d : List ℕ) (at : ℕ) (x y : List ℕ) → at + length x ≤ length d → put (put d at x) (at + length x) y ≡ put d at (x ++ y)
unfolding put
put-put d at x y h =
    let k : at ≤ length d = omega arith in
    let n = at + length x in
    let e = head_length d at x k in
    let t : take n (take at d ++ x ++ drop n d) ≡ take at d ++ x = take_at (take at d ++ x) (drop n d) n e in
    let r : drop (n + length y) (take at d ++ x ++ drop n d) ≡ drop (n + length y) d =
    sym (drop-drop (length y) n (take at d ++ x ++ drop n d)) ∙ ap (drop (length y)) (drop_at (take at d ++ x) (drop n d) n e)
    ∙ drop-drop (length y) n d in
    rw (t, r, length-append x y, append_assoc (take at d) x y, add_assoc at (length x) (length y)) refl

-- .. of which the first has n elements
put-put-after : (d : List ℕ) (at n : ℕ) (x y : List ℕ) → length x ≡ n → at + n ≤ length d → put (put d at x) (at + n) y ≡ put d at (x ++ y)
put-put-after d at n x y e h = rw (← e) (put-put d at x y (omega arith))

-- What was put grows by what is put behind it: e has x, and f has y behind it.
pub put_more : {e f : List ℕ} (d : List ℕ) (at : ℕ) (x y : List ℕ) (n : ℕ) → at + length x ≤ length d → e ≡ put d at x → n ≡ at + length x →
    f ≡ put e n y → f ≡ put d at (x ++ y)
put_more d at x y n h so_far behind next = next ∙ rw (so_far, behind) (put-put d at x y h)

-- .. as a list that grows by its next element
pub put-up_to_more : {e : List ℕ} (d : List ℕ) (at : ℕ) (f : ℕ → ℕ) (n : ℕ) → at + n < length d → e ≡ put d at (up_to f n) →
    put e (at + n) (f n ∷ []) ≡ put d at (up_to f (n + 1))
put-up_to_more d at f n room so_far =
    let m = length-up_to f n in
    rw (so_far, up_to_more f n)
    (ap (λ (i : ℕ). put (put d at (up_to f n)) (at + i) (f n ∷ [])) (sym m) ∙ put-put d at (up_to f n) (f n ∷ []) (omega arith))

-- .. the first of them at the front
pub put-put_front : (d x y : List ℕ) → length x ≤ length d → put (put d 0 x) (length x) y ≡ put d 0 (x ++ y)
put-put_front d x y h =
    let e : length x ≡ 0 + length x = omega arith in
    ap (λ (n : ℕ). put (put d 0 x) n y) e ∙ put-put d 0 x y (omega arith)

-- .. in whichever order they are made
pub put-before : (d : List ℕ) (at : ℕ) (x y : List ℕ) → at + length x ≤ length d → put (put d (at + length x) y) at x ≡ put d at (x ++ y)
unfolding put
put-before d at x y h =
    let n = at + length x in
    let k : at ≤ length d = omega arith in
    let e : length (take n d) ≡ n = length-take-le n d h in
    let whole : take n d ++ y ++ drop (n + length y) d ≡ take n d ++ (y ++ drop (n + length y) d) =
    append_assoc (take n d) y (drop (n + length y) d) in
    let t : take at (take n d ++ y ++ drop (n + length y) d) ≡ take at d =
    ap (take at) whole ∙ take-append-le at (take n d) (y ++ drop (n + length y) d) (omega arith) ∙ take-take at n d (omega arith) in
    let r : drop n (take n d ++ y ++ drop (n + length y) d) ≡ y ++ drop (n + length y) d =
    ap (drop n) whole ∙ drop_at (take n d) (y ++ drop (n + length y) d) n e in
    rw (t, r, length-append x y, ← add_assoc at (length x) (length y), ← append_assoc (take at d) x y)
    (sym (append_assoc (take at d ++ x) y (drop (n + length y) d)))

-- a put over one that is no longer: nothing is left of that
put_again : (d : List ℕ) (at : ℕ) (x y : List ℕ) → at + length x ≤ length d → length x ≤ length y → put (put d at x) at y ≡ put d at y
unfolding put
put_again d at x y h shorter =
    let k : at ≤ length d = omega arith in
    let n = at + length x in
    let more = length y - length x in
    let split : at + length y ≡ n + more = omega arith in
    let t : take at (take at d ++ x ++ drop n d) ≡ take at d =
    ap (take at) (append_assoc (take at d) x (drop n d)) ∙ take_at (take at d) (x ++ drop n d) at (length-take-le at d k) in
    let r : drop (n + more) (take at d ++ x ++ drop n d) ≡ drop (n + more) d =
    sym (drop-drop more n (take at d ++ x ++ drop n d)) ∙ ap (drop more) (drop_at (take at d ++ x) (drop n d) n (head_length d at x k))
    ∙ drop-drop more n d in
    rw (split, t, r) refl

-- .. over a piece of what was put, as long as that piece
pub put-inside : (d : List ℕ) (at : ℕ) (a x y b : List ℕ) → at + length (a ++ x ++ b) ≤ length d → length x ≡ length y →
    put (put d at (a ++ x ++ b)) (at + length a) y ≡ put d at (a ++ y ++ b)
put-inside d at a x y b h same =
    let n = length-append (a ++ x) b in
    let m = length-append a x in
    let m' : length (a ++ x) ≡ length (a ++ y) = m ∙ ap (λ (k : ℕ). length a + k) same ∙ sym (length-append a y) in
    let behind = put d (at + length (a ++ x)) b in
    let long : length behind ≡ length d = length-put d (at + length (a ++ x)) b (omega arith) in
    let again = length-put behind at a (omega arith) in
    let stood : put d at (a ++ x ++ b) ≡ put (put behind at a) (at + length a) x =
    sym (put-put behind at a x (omega arith) ∙ put-before d at (a ++ x) b (omega arith)) in
    ap (λ (l : List ℕ). put l (at + length a) y) stood
    ∙ put_again (put behind at a) (at + length a) x y (omega arith) (omega arith)
    ∙ put-put behind at a y (omega arith)
    ∙ ap (λ (k : ℕ). put (put d (at + k) b) at (a ++ y)) m'
    ∙ put-before d at (a ++ y) b (omega arith)

-- A copy of s into d goes on. The first a elements stand there, in e; in f the n from place b on stand there too. These begin right
-- behind the a, or cover some of them.
pub put_on : {e f : List ℕ} (d s : List ℕ) (at from a b n m : ℕ) → e ≡ put d at (part s from a) → f ≡ put e (at + b) (part s (from + b) n) →
    b + n ≡ m → b ≤ a → a ≤ m → at + m ≤ length d → from + m ≤ length s → f ≡ put d at (part s from m)
put_on {e} {f} d s at from a b n m so_far next all begins ends in-d in-s =
    let x = part s from b in
    let covered = part s (from + b) (a - b) in
    let y = part s (from + b) n in
    let long-x : length x ≡ b = length_part s from b (omega arith) in
    let long-covered : length covered ≡ a - b = length_part s (from + b) (a - b) (omega arith) in
    let long-y : length y ≡ n = length_part s (from + b) n (omega arith) in
    let long : length (put d at x) ≡ length d = length-put d at x (omega arith) in
    let split : a ≡ b + (a - b) = omega arith in
    let stands : part s from a ≡ x ++ covered = ap (part s from) split ∙ sym (part-part s from b (a - b)) in
    next
    ∙ ap (λ (l : List ℕ). put l (at + b) y) (so_far ∙ ap (put d at) stands ∙ sym (put-put-after d at b x covered long-x (omega arith)))
    ∙ put_again (put d at x) (at + b) covered y (omega arith) (omega arith)
    ∙ put-put-after d at b x y long-x (omega arith)
    ∙ ap (put d at) (part-part s from b n ∙ ap (part s from) all)

-- putting back what stands there
pub put_same : (d : List ℕ) (at n : ℕ) → at + n ≤ length d → put d at (part d at n) ≡ d
unfolding put part
put_same d at n h =
    let f : length (take n (drop at d)) ≡ n = length_part d at n h in
    rw (f, ← take-add at n d) (take-append-drop (at + n) d)

-- reading back what was put
pub part-put : (d : List ℕ) (at : ℕ) (x : List ℕ) → at + length x ≤ length d → part (put d at x) at (length x) ≡ x
unfolding put part
part-put d at x h =
    let k : at ≤ length d = omega arith in
    rw (append_assoc (take at d) x (drop (at + length x) d), drop_at (take at d) (x ++ drop (at + length x) d) at (length-take-le at d k))
    (take-append_seam x (drop (at + length x) d))

-- .. as the checker says it of the front of a slice
pub sliced_put : {e : List ℕ} (d x : List ℕ) (n : ℕ) → e ≡ put d 0 x → n ≡ length x → n ≤ length d → take n e ≡ x
sliced_put {e} d x n stood long inside =
    sliced_front e n ∙ ap (λ (l : List ℕ). part l 0 n) stood ∙ ap (part (put d 0 x) 0) long ∙ part-put d 0 x (omega (arith, long, inside))

-- What a borrowed stretch of a list was made into is put in its place.
pub put_sliced : {x : List ℕ} (d y : List ℕ) (at to : ℕ) → at ≤ to → x ≡ y → length y ≡ to - at → put_mid at (to - at) d x ≡ put d at y
unfolding put
put_sliced {x} d y at to h e size =
    let end : to ≡ at + length y = omega arith in
    ap (λ (l : List ℕ). take at d ++ (l ++ post_of at (to - at) d)) e
    ∙ ap (λ (l : List ℕ). take at d ++ (y ++ l)) (Post-is at to d h ∙ ap (λ (n : ℕ). drop n d) end)
    ∙ sym (append_assoc (take at d) y (drop (at + length y) d))

-- what is put over all of a list is the list
pub put_whole : (d x : List ℕ) → length d ≡ length x → put d 0 x ≡ x
put_whole d x e =
    let long = length-put d 0 x (omega arith) in
    sym (part_all (put d 0 x)) ∙ ap (part (put d 0 x) 0) (long ∙ e) ∙ part-put d 0 x (omega arith)

-- .. where that is a stretch of another list
pub part-put-part : (d s : List ℕ) (at from n : ℕ) → at + n ≤ length d → from + n ≤ length s →
    part (put d at (part s from n)) at n ≡ part s from n
part-put-part d s at from n in-d in-s =
    let long : length (part s from n) ≡ n = length_part s from n in-s in
    ap (part (put d at (part s from n)) at) (sym long) ∙ part-put d at (part s from n) (omega arith)

-- a put behind what stands there already
pub put_behind : (d : List ℕ) (at n : ℕ) (y : List ℕ) → at + n ≤ length d → put d (at + n) y ≡ put d at (part d at n ++ y)
put_behind d at n y h =
    let f = length_part d at n h in
    let k : at + length (part d at n) ≤ length d = omega arith in
    let e = put-put d at (part d at n) y k in
    rw (put_same d at n h, f) at e

-- every other element is as it was
pub byte_put : (d : List ℕ) (at : ℕ) (x : List ℕ) (i : ℕ) → at + length x ≤ length d → (i < at) ⊎ (at + length x ≤ i) →
    byte_at (put d at x) i ≡ byte_at d i
unfolding put
byte_put d at x i h (inl before) =
    let inside : i < length (take at d) = omega (arith, length-take-le at d (let k : at ≤ length d = omega arith in k)) in
    rw (append_assoc (take at d) x (drop (at + length x) d))
    (get_or-append (take at d) (x ++ drop (at + length x) d) 0 i inside ∙ get_or-take at d i 0 before)
byte_put d at x i h (inr behind) =
    let k : at ≤ length d = omega arith in
    let n = at + length x in
    let split : i ≡ n + (i - n) = omega arith in
    rw split
    (ap (λ (m : ℕ). byte_at (take at d ++ x ++ drop n d) (m + (i - n))) (sym (head_length d at x k))
    ∙ get_or-append-add (take at d ++ x) (drop n d) (i - n) 0 ∙ get_or-drop n d (i - n) 0)

-- stretches are the same where their elements are
pub part_same : (d e : List ℕ) (from n : ℕ) → from + n ≤ length d → from + n ≤ length e →
    ((i : ℕ) → from ≤ i → i < from + n → byte_at d i ≡ byte_at e i) → part d from n ≡ part e from n
part_same d e from n h g same =
    let a = length_part d from n h in
    let b = length_part e from n g in
    ext_get_or 0 (part d from n) (part e from n) (a ∙ sym b)
    (λ i l.
    let below : i < n = omega arith in
    byte_part d from n i below ∙ same (from + i) (omega arith) (omega arith) ∙ sym (byte_part e from n i below))

-- so a stretch beside the replaced one is as it was
pub part-put_apart : (d : List ℕ) (at : ℕ) (x : List ℕ) (from n : ℕ) → at + length x ≤ length d → from + n ≤ length d →
    (from + n ≤ at) ⊎ (at + length x ≤ from) → part (put d at x) from n ≡ part d from n
part-put_apart d at x from n h g apart =
    let long = length-put d at x h in
    part_same (put d at x) d from n (omega arith) g
    (λ i l m. byte_put d at x i h (⊎_elim (λ a. inl (let k : i < at = omega arith in k))
    (λ b. inr (let k : at + length x ≤ i = omega arith in k)) apart))

-- two puts beside each other, in whichever order they are made
pub put_apart : (d : List ℕ) (at : ℕ) (x : List ℕ) (behind : ℕ) (y : List ℕ) → at + length x ≤ behind → behind + length y ≤ length d →
    put (put d behind y) at x ≡ put (put d at x) behind y
put_apart d at x behind y apart inside =
    let n = at + length x in
    let gap = behind - n in
    let split : behind ≡ n + gap = omega arith in
    let room : at + length x ≤ length d = omega arith in
    let as_it_was : part (put d at x) n gap ≡ part d n gap = part-put_apart d at x n gap room (omega arith) (inr (omega arith)) in
    ap (λ (i : ℕ). put (put d i y) at x) split
    ∙ ap (λ (l : List ℕ). put l at x) (put_behind d n gap y (omega arith))
    ∙ put-before d at x (part d n gap ++ y) room
    ∙ sym (put-put d at x (part d n gap ++ y) room)
    ∙ ap (λ (l : List ℕ). put (put d at x) n (l ++ y)) (sym as_it_was)
    ∙ sym (put_behind (put d at x) n gap y (omega (arith, length-put d at x room)))
    ∙ ap (λ (i : ℕ). put (put d at x) i y) (sym split)

-- put at the front, the rest follows
pub put_front : (d x : List ℕ) → put d 0 x ≡ x ++ rest d (0 + length x)
unfolding put rest
put_front d x = refl

-- one element stored is a put
pub set-put : (d : List ℕ) (i v : ℕ) → i < length d → set d i v ≡ put d i (v ∷ [])
unfolding put
set-put d i v h = rw (set_split d i v h, add-one i) (sym (append_snoc (take i d) v (drop (suc i) d)))

-- two elements stored one behind the other are a put
pub set-set-put : (d : List ℕ) (i v w : ℕ) → i + 1 < length d → set (set d i v) (i + 1) w ≡ put d i (v ∷ w ∷ [])
set-set-put d i v w h =
    let a : set d i v ≡ put d i (v ∷ []) = set-put d i v (omega arith) in
    let n : i + 1 ≤ length d = omega arith in
    let m : i + 1 < length (put d i (v ∷ [])) = omega (arith, length-put d i (v ∷ []) n) in
    ap (λ (l : List ℕ). set l (i + 1) w) a ∙ set-put (put d i (v ∷ [])) (i + 1) w m ∙ put-put d i (v ∷ []) (w ∷ []) n

-- Stretches back to back: none, one more at the front, and one.
pub joined-none : joined [] ≡ []
unfolding joined
joined-none = refl

pub joined-cons : (s : List ℕ) (more : List (List ℕ)) → joined (s ∷ more) ≡ s ++ joined more
unfolding joined
joined-cons s more = refl

pub joined_one : (s : List ℕ) → joined (s ∷ []) ≡ s
unfolding joined
joined_one s = append-nil s

pub length-joined-none : length (joined []) ≡ 0
unfolding joined
length-joined-none = refl

pub length-joined : (s : List ℕ) (more : List (List ℕ)) → length (joined (s ∷ more)) ≡ length s + length (joined more)
unfolding joined
length-joined s more = length-append s (joined more)

pub lengths_of-none : lengths_of [] ≡ []
unfolding lengths_of
lengths_of-none = refl

pub lengths_of-cons : (s : List ℕ) (more : List (List ℕ)) → lengths_of (s ∷ more) ≡ length s ∷ lengths_of more
unfolding lengths_of
lengths_of-cons s more = refl

pub lengths_of_one : (s : List ℕ) → lengths_of (s ∷ []) ≡ length s ∷ []
unfolding lengths_of
lengths_of_one s = refl

pub cut-none : (bytes : List ℕ) → cut_by [] bytes ≡ []
unfolding cut_by
cut-none bytes = refl

pub cut-cons : (n : ℕ) (more bytes : List ℕ) → cut_by (n ∷ more) bytes ≡ part bytes 0 n ∷ cut_by more (rest bytes n)
unfolding cut_by part rest
cut-cons n more bytes = refl

-- stretches of which none is empty, and that have nothing back to back, are none
pub joined-empty : (a : List (List ℕ)) → Each (λ s. 1 ≤ length s) a → joined a ≡ [] → a ≡ []
joined-empty [] filled e = refl
joined-empty (s ∷ a) filled e = absurd (never filled.0 (sym (length-joined s a) ∙ ap length e))
  where
    never : 1 ≤ length s → length s + length (joined a) ≡ 0 → ⊥
    never some none = omega arith

-- two lists of stretches
pub joined-append : (a b : List (List ℕ)) → joined (a ++ b) ≡ joined a ++ joined b
unfolding joined
joined-append [] b = refl
joined-append (s ∷ a) b = rw (joined-append a b) (sym (append_assoc s (joined a) (joined b)))

-- one more at the end
pub rest-joined-append : (a b : List (List ℕ)) (k : ℕ) → rest (joined (a ++ b)) (length (joined a) + k) ≡ rest (joined b) k
rest-joined-append a b k =
    ap (λ (l : List ℕ). rest l (length (joined a) + k)) (joined-append a b) ∙ rest-append_behind (joined a) (joined b) k

pub length-joined-append : (a b : List (List ℕ)) → length (joined (a ++ b)) ≡ length (joined a) + length (joined b)
length-joined-append a b = ap length (joined-append a b) ∙ length-append (joined a) (joined b)

pub joined-one_more : (a : List (List ℕ)) (s : List ℕ) → joined (a ++ (s ∷ [])) ≡ joined a ++ s
unfolding joined
joined-one_more a s = joined-append a (s ∷ []) ∙ ap (λ (l : List ℕ). joined a ++ l) (append-nil s)

pub map-one_more : {A B : Type 0} (f : A → B) (a : List A) (x : A) → map f (a ++ (x ∷ [])) ≡ map f a ++ (f x ∷ [])
map-one_more f [] x = refl
map-one_more f (y ∷ a) x = ap (λ l. f y ∷ l) (map-one_more f a x)

pub joined-map_more : {A : Type 0} (f : A → List ℕ) (a : List A) (x : A) → joined (map f (a ++ (x ∷ []))) ≡ joined (map f a) ++ f x
joined-map_more f a x = ap joined (map-one_more f a x) ∙ joined-one_more (map f a) (f x)

-- stretches back to back, before one of them, that one and behind it
pub joined_apart : {A : Type 0} (f : A → List ℕ) (before : List A) (x : A) (behind : List A) →
    joined (map f (before ++ x ∷ behind)) ≡ joined (map f before) ++ f x ++ joined (map f behind)
unfolding joined
joined_apart f [] x behind = refl
joined_apart f (y ∷ before) x behind =
    let front = joined (map f before) in
    let back = joined (map f behind) in
    ap (λ (l : List ℕ). f y ++ l) (joined_apart f before x behind) ∙ sym (append_assoc (f y) (front ++ f x) back)
    ∙ ap (λ (l : List ℕ). l ++ back) (sym (append_assoc (f y) front (f x)))

-- one of the stretches that were laid back to back, between others
pub part-joined : {A : Type 0} (f : A → List ℕ) (head tail : List ℕ) (before : List A) (x : A) (behind : List A) →
    part (head ++ joined (map f (before ++ x ∷ behind)) ++ tail) (length head + length (joined (map f before))) (length (f x)) ≡ f x
part-joined f head tail before x behind =
    let front = joined (map f before) in
    let back = joined (map f behind) in
    let whole : head ++ joined (map f (before ++ x ∷ behind)) ++ tail ≡ head ++ front ++ f x ++ (back ++ tail) =
    rw (joined_apart f before x behind, ← append_assoc head (front ++ f x) back, ← append_assoc head front (f x))
    (append_assoc (head ++ front ++ f x) back tail) in
    rw (whole, ← length-append head front) (part-between (head ++ front) (f x) (back ++ tail))

pub lengths_of-append : (a b : List (List ℕ)) → lengths_of (a ++ b) ≡ lengths_of a ++ lengths_of b
unfolding lengths_of
lengths_of-append [] b = refl
lengths_of-append (s ∷ a) b = ap (λ (l : List ℕ). length s ∷ l) (lengths_of-append a b)

pub length-lengths_of : (a : List (List ℕ)) → length (lengths_of a) ≡ length a
unfolding lengths_of
length-lengths_of [] = refl
length-lengths_of (s ∷ a) = ap suc (length-lengths_of a)

-- whoever has the lengths finds the stretches again, whatever stands behind them
pub cut-joined : (a : List (List ℕ)) (behind : List ℕ) → cut_by (lengths_of a) (joined a ++ behind) ≡ a
unfolding joined lengths_of cut_by
cut-joined [] behind = refl
cut-joined (s ∷ a) behind =
    rw (append_assoc s (joined a) behind, take-append_seam s (joined a ++ behind), drop-append_seam s (joined a ++ behind))
    (ap (λ (l : List (List ℕ)). s ∷ l) (cut-joined a behind))

-- Bytes taken apart by one length more. First, lengths added up.
abbrev pub total : List ℕ → ℕ
total [] = 0
total (n ∷ more) = n + total more

-- one length more
pub total_more : (l : List ℕ) (n : ℕ) → total (l ++ (n ∷ [])) ≡ total l + n
total_more [] n = omega arith
total_more (m ∷ l) n = omega (arith, total_more l n)

-- the stretches are those before and one more, which starts behind all of them
pub cut_more : (l : List ℕ) (n : ℕ) (bytes : List ℕ) → cut_by (l ++ (n ∷ [])) bytes ≡ cut_by l bytes ++ (part bytes (total l) n ∷ [])
unfolding cut_by part
cut_more [] n bytes = refl
cut_more (m ∷ l) n bytes =
    ap (λ (s : List (List ℕ)). take m bytes ∷ s) (cut_more l n (drop m bytes))
    ∙ ap (λ (behind : List ℕ). take m bytes ∷ (cut_by l (drop m bytes) ++ (take n behind ∷ []))) (drop-drop (total l) m bytes)

-- one element more from the front
pub part_more : (l : List ℕ) (i : ℕ) → i < length l → part l 0 (i + 1) ≡ part l 0 i ++ (byte_at l i ∷ [])
part_more l i h = sym (part-part_front l i 1) ∙ ap (λ (one : List ℕ). part l 0 i ++ one) (part_one l i h)

-- the first i elements added up, both ways
pub total-part : (l : List ℕ) (i : ℕ) → i ≤ length l → total (part l 0 i) ≡ sum_to (byte_at l) i
unfolding sum_to
total-part l zero h = ap total (part_none l 0)
total-part l (suc i) h =
    ap (λ (n : ℕ). total (part l 0 n)) (sym (add-one i))
    ∙ ap total (part_more l i (omega (arith, h)))
    ∙ total_more (part l 0 i) (byte_at l i)
    ∙ ap (λ (n : ℕ). n + byte_at l i) (total-part l i (omega (arith, h)))

-- the lengths of stretches add up to what they have back to back
pub total-lengths_of : (a : List (List ℕ)) → total (lengths_of a) ≡ length (joined a)
unfolding lengths_of joined
total-lengths_of [] = refl
total-lengths_of (s ∷ a) = omega (arith, total-lengths_of a, length-append s (joined a))

-- Bytes taken apart by lengths: so many stretches; of these lengths, where there are bytes enough; and back to back the front of the bytes.
pub length_cut : (l bytes : List ℕ) → length (cut_by l bytes) ≡ length l
unfolding cut_by
length_cut [] bytes = refl
length_cut (n ∷ l) bytes = ap suc (length_cut l (drop n bytes))

pub lengths_of-cut : (l bytes : List ℕ) → total l ≤ length bytes → lengths_of (cut_by l bytes) ≡ l
unfolding lengths_of cut_by
lengths_of-cut [] bytes h = refl
lengths_of-cut (n ∷ l) bytes h =
    let front : length (take n bytes) ≡ n = length-take-le n bytes (omega (arith, h)) in
    let behind = lengths_of-cut l (drop n bytes) (omega (arith, h, length-drop n bytes)) in
    rw (front, behind) refl

pub joined-cut : (l bytes : List ℕ) → joined (cut_by l bytes) ≡ part bytes 0 (total l)
unfolding joined cut_by part
joined-cut [] bytes = refl
joined-cut (n ∷ l) bytes = ap (λ (x : List ℕ). take n bytes ++ x) (joined-cut l (drop n bytes)) ∙ part-part_front bytes n (total l)

-- Stretches that all have n elements, ..
pub length-joined-each : (n : ℕ) (a : List (List ℕ)) → Each (λ s. length s ≡ n) a → length (joined a) ≡ n * length a
length-joined-each n [] same = omega (arith, length-joined-none)
length-joined-each n (s ∷ a) same =
    omega (arith, length-joined s a, same.0, length-joined-each n a same.1, mul-suc n (length a))

module _ {A : Type 0} (f : A → List ℕ) where
  pub length-joined-map : (n : ℕ) → ((x : A) → length (f x) ≡ n) → (l : List A) → length (joined (map f l)) ≡ n * length l
  length-joined-map n same [] = omega (arith, length-joined-none)
  length-joined-map n same (x ∷ l) =
      omega (arith, length-joined (f x) (map f l), same x, length-joined-map n same l, mul-suc n (length l))

  -- .. so that element i of stretch k stands n k + i elements on
  pub byte_joined : (n : ℕ) → ((x : A) → length (f x) ≡ n) → (l : List A) (d : A) (k i : ℕ) → k < length l → i < n →
      byte_at (joined (map f l)) (n * k + i) ≡ byte_at (f (get_or l k d)) i
  byte_joined n same [] d k i there inside = absurd (not-suc-le-zero there)
  byte_joined n same (x ∷ l) d zero i there inside =
      let at : n * 0 + i ≡ i = omega arith in
      let first : i < length (f x) = omega (arith, same x) in
      rw (at, joined-cons (f x) (map f l)) (get_or-append (f x) (joined (map f l)) 0 i first)
  byte_joined n same (x ∷ l) d (suc k) i there inside =
      let at : n * suc k + i ≡ length (f x) + (n * k + i) = omega (arith, same x, mul-suc n k) in
      rw (at, joined-cons (f x) (map f l))
      (get_or-append-add (f x) (joined (map f l)) (n * k + i) 0 ∙ byte_joined n same l d k i (omega arith) inside)

  -- Stretches of any length, added up: the first k of them, and all.
  length-joined-first : (l : List A) (d : A) (k : ℕ) → k ≤ length l →
      length (joined (map f (take k l))) ≡ sum_to (λ i. length (f (get_or l i d))) k
  unfolding sum_to
  length-joined-first l d zero h = length-joined-none
  length-joined-first l d (suc k) h =
      ap (λ (m : List A). length (joined (map f m))) (take-suc l k d h)
      ∙ ap length (joined-map_more f (take k l) (get_or l k d))
      ∙ length-append (joined (map f (take k l))) (f (get_or l k d))
      ∙ ap (λ (n : ℕ). n + length (f (get_or l k d))) (length-joined-first l d k (omega arith))

  pub length-joined-sum : (l : List A) (d : A) → length (joined (map f l)) ≡ sum_to (λ i. length (f (get_or l i d))) (length l)
  length-joined-sum l d =
      ap (λ (m : List A). length (joined (map f m))) (sym (take_all (length l) l (omega arith)))
      ∙ length-joined-first l d (length l) (omega arith)

  -- .. so that stretch k stands behind the lengths of those before it
  pub part-joined_at : (head tail : List ℕ) (l : List A) (d : A) (k : ℕ) → k < length l →
      part (head ++ joined (map f l) ++ tail) (length head + sum_to (λ i. length (f (get_or l i d))) k) (length (f (get_or l k d)))
      ≡ f (get_or l k d)
  part-joined_at head tail l d k there =
      let x = get_or l k d in
      let before = take k l in
      let behind = drop (suc k) l in
      let sum = sum_to (λ i. length (f (get_or l i d))) k in
      let few : k ≤ length l = omega arith in
      ap (λ (m : List A). part (head ++ joined (map f m) ++ tail) (length head + sum) (length (f x))) (split_at l k d there)
      ∙ ap (λ (n : ℕ). part (head ++ joined (map f (before ++ x ∷ behind)) ++ tail) (length head + n) (length (f x)))
      (sym (length-joined-first l d k few))
      ∙ part-joined f head tail before x behind

-- Bytes taken apart by the first i + 1 of many lengths: the last stretch starts behind the first i lengths.
pub cut-part_more : (lengths bytes : List ℕ) (i : ℕ) → i < length lengths →
    cut_by (part lengths 0 (i + 1)) bytes
    ≡ cut_by (part lengths 0 i) bytes ++ (part bytes (sum_to (byte_at lengths) i) (byte_at lengths i) ∷ [])
cut-part_more lengths bytes i h =
    ap (λ (l : List ℕ). cut_by l bytes) (part_more lengths i h)
    ∙ cut_more (part lengths 0 i) (byte_at lengths i) bytes
    ∙ ap (λ (n : ℕ). cut_by (part lengths 0 i) bytes ++ (part bytes n (byte_at lengths i) ∷ [])) (total-part lengths i (omega (arith, h)))

pub cut-part-none : (lengths bytes : List ℕ) → cut_by (part lengths 0 0) bytes ≡ []
cut-part-none lengths bytes = ap (λ (l : List ℕ). cut_by l bytes) (part_none lengths 0) ∙ cut-none bytes

-- Stretches and their lengths, put at the front of two lists, are found there. (Of the list of bytes no room is asked: `put` at the
-- front has the whole of what it puts.)
pub cut-put : (a : List (List ℕ)) (lengths bytes : List ℕ) → length a ≤ length lengths →
    cut_by (part (put lengths 0 (lengths_of a)) 0 (length a)) (put bytes 0 (joined a)) ≡ a
cut-put a lengths bytes room =
    let n = length-lengths_of a in
    let read : part (put lengths 0 (lengths_of a)) 0 (length a) ≡ lengths_of a =
    ap (part (put lengths 0 (lengths_of a)) 0) (sym n) ∙ part-put lengths 0 (lengths_of a) (omega (arith, n)) in
    rw (read, put_front bytes (joined a)) (cut-joined a (rest bytes (0 + length (joined a))))

-- four elements stored one behind the other at the front are a put
pub set-four-put : (d : List ℕ) (a b c e : ℕ) → 4 ≤ length d → set (set (set (set d 0 a) 1 b) 2 c) 3 e ≡ put d 0 (a ∷ b ∷ c ∷ e ∷ [])
set-four-put d a b c e h =
    let two = put d 0 (a ∷ b ∷ []) in
    let long : length two ≡ length d = length-put d 0 (a ∷ b ∷ []) (omega arith) in
    ap (λ (l : List ℕ). set (set l 2 c) 3 e) (set-set-put d 0 a b (omega arith))
    ∙ set-set-put two 2 c e (omega arith)
    ∙ put-put d 0 (a ∷ b ∷ []) (c ∷ e ∷ []) (omega arith)

-- a stretch from its first element on
pub part_byte : (l : List ℕ) (i j n m : ℕ) → j ≡ i + 1 → n ≡ 1 + m → i < length l → part l i n ≡ byte_at l i ∷ part l j m
part_byte l i j n m e d h = rw (e, d) (sym (part-part l i 1 m) ∙ ap (λ (one : List ℕ). one ++ part l (i + 1) m) (part_one l i h))

-- .. and from its first four on
pub part-four : (l : List ℕ) (at m : ℕ) → at + 4 ≤ length l →
    part l at (4 + m) ≡ byte_at l at ∷ byte_at l (at + 1) ∷ byte_at l (at + 2) ∷ byte_at l (at + 3) ∷ part l (at + 4) m
part-four l at m h =
    part_byte l at (at + 1) (4 + m) (3 + m) refl (omega arith) (omega arith)
    ∙ ap (λ (s : List ℕ). byte_at l at ∷ s)
    (part_byte l (at + 1) (at + 2) (3 + m) (2 + m) (omega arith) (omega arith) (omega arith)
    ∙ ap (λ (s : List ℕ). byte_at l (at + 1) ∷ s)
    (part_byte l (at + 2) (at + 3) (2 + m) (1 + m) (omega arith) (omega arith) (omega arith)
    ∙ ap (λ (s : List ℕ). byte_at l (at + 2) ∷ s) (part_byte l (at + 3) (at + 4) (1 + m) m (omega arith) refl (omega arith))))

-- Stretches of stretches, stretches that reach past the end, and stretches of one length: what the writer and the reader of packets go by.
-- A stretch from the front is as long as was asked for, or as the list; and one that is asked to be longer than that is what is there of
-- it.
pub length-part-min : (l : List ℕ) (n : ℕ) → length (part l 0 n) ≡ min n (length l)
unfolding part
length-part-min l n = length-take n l

pub part-min : (l : List ℕ) (from n m : ℕ) → m ≡ min n (length l - from) → part l from n ≡ part l from m
part-min l from n m e =
    ⊎_elim
    (λ (t : leb n (length l - from) ≡ true). ap (part l from) (let same : n ≡ m = omega (arith, e, leb-true n (length l - from) t) in same))
    (λ (t : leb n (length l - from) ≡ false).
    let short = leb-false n (length l - from) t in
    let long = length_rest l from in
    sym (part-rest_front l from n) ∙ part_past (rest l from) n (omega arith)
    ∙ sym (sym (part-rest_front l from m) ∙ part_past (rest l from) m (omega (arith, e))))
    (true-or-false (leb n (length l - from)))

pub part_to_end : (l : List ℕ) (from : ℕ) → part l from (length l - from) ≡ rest l from
unfolding part
part_to_end l from = sliced_rest l from

-- a stretch of two lists that ends in the second
pub part-append_past : (a b : List ℕ) (n : ℕ) → length a ≤ n → part (a ++ b) 0 n ≡ a ++ part b 0 (n - length a)
part-append_past a b n h =
    let split : n ≡ length a + (n - length a) = omega arith in
    let here : length a ≡ length a + 0 = omega arith in
    ap (part (a ++ b) 0) split ∙ sym (part-part_front (a ++ b) (length a) (n - length a))
    ∙ ap (λ (l : List ℕ). l ++ part (a ++ b) (length a) (n - length a)) (part-append a b)
    ∙ ap (λ (i : ℕ). a ++ part (a ++ b) i (n - length a)) here
    ∙ ap (λ (l : List ℕ). a ++ l) (part-append_behind a b 0 (n - length a))

-- a stretch of a stretch, from its front, from a place in it, and the rest of one
pub part_of_part_front : (l : List ℕ) (at n m : ℕ) → m ≤ n → part (part l at n) 0 m ≡ part l at m
unfolding part
part_of_part_front l at n m h = take-take m n (drop at l) h

pub rest_part : (l : List ℕ) (at n from : ℕ) → from ≤ n → at + n ≤ length l → rest (part l at n) from ≡ part l (at + from) (n - from)
rest_part l at n from h inside =
    let split : from + (n - from) ≡ n = omega arith in
    let long : length (part l at from) ≡ from = length_part l at from (omega arith) in
    ap (λ (m : ℕ). rest (part l at m) from) (sym split) ∙ ap (λ (x : List ℕ). rest x from) (sym (part-part l at from (n - from)))
    ∙ ap (rest (part l at from ++ part l (at + from) (n - from))) (sym long) ∙ rest-append (part l at from) (part l (at + from) (n - from))

pub part_of_part : (l : List ℕ) (at n from m : ℕ) → at + n ≤ length l → from + m ≤ n → part (part l at n) from m ≡ part l (at + from) m
part_of_part l at n from m in-l in-part =
    sym (part-rest_front (part l at n) from m) ∙ ap (λ (x : List ℕ). part x 0 m) (rest_part l at n from (omega arith) in-l)
    ∙ part_of_part_front l (at + from) (n - from) m (omega arith)

-- one stretch more at the end: so much longer all are
pub length-joined-one_more : (a : List (List ℕ)) (s : List ℕ) → length (joined (a ++ (s ∷ []))) ≡ length (joined a) + length s
length-joined-one_more a s = ap length (joined-one_more a s) ∙ length-append (joined a) s

-- Stretches of n elements each, one after the other: laid back to back they are the front of the list, and a list that was laid together
-- from such stretches gives them back.
abbrev piece : List ℕ → ℕ → ℕ → List ℕ
piece l n k = part l (n * k) n

pub joined-pieces : (l : List ℕ) (n m : ℕ) → joined (up_to (λ k. part l (n * k) n) m) ≡ part l 0 (n * m)
joined-pieces l n zero =
    ap joined (up_to-none (piece l n)) ∙ joined-none ∙ sym (ap (part l 0) (mul-zero n) ∙ part_none l 0)
joined-pieces l n (suc m) =
    let more : n * m + n ≡ n * suc m = sym (mul-suc n m) in
    ap (λ (k : ℕ). joined (up_to (piece l n) k)) (sym (add-one m)) ∙ ap joined (up_to_more (piece l n) m)
    ∙ joined-one_more (up_to (piece l n) m) (piece l n m) ∙ ap (λ (x : List ℕ). x ++ piece l n m) (joined-pieces l n m)
    ∙ part-part_front l (n * m) n ∙ ap (part l 0) more

pub pieces-joined : (n : ℕ) (a : List (List ℕ)) → Each (λ s. length s ≡ n) a → up_to (λ k. part (joined a) (n * k) n) (length a) ≡ a
pieces-joined n [] same = up_to-none (piece (joined []) n)
pieces-joined n (s ∷ a) (long, same) =
    let all = joined (s ∷ a) in
    let first : piece all n 0 ≡ s =
    ap (λ (at : ℕ). part all at n) (mul-zero n) ∙ ap (part all 0) (sym long) ∙ ap (λ (l : List ℕ). part l 0 (length s)) (joined-cons s a)
    ∙ part-append s (joined a) in
    let further : (k : ℕ) → k < length a → piece all n (suc k) ≡ piece (joined a) n k =
    λ k there.
    let e : n * suc k ≡ length s + n * k = omega (arith, long, mul-suc n k) in
    ap (λ (at : ℕ). part all at n) e ∙ ap (λ (l : List ℕ). part l (length s + n * k) n) (joined-cons s a)
    ∙ part-append_behind s (joined a) (n * k) n in
    up_to_front (piece all n) (length a)
    ∙ ap (λ (x : List ℕ). x ∷ up_to (λ k. piece all n (suc k)) (length a)) first
    ∙ ap (λ (l : List (List ℕ)). s ∷ l)
    (up_to_agree (λ k. piece all n (suc k)) (piece (joined a) n) (length a) further ∙ pieces-joined n a same)

-- Of a list that grows the first `total` elements are put: those of x stand at the front of d, in e, and with the next ones, of y behind x,
-- those of both do, in f. What is copied is a stretch of another list, no longer than is asked for.
module _ (d e f x l : List ℕ) (b size total : ℕ) (stood : e ≡ put d 0 (part x 0 total)) (room : total ≤ length d)
    (inside : b + size ≤ length l)
    (next : f ≡ put e (length x) (part l b (min (length x + size) total - length x))) where
  abbrev y : List ℕ
  y = part l b size

  y_long : length y ≡ size
  y_long = length_part l b size inside

  -- more than `total` stand there already
  put_full : total < length x → f ≡ put d 0 (part (x ++ y) 0 total)
  put_full h =
      let none : min (length x + size) total - length x ≡ 0 = omega (arith, min-le_right (length x + size) total) in
      next ∙ ap (λ (n : ℕ). put e (length x) (part l b n)) none ∙ ap (put e (length x)) (part_none l b) ∙ put-nil e (length x) ∙ stood
      ∙ ap (put d 0) (sym (part-append-within x y 0 total (omega arith)))

  -- n of them, which are those of y that are asked for
  put_some : length x ≤ total → (n : ℕ) → min (length x + size) total ≡ length x + n → part l b n ≡ part y 0 (total - length x) →
      f ≡ put d 0 (part (x ++ y) 0 total)
  put_some h n least same =
      let count : min (length x + size) total - length x ≡ n = omega arith in
      next ∙ ap (λ (m : ℕ). put e (length x) (part l b m)) count ∙ ap (put e (length x)) same
      ∙ ap (λ (s : List ℕ). put s (length x) (part y 0 (total - length x))) (stood ∙ ap (put d 0) (part_past x total h))
      ∙ put-put_front d x (part y 0 (total - length x)) (omega arith)
      ∙ ap (put d 0) (sym (part-append_past x y total h))

  pub put-part-append : f ≡ put d 0 (part (x ++ y) 0 total)
  put-part-append =
      ⊎_elim
      (λ (t : leb (length x) total ≡ true).
      let h = leb-true (length x) total t in
      ⊎_elim
      (λ (u : leb (length x + size) total ≡ true).
      put_some h size (min-eq_left (leb-true (length x + size) total u))
      (sym (part_past y (total - length x) (omega (arith, leb-true (length x + size) total u, y_long)))))
      (λ (u : leb (length x + size) total ≡ false).
      let few : total ≤ length x + size = omega (arith, leb-false (length x + size) total u) in
      let split : min (length x + size) total ≡ length x + (total - length x) = omega (arith, min-eq_right few) in
      put_some h (total - length x) split (sym (part_of_part_front l b size (total - length x) (omega arith))))
      (true-or-false (leb (length x + size) total)))
      (λ (t : leb (length x) total ≡ false). put_full (leb-false (length x) total t))
      (true-or-false (leb (length x) total))
