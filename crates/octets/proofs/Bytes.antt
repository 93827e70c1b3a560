-- What a place has in lists that were laid one behind the other, and that lists of bytes stay lists of bytes where they are laid together
-- or cut.
use Prim.Native.Nat.{ℕ, zero, suc, ◌+◌, ◌≤◌, ◌<◌}
use mathlib.Core.Path.{◌≡◌, refl, ap, ◌∙◌}
use mathlib.Core.Bool.{true, false}
use mathlib.Core.Logic.{⊎_elim}
use mathlib.Core.List.{List, [], ◌∷◌, ◌++◌}
use native.Mathlib.Omega.{arith}
use lib.Dec.{ltb}
use lib.ListN.{length, replicate, get_or-append, get_or-eq_default}
use lib.Seq.{get_or-append-add}
use borrow.Author.Tests.{ltb-true, ltb-false}
use Rattle.octets.specs.Bytes.{byte_at, AllBytes}
use Rattle.octets.specs.Stretch.{part, rest, joined}
use Rattle.octets.specs.Each.{Each}
use Rattle.octets.proofs.Counts.{true-or-false}
use Rattle.octets.proofs.Stretches.{byte_part, byte_rest, part-short, joined-cons}

-- a place in the first of two lists, one in the second, and one behind the end
pub byte_append : (a b : List ℕ) (i : ℕ) → i < length a → byte_at (a ++ b) i ≡ byte_at a i
byte_append a b i h = get_or-append a b 0 i h

pub byte_append_behind : (a b : List ℕ) (i : ℕ) → byte_at (a ++ b) (length a + i) ≡ byte_at b i
byte_append_behind a b i = get_or-append-add a b i 0

-- .. so many places on, however the place is written
pub byte_append_at : (a b : List ℕ) (at i : ℕ) → at ≡ length a + i → byte_at (a ++ b) at ≡ byte_at b i
byte_append_at a b at i e = ap (byte_at (a ++ b)) e ∙ byte_append_behind a b i

pub byte_past : (l : List ℕ) (i : ℕ) → length l ≤ i → byte_at l i ≡ 0
byte_past l i h = get_or-eq_default l 0 {n = i} h

-- so a list that goes on has no less anywhere, and with 0 behind it has the same everywhere
pub byte_below_append : (a b : List ℕ) (i : ℕ) → byte_at a i ≤ byte_at (a ++ b) i
byte_below_append a b i =
    ⊎_elim
    (λ (h : ltb i (length a) ≡ true).
    let g : byte_at a i ≤ byte_at (a ++ b) i = omega (arith, byte_append a b i (ltb-true i (length a) h)) in g)
    (λ (h : ltb i (length a) ≡ false).
    let g : byte_at a i ≤ byte_at (a ++ b) i = omega (arith, byte_past a i (ltb-false i (length a) h)) in g)
    (true-or-false (ltb i (length a)))

pub byte_append_zeros : (l : List ℕ) (n i : ℕ) → byte_at (l ++ replicate n 0) i ≡ byte_at l i
byte_append_zeros [] zero i = refl
byte_append_zeros [] (suc n) zero = refl
byte_append_zeros [] (suc n) (suc i) = byte_append_zeros [] n i
byte_append_zeros (x ∷ l) n zero = refl
byte_append_zeros (x ∷ l) n (suc i) = byte_append_zeros l n i

-- Lists of bytes.
pub bytes-none : AllBytes []
bytes-none i = omega arith

pub bytes-append : (a b : List ℕ) → AllBytes a → AllBytes b → AllBytes (a ++ b)
bytes-append [] b p q i = q i
bytes-append (x ∷ a) b p q zero = p zero
bytes-append (x ∷ a) b p q (suc i) = bytes-append a b (λ j. p (suc j)) q i

pub bytes_rest : (l : List ℕ) (from : ℕ) → AllBytes l → AllBytes (rest l from)
bytes_rest l from p i = rw (byte_rest l from i) (p (from + i))

pub bytes-part : (l : List ℕ) (from n : ℕ) → AllBytes l → AllBytes (part l from n)
bytes-part l from n p i =
    ⊎_elim
    (λ (h : ltb i n ≡ true). rw (byte_part l from n i (ltb-true i n h)) (p (from + i)))
    (λ (h : ltb i n ≡ false). rw (byte_past (part l from n) i (omega (arith, part-short l from n, ltb-false i n h))) (omega arith))
    (true-or-false (ltb i n))

pub bytes-replicate : (n x : ℕ) → x < 256 → AllBytes (replicate n x)
bytes-replicate zero x h i = bytes-none i
bytes-replicate (suc n) x h zero = h
bytes-replicate (suc n) x h (suc i) = bytes-replicate n x h i

-- .. and taken apart again
pub bytes_front : (a b : List ℕ) → AllBytes (a ++ b) → AllBytes a
bytes_front a b p i = let g : byte_at a i < 256 = omega (arith, byte_below_append a b i, p i) in g

pub bytes_back : (a b : List ℕ) → AllBytes (a ++ b) → AllBytes b
bytes_back a b p i = rw (byte_append_behind a b i) at (p (length a + i))

pub bytes-joined : (a : List (List ℕ)) → AllBytes (joined a) → Each AllBytes a
bytes-joined [] p = tt
bytes-joined (s ∷ a) p =
    let both : AllBytes (s ++ joined a) = rw (joined-cons s a) at p in
    (bytes_front s (joined a) both, bytes-joined a (bytes_back s (joined a) both))
