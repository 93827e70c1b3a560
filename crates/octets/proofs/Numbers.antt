-- What is written as two bytes reads back as the number, and as four; the test whether two numbers are the same; and places in a table.
use mathlib.Core.Path.{◌≡◌, refl, sym, ap, ◌∙◌}
use mathlib.Core.Bool.{Bool, true, false}
use mathlib.Core.Logic.{⊎_elim}
use Prim.Native.Nat.{ℕ, suc, ◌+◌, ◌*◌, ◌/◌, ◌%◌, ◌<◌, ◌≤◌}
use mathlib.Core.List.{List, [], ◌∷◌, ◌++◌}
use native.Mathlib.Omega.{arith}
use native.Mathlib.Nat.{add-zero, mul-suc, mul-le-mul_left}
use lib.Dec.{eqb}
use lib.ListN.{length}
use borrow.Author.Tests.{eq-eqb, ne_eqb, eqb-true, eqb-false}
use Rattle.octets.specs.Order.{u32_at, two_le, four_le, four_in}
use Rattle.octets.specs.Stretch.{part, rest, put}
use Rattle.octets.proofs.Stretches.{put-put, part-two, byte_rest}
use Rattle.octets.proofs.Bytes.{byte_append_at}
use Rattle.octets.proofs.Counts.{true-or-false}
use Rattle.octets.specs.Bytes.{byte_at, be16_at, be32_at, two, four, AllBytes}

pub two_reads_back : (n : ℕ) → n < 65536 → be16_at (two n) 0 ≡ n
two_reads_back n h = omega arith

pub four_reads_back : (n : ℕ) → n < 4294967296 → be32_at (four n) 0 ≡ n
four_reads_back n h = omega arith

-- the first number of the rest is the one that stands there
pub be16_rest : (l : List ℕ) (at : ℕ) → be16_at (rest l at) 0 ≡ be16_at l at
be16_rest l at =
    let a : byte_at (rest l at) 0 ≡ byte_at l at = byte_rest l at 0 ∙ ap (byte_at l) (add-zero at) in
    let b : byte_at (rest l at) (0 + 1) ≡ byte_at l (at + 1) = byte_rest l at 1 in
    rw (a, b) refl

-- the number that two bytes say is written as these two bytes
pub two_bytes : (a b : ℕ) → a < 256 → b < 256 → two (a * 256 + b) ≡ a ∷ b ∷ []
two_bytes a b small-a small_b =
    let high : (a * 256 + b) / 256 % 256 ≡ a = omega arith in
    let low : (a * 256 + b) % 256 ≡ b = omega arith in
    rw (high, low) refl

-- .. so where they stand, they are written as they stood
pub two-read : (l : List ℕ) (from : ℕ) → AllBytes l → from + 2 ≤ length l → two (be16_at l from) ≡ part l from 2
two-read l from bytes h = two_bytes (byte_at l from) (byte_at l (from + 1)) (bytes from) (bytes (from + 1)) ∙ sym (part-two l from h)

-- only what a place has is written: a number is cut to its low bytes
pub two-cut : (n : ℕ) → two (n % 65536) ≡ two n
two-cut n =
    let a : n % 65536 / 256 % 256 ≡ n / 256 % 256 = omega arith in
    let b : n % 65536 % 256 ≡ n % 256 = omega arith in
    rw (a, b) refl

-- four bytes are two puts of two: the high half of the number, and behind it the low half
pub four-put : (d : List ℕ) (at n : ℕ) → at + 3 < length d → put (put d at (two (n / 65536))) (at + 2) (two (n % 65536)) ≡ put d at (four n)
four-put d at n h =
    let room : at + 2 ≤ length d = omega arith in
    ap (put (put d at (two (n / 65536))) (at + 2)) (two-cut n) ∙ put-put d at (two (n / 65536)) (two n) room

-- .. and with the least significant byte first, the low half and behind it the high half
two_le-cut : (n : ℕ) → two_le (n % 65536) ≡ two_le n
two_le-cut n =
    let a : n % 65536 / 256 % 256 ≡ n / 256 % 256 = omega arith in
    let b : n % 65536 % 256 ≡ n % 256 = omega arith in
    rw (a, b) refl

pub four_le-put : (d : List ℕ) (at n : ℕ) → at + 3 < length d →
    put (put d at (two_le (n % 65536))) (at + 2) (two_le (n / 65536)) ≡ put d at (four_le n)
four_le-put d at n h =
    let room : at + 2 ≤ length d = omega arith in
    ap (λ (low : List ℕ). put (put d at low) (at + 2) (two_le (n / 65536))) (two_le-cut n)
    ∙ put-put d at (two_le n) (two_le (n / 65536)) room

-- the four bytes of a number, each counted from the number itself
pub four_bytes : (n : ℕ) → n / 16777216 % 256 ∷ n / 65536 % 256 ∷ n / 256 % 256 ∷ n % 256 ∷ [] ≡ four n
four_bytes n =
    let e : n / 16777216 % 256 ≡ n / 65536 / 256 % 256 = omega arith in
    rw e refl

pub four_le_bytes : (n : ℕ) → n % 256 ∷ n / 256 % 256 ∷ n / 65536 % 256 ∷ n / 16777216 % 256 ∷ [] ≡ four_le n
four_le_bytes n =
    let e : n / 16777216 % 256 ≡ n / 65536 / 256 % 256 = omega arith in
    rw e refl

-- A number in the second of two lists is read there, in either byte order.
pub be16_append_at : (a b : List ℕ) (at i : ℕ) → at ≡ length a + i → be16_at (a ++ b) at ≡ be16_at b i
be16_append_at a b at i e = rw (byte_append_at a b at i e, byte_append_at a b (at + 1) (i + 1) (omega arith)) refl

pub u32_append_at : (little : Bool) (a b : List ℕ) (at i : ℕ) → at ≡ length a + i → u32_at little (a ++ b) at ≡ u32_at little b i
u32_append_at true a b at i e =
    rw (
      byte_append_at a b at i e,
      byte_append_at a b (at + 1) (i + 1) (omega arith),
      byte_append_at a b (at + 2) (i + 2) (omega arith),
      byte_append_at a b (at + 2 + 1) (i + 2 + 1) (omega arith),
    ) refl
u32_append_at false a b at i e =
    rw (be16_append_at a b at i e, be16_append_at a b (at + 2) (i + 2) (omega arith)) refl

-- .. and what is written as four bytes in either order reads back in that order, whatever stands behind it
pub four_in_reads_back : (little : Bool) (n : ℕ) (behind : List ℕ) → n < 4294967296 → u32_at little (four_in little n ++ behind) 0 ≡ n
four_in_reads_back true n behind h = omega arith
four_in_reads_back false n behind h = omega arith

-- the test of two numbers, either way round
pub eqb-sym : (a b : ℕ) → eqb a b ≡ eqb b a
eqb-sym a b =
    ⊎_elim
    (λ (h : eqb a b ≡ true). h ∙ sym (eq-eqb b a (sym (eqb-true a b h))))
    (λ (h : eqb a b ≡ false). h ∙ sym (ne_eqb b a (λ e. eqb-false a b h (sym e))))
    (true-or-false (eqb a b))

-- of entries that are all as wide, entry k ends before entry n begins
pub mul-before : (width k n : ℕ) → k < n → width * k + width ≤ width * n
mul-before width k n h =
    let e : width * suc k ≤ width * n = mul-le-mul_left width h in
    omega (arith, mul-suc width k)
