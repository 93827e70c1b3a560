-- Numbers and bytes as text, by computation. The texts are quoted, so nothing here depends on how a digit's byte is reckoned.
use Prim.Native.Nat.{ℕ, ◌+◌, ◌/◌, ◌%◌, ◌<◌}
use mathlib.Core.Path.{◌≡◌, refl, ap, ◌∙◌}
use mathlib.Core.List.{List, [], ◌∷◌, ◌++◌}
use native.Mathlib.Omega.{arith}
use Rattle.octets.specs.Stretch.{joined}
use Rattle.text.specs.Text.{ascii, digits, decimal, hex, column, space, newline}
use Rattle.text.proofs.Writing.{decimal_one, decimal_more}

-- the ten digits, and each number of digits at its first and last number
pub one_digit : (decimal 0 ≡ ascii "0") × (decimal 1 ≡ ascii "1") × (decimal 7 ≡ ascii "7") × (decimal 9 ≡ ascii "9")
unfolding decimal digits
one_digit = (refl, refl, refl, refl)

pub two_digits : (decimal 10 ≡ ascii "10") × (decimal 12 ≡ ascii "12") × (decimal 99 ≡ ascii "99")
unfolding decimal digits
two_digits = (refl, refl, refl)

pub three_digits : (decimal 100 ≡ ascii "100") × (decimal 127 ≡ ascii "127") × (decimal 999 ≡ ascii "999")
unfolding decimal digits
three_digits = (refl, refl, refl)

pub more_digits : (decimal 1000 ≡ ascii "1000") × (decimal 6144 ≡ ascii "6144") × (decimal 32767 ≡ ascii "32767")
    × (decimal 65536 ≡ ascii "65536")
unfolding decimal digits
more_digits = (refl, refl, refl, refl)

-- the greatest number of 32 bits, digit by digit
digit_more : (n : ℕ) (front : List ℕ) → 9 < n → decimal (n / 10) ≡ front → decimal n ≡ front ++ ((48 + n % 10) ∷ [])
digit_more n front more e = decimal_more n more ∙ ap (λ (l : List ℕ). l ++ ((48 + n % 10) ∷ [])) e

pub greatest : decimal 4294967295 ≡ ascii "4294967295"
greatest =
    digit_more 4294967295 _ (omega arith)
    (digit_more 429496729 _ (omega arith)
    (digit_more 42949672 _ (omega arith)
    (digit_more 4294967 _ (omega arith)
    (digit_more 429496 _ (omega arith)
    (digit_more 42949 _ (omega arith)
    (digit_more 4294 _ (omega arith)
    (digit_more 429 _ (omega arith) (digit_more 42 _ (omega arith) (decimal_one 4 (omega arith))))))))))

-- two digits to a byte, the high one first, in lower case
pub hex-bytes : hex (0x00 ∷ 0x0A ∷ 0x1F ∷ 0x9B ∷ 0xA0 ∷ 0xC3 ∷ 0xFF ∷ []) ≡ ascii "000a1f9ba0c3ff"
unfolding hex joined
hex-bytes = refl

pub no_bytes : hex [] ≡ []
unfolding hex joined
no_bytes = refl

-- a space stands before the number
pub columns : (column 0 ≡ ascii " 0") × (column 41 ≡ ascii " 41")
unfolding column decimal digits
columns = (refl, refl)

-- ASCII: the space, the end of a line, digits and letters
pub codes : (space ≡ 32 ∷ []) × (newline ≡ 10 ∷ []) × (ascii "09az" ≡ 48 ∷ 57 ∷ 97 ∷ 122 ∷ [])
codes = (refl, refl, refl)
