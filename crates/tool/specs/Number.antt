-- Which number a text says: in decimal, or in hexadecimal behind 0x. It has at least one digit, and at most ten decimal digits or eight
-- hexadecimal ones, zeros in front aside. Any other text says none.
use Rattle.std.specs.Prelude.{ℕ, ◌+◌, ◌-◌, ◌*◌, Bool, true, cond, ◌&&◌, ◌||◌, List, [], ◌∷◌, eqb, ltb, leb, length, Option, Some, None}
use Rattle.octets.specs.Bytes.{byte_at}
use Rattle.octets.specs.Stretch.{rest}

-- the value of a digit's byte in ASCII: 0 to 9, a to f, A to F; and 16 for any other byte
abbrev pub digit_of : ℕ → ℕ
digit_of byte =
    cond (leb 48 byte && leb byte 57) (byte - 48)
    (cond (leb 97 byte && leb byte 102) (byte - 97 + 10)
    (cond (leb 65 byte && leb byte 70) (byte - 65 + 10)
    16))

-- the same, where it is the byte of a digit
abbrev pub digit_said : ℕ → Option ℕ
digit_said byte = cond (ltb (digit_of byte) 16) (Some (digit_of byte)) None

-- whether all are digits of this base; and the number that they say, the most significant first
unfoldable pub are_digits : ℕ → List ℕ → Bool
are_digits base [] = true
are_digits base (byte ∷ more) = ltb (digit_of byte) base && are_digits base more

unfoldable pub value_from : ℕ → ℕ → List ℕ → ℕ
value_from base value [] = value
value_from base value (byte ∷ more) = value_from base (base * value + digit_of byte) more

abbrev pub value_of : ℕ → List ℕ → ℕ
value_of base digits = value_from base 0 digits

-- the number of digits, where there are some, and it is below a limit
unfoldable pub said_by : ℕ → ℕ → List ℕ → Option ℕ
said_by base limit digits =
    cond (ltb 0 (length digits) && (are_digits base digits && ltb (value_of base digits) limit))
    (Some (value_of base digits)) None

-- whether 0x or 0X stands in front
abbrev pub is_hexadecimal : List ℕ → Bool
is_hexadecimal text = leb 2 (length text) && (eqb (byte_at text 0) 48 && (eqb (byte_at text 1) 120 || eqb (byte_at text 1) 88))

-- 4,294,967,296 has nine hexadecimal digits, and 10,000,000,000 eleven decimal ones: these and all above say none
unfoldable pub said : List ℕ → Option ℕ
said text = cond (is_hexadecimal text) (said_by 16 (16 * 268435456) (rest text 2)) (said_by 10 (10 * 1000000000) (rest text 0))
