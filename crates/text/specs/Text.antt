-- Text, as a list of ASCII bytes: words, a number in decimal, bytes in hexadecimal; and what it means that a text was written into a slice.
use Rattle.std.specs.Prelude.{ℕ, zero, suc, ◌+◌, ◌/◌, ◌%◌, ◌≤◌, ◌≡◌, cond, List, [], ◌∷◌, ◌++◌, map, ltb, length}
use Prim.Native.Char.{code}
use Prim.Native.String.{String, len, char_at}
use Rattle.octets.specs.Stretch.{put, joined}
use Rattle.text.specs.declared.Text.{Text}

-- the bytes of a quoted text
abbrev pub bytes_from : ℕ → ℕ → String → List ℕ
bytes_from zero i words = []
bytes_from (suc more) i words = code (char_at words i) ∷ bytes_from more (i + 1) words

abbrev pub ascii : String → List ℕ
ascii words = bytes_from (len words) 0 words

-- A number in decimal, without zeros in front: below ten it is one digit; else the digits of its tenth part, and its last one. A number n
-- has no more than n + 1 digits, so that many turns are enough.
unfoldable pub digits : ℕ → ℕ → List ℕ
digits zero n = []
digits (suc turns) n = cond (ltb n 10) ((48 + n) ∷ []) (digits turns (n / 10) ++ ((48 + n % 10) ∷ []))

unfoldable pub decimal : ℕ → List ℕ
decimal n = digits (suc n) n

-- no number of 32 bits has more digits
abbrev pub most_digits : ℕ
most_digits = 10

-- bytes in hexadecimal, two digits to a byte, in lower case
abbrev pub hex_digit : ℕ → ℕ
hex_digit d = cond (ltb d 10) (48 + d) (87 + d)

abbrev pub hex_byte : ℕ → List ℕ
hex_byte byte = hex_digit (byte / 16) ∷ hex_digit (byte % 16) ∷ []

unfoldable pub hex : List ℕ → List ℕ
hex bytes = joined (map hex_byte bytes)

abbrev pub space : List ℕ
space = ascii " "

abbrev pub newline : List ℕ
newline = ascii "\n"

-- a number in a column of its own
unfoldable pub column : ℕ → List ℕ
column n = space ++ decimal n

-- `words` were written into a slice at a place, and `next` is the place behind them; every other byte is as it was
pub record Wrote (before behind : List ℕ) (at next : ℕ) (words : List ℕ) : Type 0 where
  pub there : behind ≡ put before at words
  pub next_place : next ≡ at + length words
  pub inside : at + length words ≤ length before

-- The same of a text that is being written: the words were written behind what was written before.
abbrev pub Appended : Text → Text → List ℕ → Type 0
Appended before after words = Wrote before.room.now after.room.now before.length after.length words

-- It has the same room afterwards, as long as before: so who lent the room finds the words there.
abbrev pub SameRoom : Text → Text → Type 0
SameRoom before after = (after.room.ghost_name ≡ before.room.ghost_name) × (length after.room.now ≡ length before.room.now)

-- there is room for so many bytes more
abbrev pub HasRoom : Text → ℕ → Type 0
HasRoom text more = text.length + more ≤ length text.room.now
