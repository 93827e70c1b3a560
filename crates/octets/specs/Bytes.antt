-- Numbers of two and four bytes, most significant byte first (document 01, "Packet layout": numbers big-endian). The elements of a list are
-- numbers of any size here; those of a slice of bytes are below 256.
use Rattle.std.specs.Prelude.{ℕ, ◌+◌, ◌*◌, ◌/◌, ◌%◌, ◌<◌, List, [], ◌∷◌, ◌++◌, get_or}

-- Byte number i. Past the end of the list stands a 0. No rule of document 01 is decided by it: a rule on lengths stands before each that
-- reads, and 10, which adds up the entries of a segment table, comes out the same whatever a cut entry reads as; so it is in W5. In W3
-- the 0 is meant: of the front of a frame, the bytes that are missing read as 0 (`said_length` of crate mpeg).
abbrev pub byte_at : List ℕ → ℕ → ℕ
byte_at bytes i = get_or bytes i 0

-- every element of the list is a byte
abbrev pub AllBytes : List ℕ → Type 0
AllBytes bytes = (i : ℕ) → byte_at bytes i < 256

-- the number in the two bytes from place i on, and in the four
abbrev pub be16_at : List ℕ → ℕ → ℕ
be16_at bytes i = byte_at bytes i * 256 + byte_at bytes (i + 1)

abbrev pub be32_at : List ℕ → ℕ → ℕ
be32_at bytes i = be16_at bytes i * 65536 + be16_at bytes (i + 2)

-- a number written as two bytes, and as four: its low ones, where it has more
abbrev pub two : ℕ → List ℕ
two n = n / 256 % 256 ∷ n % 256 ∷ []

abbrev pub four : ℕ → List ℕ
four n = two (n / 65536) ++ two n
