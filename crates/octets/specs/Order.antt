-- Numbers of two and four bytes in either byte order (document 02, W5: a pcap file has its numbers in the order of the machine that wrote
-- it). The order is a parameter, `little`: true where the least significant byte stands first. So what is said of a file's numbers is said
-- once, of both orders.
use Rattle.std.specs.Prelude.{ℕ, ◌+◌, ◌*◌, ◌/◌, ◌%◌, Bool, cond, List, [], ◌∷◌, ◌++◌}
use Rattle.octets.specs.Bytes.{byte_at, be16_at, be32_at, two, four}

-- least significant byte first: the number in the two bytes from place i on, and in the four
abbrev pub le16_at : List ℕ → ℕ → ℕ
le16_at bytes i = byte_at bytes (i + 1) * 256 + byte_at bytes i

abbrev pub le32_at : List ℕ → ℕ → ℕ
le32_at bytes i = le16_at bytes (i + 2) * 65536 + le16_at bytes i

-- .. and written so: its low bytes, where it has more
abbrev pub two_le : ℕ → List ℕ
two_le n = n % 256 ∷ n / 256 % 256 ∷ []

abbrev pub four_le : ℕ → List ℕ
four_le n = two_le n ++ two_le (n / 65536)

-- in either order
abbrev pub u16_at : Bool → List ℕ → ℕ → ℕ
u16_at little bytes i = cond little (le16_at bytes i) (be16_at bytes i)

abbrev pub u32_at : Bool → List ℕ → ℕ → ℕ
u32_at little bytes i = cond little (le32_at bytes i) (be32_at bytes i)

abbrev pub two_in : Bool → ℕ → List ℕ
two_in little n = cond little (two_le n) (two n)

abbrev pub four_in : Bool → ℕ → List ℕ
four_in little n = cond little (four_le n) (four n)
