-- Which address a text says: one of Ethernet, as 02:00:00:00:00:01, or one of IPv4, as 192.0.2.1. Any other text says none.
use Rattle.std.specs.Prelude.{ℕ, ◌+◌, ◌-◌, ◌*◌, Bool, cond, not, ◌&&◌, ◌||◌, List, eqb, ltb, leb, length, position, Option, Some, None}
use Rattle.octets.specs.Bytes.{byte_at}
use Rattle.octets.specs.Stretch.{part}
use Rattle.octets.specs.Count.{any, least, up_to}
use Rattle.tool.specs.Number.{digit_of, said}

-- An address of Ethernet: six groups of exactly two hexadecimal digits, with a colon between each two. Group k begins at place 3k.
abbrev pub mac_groups : ℕ
mac_groups = 6

abbrev pub mac_text : ℕ
mac_text = 17

abbrev pub group_of : List ℕ → ℕ → ℕ
group_of text k = 16 * digit_of (byte_at text (3 * k)) + digit_of (byte_at text (3 * k + 1))

-- one of its two bytes is no digit, or no colon stands behind it and it is not the last
abbrev pub bad_group : List ℕ → ℕ → Bool
bad_group text k =
    leb 16 (digit_of (byte_at text (3 * k)))
    || leb 16 (digit_of (byte_at text (3 * k + 1)))
    || (ltb (k + 1) mac_groups && not (eqb (byte_at text (3 * k + 2)) 58))

-- the byte that the group says, where it is a good one
abbrev pub group_said : List ℕ → ℕ → Option ℕ
group_said text k = cond (bad_group text k) None (Some (group_of text k))

unfoldable pub mac_said : List ℕ → Option (List ℕ)
mac_said text =
    cond (not (eqb (length text) mac_text) || any (bad_group text) mac_groups) None (Some (up_to (group_of text) mac_groups))

-- An address of IPv4: four numbers from 0 to 255 in decimal, without zeros in front, with a dot between each two. A number in hexadecimal
-- has a zero in front, and so none of the four is one.
abbrev pub zero_in_front : List ℕ → Bool
zero_in_front text = leb 2 (length text) && eqb (byte_at text 0) 48

-- a number, where it is at most 255
unfoldable pub to_255 : Option ℕ → Option ℕ
to_255 None = None
to_255 (Some value) = cond (ltb 255 value) None (Some value)

unfoldable pub octet_said : List ℕ → Option ℕ
octet_said text = cond (zero_in_front text) None (to_255 (said text))

-- where the first dot stands from a place on; the end of the text where there is none
abbrev pub is_dot_from : List ℕ → ℕ → ℕ → Bool
is_dot_from text from i = leb from i && eqb (byte_at text i) 46

unfoldable pub dot_from : List ℕ → ℕ → ℕ
dot_from text from = least (is_dot_from text from) (length text)

-- .. and in the whole text, if there is one
abbrev pub first_dot : List ℕ → Option ℕ
first_dot text = position (λ byte. eqb byte 46) text

-- what stands from a place on and before another
abbrev pub between : List ℕ → ℕ → ℕ → List ℕ
between text from to = part text from (to - from)

-- four numbers as one, the first the most significant
unfoldable pub together : Option ℕ → Option ℕ → Option ℕ → Option ℕ → Option ℕ
together (Some a) (Some b) (Some c) (Some d) = Some (((a * 256 + b) * 256 + c) * 256 + d)
together _ _ _ _ = None

-- there are three dots, and what stands between them are numbers
unfoldable pub ipv4_said : List ℕ → Option ℕ
ipv4_said text =
    let first = dot_from text 0 in
    let second = dot_from text (first + 1) in
    let third = dot_from text (second + 1) in
    cond (ltb third (length text) && eqb (dot_from text (third + 1)) (length text))
    (together
    (octet_said (part text 0 first))
    (octet_said (between text (first + 1) second))
    (octet_said (between text (second + 1) third))
    (octet_said (between text (third + 1) (length text))))
    None
