-- Texts and the numbers and addresses that they say, and the line of a refusal, by computation.
use mathlib.Core.Path.{◌≡◌, refl}
use mathlib.Core.List.{[], ◌∷◌}
use Rattle.std.specs.Prelude.{Some, None}
use Rattle.octets.specs.Stretch.{part, rest}
use Rattle.octets.specs.Count.{any, least, up_to}
use Rattle.text.specs.Text.{ascii, column, decimal, digits}
use Rattle.tool.specs.Number.{are_digits, value_from, said_by, said}
use Rattle.tool.specs.Address.{mac_said, to_255, octet_said, dot_from, together, ipv4_said}
use Rattle.tool.specs.Refused.{refused_line}

pub in_decimal : (said (ascii "0") ≡ Some 0) × (said (ascii "257") ≡ Some 257) × (said (ascii "4294967295") ≡ Some 4294967295)
unfolding said said_by are_digits value_from rest
in_decimal = (refl, refl, refl)

-- the greatest number, with a zero in front, and one digit too many
pub ten_digits : (said (ascii "9999999999") ≡ Some 9999999999)
    × (said (ascii "09999999999") ≡ Some 9999999999) × (said (ascii "10000000000") ≡ None)
unfolding said said_by are_digits value_from rest
ten_digits = (refl, refl, refl)

pub in_hexadecimal : (said (ascii "0x101") ≡ Some 257) × (said (ascii "0XfF") ≡ Some 255) × (said (ascii "0xabcdef09") ≡ Some 2882400009)
unfolding said said_by are_digits value_from rest
in_hexadecimal = (refl, refl, refl)

pub eight_digits : (said (ascii "0xFFFFFFFF") ≡ Some 4294967295)
    × (said (ascii "0x00000000A") ≡ Some 10) × (said (ascii "0x100000000") ≡ None)
unfolding said said_by are_digits value_from rest
eight_digits = (refl, refl, refl)

-- no digits, and other bytes
pub no_number : (said (ascii "") ≡ None) × (said (ascii "0x") ≡ None) × (said (ascii "12a") ≡ None) × (said (ascii "0x1g") ≡ None)
    × (said (ascii "-1") ≡ None) × (said (ascii "x1") ≡ None)
unfolding said said_by are_digits value_from rest
no_number = (refl, refl, refl, refl, refl, refl)

-- addresses of Ethernet, in either case
pub of_ethernet : (mac_said (ascii "02:00:00:00:00:01") ≡ Some (2 ∷ 0 ∷ 0 ∷ 0 ∷ 0 ∷ 1 ∷ []))
    × (mac_said (ascii "aB:Cd:eF:09:90:ff") ≡ Some (171 ∷ 205 ∷ 239 ∷ 9 ∷ 144 ∷ 255 ∷ []))
unfolding mac_said any up_to
of_ethernet = (refl, refl)

-- a group of one digit or of three, five groups, seven groups, another sign between or none, other bytes
pub no_groups : (mac_said (ascii "2:00:00:00:00:01") ≡ None) × (mac_said (ascii "2:000:00:00:00:01") ≡ None)
    × (mac_said (ascii "02:00:00:00:00") ≡ None) × (mac_said (ascii "02:00:00:00:00:01:02") ≡ None)
unfolding mac_said any up_to
no_groups = (refl, refl, refl, refl)

pub no_colons : (mac_said (ascii "02-00-00-00-00-01") ≡ None) × (mac_said (ascii "02:00:00:00:00.01") ≡ None)
    × (mac_said (ascii "020000000001") ≡ None) × (mac_said (ascii "02:00:00:00:00:01:") ≡ None)
unfolding mac_said any up_to
no_colons = (refl, refl, refl, refl)

pub no_digits : (mac_said (ascii "0g:00:00:00:00:01") ≡ None) × (mac_said (ascii "02:00:00:00:00:0x") ≡ None)
    × (mac_said (ascii "02:00:00: 0:00:01") ≡ None) × (mac_said (ascii "") ≡ None)
unfolding mac_said any up_to
no_digits = (refl, refl, refl, refl)

-- addresses of IPv4: the first number is the most significant
pub of_ipv4 : (ipv4_said (ascii "192.0.2.1") ≡ Some 3221225985) × (ipv4_said (ascii "0.0.0.0") ≡ Some 0)
    × (ipv4_said (ascii "255.255.255.255") ≡ Some 4294967295) × (ipv4_said (ascii "1.20.109.255") ≡ Some 18116095)
unfolding ipv4_said together octet_said to_255 dot_from any least part said said_by are_digits value_from rest
of_ipv4 = (refl, refl, refl, refl)

-- three numbers, five, an empty one; a number of four digits, one above 255; zeros in front, hexadecimal; other bytes
pub not-four : (ipv4_said (ascii "192.0.2") ≡ None) × (ipv4_said (ascii "192.0.2.1.1") ≡ None) × (ipv4_said (ascii "192.0..1") ≡ None)
    × (ipv4_said (ascii ".0.2.1") ≡ None) × (ipv4_said (ascii "192.0.2.") ≡ None) × (ipv4_said (ascii "192.0.2.1.") ≡ None)
    × (ipv4_said (ascii "") ≡ None) × (ipv4_said (ascii "3221225985") ≡ None)
unfolding ipv4_said together octet_said to_255 dot_from any least part said said_by are_digits value_from rest
not-four = (refl, refl, refl, refl, refl, refl, refl, refl)

pub too_great : (ipv4_said (ascii "192.0.2.256") ≡ None) × (ipv4_said (ascii "1920.0.2.1") ≡ None)
    × (ipv4_said (ascii "192.0.999.1") ≡ None)
unfolding ipv4_said together octet_said to_255 dot_from any least part said said_by are_digits value_from rest
too_great = (refl, refl, refl)

pub zeros_in_front :
    (ipv4_said (ascii "192.00.2.1") ≡ None) × (ipv4_said (ascii "192.0.02.1") ≡ None) × (ipv4_said (ascii "192.0.2.0x1") ≡ None)
unfolding ipv4_said together octet_said to_255 dot_from any least part said said_by are_digits value_from rest
zeros_in_front = (refl, refl, refl)

pub no_decimal : (ipv4_said (ascii "192.0.2.a") ≡ None) × (ipv4_said (ascii "192.0.-2.1") ≡ None) × (ipv4_said (ascii "192,0,2,1") ≡ None)
    × (ipv4_said (ascii "192.0.2.1 ") ≡ None)
unfolding ipv4_said together octet_said to_255 dot_from any least part said said_by are_digits value_from rest
no_decimal = (refl, refl, refl, refl)

pub a_refusal : refused_line 41 ≡ ascii "refused 41\n"
unfolding refused_line column decimal digits
a_refusal = refl
