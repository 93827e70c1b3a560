-- The capture file of document 01's example, and a file for each refusal, by computation.
use Prim.Native.Nat.{ℕ}
use mathlib.Core.Path.{◌≡◌, refl}
use mathlib.Core.List.{List, [], ◌∷◌}
use native.Mathlib.Omega.{arith}
use lib.ListN.{length, replicate}
use Rattle.octets.specs.Stretch.{part, joined}
use Rattle.octets.specs.Count.{any, sum_to, up_to}
use Rattle.capture.specs.File.{body_start, file_refusal, Entry, nth_entry, entries, file_of}
use Rattle.capture.specs.Write.{Right, Writable}

-- session 0x101 opened, packet A, packet B twice, the session closed: five entries in 84 bytes
abbrev session : List ℕ
session = 0x00 ∷ 0x00 ∷ 0x01 ∷ 0x01 ∷ []

abbrev packet_a : List ℕ
packet_a =
    0x00 ∷ 0x00 ∷ 0x01 ∷ 0x01 ∷ 0x41 ∷ 0x02 ∷ 0xFF ∷ 0xFF ∷ 0xC0 ∷ 0x06 ∷ 0x80 ∷ 0x02
    ∷ 0x11 ∷ 0x12 ∷ 0x13 ∷ 0x14 ∷ 0x15 ∷ 0x16 ∷ 0x21 ∷ 0x22 ∷ []

abbrev packet_b : List ℕ
packet_b = 0x00 ∷ 0x00 ∷ 0x01 ∷ 0x01 ∷ 0x41 ∷ 0x01 ∷ 0x00 ∷ 0x00 ∷ 0x40 ∷ 0x07 ∷ 0x23 ∷ 0x24 ∷ 0x25 ∷ 0x26 ∷ 0x27 ∷ 0x28 ∷ 0x29 ∷ []

abbrev five : List Entry
five =
    record { kind = 1; body = session }
    ∷ record { kind = 4; body = packet_a }
    ∷ record { kind = 4; body = packet_b }
    ∷ record { kind = 4; body = packet_b }
    ∷ record { kind = 3; body = session }
    ∷ []

abbrev pub capture : List ℕ
capture =
    0x00 ∷ 0x05
    ∷ 0x01 ∷ 0x00 ∷ 0x00 ∷ 0x04 ∷ 0x04 ∷ 0x00 ∷ 0x00 ∷ 0x14 ∷ 0x04 ∷ 0x00 ∷ 0x00 ∷ 0x11 ∷ 0x04 ∷ 0x00 ∷ 0x00 ∷ 0x11 ∷ 0x03 ∷ 0x00
    ∷ 0x00 ∷ 0x04
    ∷ 0x00 ∷ 0x00 ∷ 0x01 ∷ 0x01
    ∷ 0x00 ∷ 0x00 ∷ 0x01 ∷ 0x01 ∷ 0x41 ∷ 0x02 ∷ 0xFF ∷ 0xFF ∷ 0xC0 ∷ 0x06 ∷ 0x80 ∷ 0x02
    ∷ 0x11 ∷ 0x12 ∷ 0x13 ∷ 0x14 ∷ 0x15 ∷ 0x16 ∷ 0x21 ∷ 0x22
    ∷ 0x00 ∷ 0x00 ∷ 0x01 ∷ 0x01 ∷ 0x41 ∷ 0x01 ∷ 0x00 ∷ 0x00 ∷ 0x40 ∷ 0x07 ∷ 0x23 ∷ 0x24 ∷ 0x25 ∷ 0x26 ∷ 0x27 ∷ 0x28 ∷ 0x29
    ∷ 0x00 ∷ 0x00 ∷ 0x01 ∷ 0x01 ∷ 0x41 ∷ 0x01 ∷ 0x00 ∷ 0x00 ∷ 0x40 ∷ 0x07 ∷ 0x23 ∷ 0x24 ∷ 0x25 ∷ 0x26 ∷ 0x27 ∷ 0x28 ∷ 0x29
    ∷ 0x00 ∷ 0x00 ∷ 0x01 ∷ 0x01
    ∷ []

-- the file passes
pub capture_passes : (length capture ≡ 84) × (file_refusal capture ≡ 0)
unfolding file_refusal body_start any sum_to
capture_passes = (refl, refl)

-- its entries are the five
pub capture_entries : entries capture ≡ five
unfolding entries nth_entry body_start sum_to up_to part
capture_entries = refl

-- .. and it is the file of the five
pub capture_written : file_of five ≡ capture
unfolding file_of joined
capture_written = refl

-- these five may be written
opening-right : Right (record { kind = 1; body = session })
opening-right = record { its_kind = refl; its_length = refl }

data_right : (packet : List ℕ) → Right (record { kind = 4; body = packet })
data_right packet = record { its_kind = refl; its_length = refl }

closing-right : Right (record { kind = 3; body = session })
closing-right = record { its_kind = refl; its_length = refl }

pub five_writable : Writable five
unfolding file_of joined
five_writable =
    record {
      few = omega arith;
      short = omega arith;
      right = (opening-right, (data_right packet_a, (data_right packet_b, (data_right packet_b, (closing-right, tt)))));
    }

-- a file of no entries is two bytes
pub empty_passes : (file_refusal (0x00 ∷ 0x00 ∷ []) ≡ 0) × (entries (0x00 ∷ 0x00 ∷ []) ≡ [])
unfolding file_refusal body_start any sum_to entries up_to
empty_passes = (refl, refl)

-- 41: one byte more than a file may have; with one byte less, it is refused for its end
pub too_long : (file_refusal (replicate 60001 0x00) ≡ 41) × (file_refusal (replicate 60000 0x00) ≡ 45)
unfolding file_refusal body_start any sum_to
too_long = (refl, refl)

-- 42: no two bytes; one entry, of which a byte is missing; and a thousand entries, of which all are
pub too_short :
    (file_refusal (0x00 ∷ []) ≡ 42) × (file_refusal (0x00 ∷ 0x01 ∷ 0x03 ∷ 0x00 ∷ 0x00 ∷ []) ≡ 42) × (file_refusal (0x03 ∷ 0xE8 ∷ []) ≡ 42)
unfolding file_refusal body_start any sum_to
too_short = (refl, refl, refl)

-- 43: 1,001 entries, whatever follows
pub too_many : file_refusal (0x03 ∷ 0xE9 ∷ []) ≡ 43
unfolding file_refusal body_start any sum_to
too_many = refl

-- 44: a kind that no request names; a second byte that is not 0; an opening whose body has three bytes
pub wrong_entries :
    (file_refusal (0x00 ∷ 0x01 ∷ 0x08 ∷ 0x00 ∷ 0x00 ∷ 0x00 ∷ []) ≡ 44)
    × (file_refusal (0x00 ∷ 0x01 ∷ 0x04 ∷ 0x01 ∷ 0x00 ∷ 0x00 ∷ []) ≡ 44)
    × (file_refusal (0x00 ∷ 0x01 ∷ 0x05 ∷ 0x01 ∷ 0x00 ∷ 0x00 ∷ []) ≡ 44)
    × (file_refusal (0x00 ∷ 0x01 ∷ 0x01 ∷ 0x00 ∷ 0x00 ∷ 0x03 ∷ 0x00 ∷ 0x01 ∷ 0x01 ∷ []) ≡ 44)
unfolding file_refusal body_start any sum_to
wrong_entries = (refl, refl, refl, refl)

-- 45: a byte behind the last body; and one that the last body lacks
pub wrong_end :
    (file_refusal (0x00 ∷ 0x01 ∷ 0x03 ∷ 0x00 ∷ 0x00 ∷ 0x04 ∷ 0x00 ∷ 0x00 ∷ 0x01 ∷ 0x01 ∷ 0x00 ∷ []) ≡ 45)
    × (file_refusal (0x00 ∷ 0x01 ∷ 0x03 ∷ 0x00 ∷ 0x00 ∷ 0x04 ∷ 0x00 ∷ 0x00 ∷ 0x01 ∷ []) ≡ 45)
unfolding file_refusal body_start any sum_to
wrong_end = (refl, refl)

-- 41 comes before 43, 42 before 43 where two bytes are not there, 44 before 45
pub orders : (file_refusal (0x03 ∷ 0xE9 ∷ replicate 59999 0x00) ≡ 41)
    × (file_refusal [] ≡ 42)
    × (file_refusal (0x04 ∷ []) ≡ 42)
    × (file_refusal (0x00 ∷ 0x01 ∷ 0x08 ∷ 0x00 ∷ 0x00 ∷ 0x00 ∷ 0x00 ∷ []) ≡ 44)
unfolding file_refusal body_start any sum_to
orders = (refl, refl, refl, refl)

-- every entry is judged, the first and the last
pub each_entry : (file_refusal (0x00 ∷ 0x02 ∷ 0x04 ∷ 0x00 ∷ 0x00 ∷ 0x00 ∷ 0x00 ∷ 0x00 ∷ 0x00 ∷ 0x00 ∷ []) ≡ 44)
    × (file_refusal (0x00 ∷ 0x02 ∷ 0x00 ∷ 0x00 ∷ 0x00 ∷ 0x00 ∷ 0x04 ∷ 0x00 ∷ 0x00 ∷ 0x00 ∷ []) ≡ 44)
unfolding file_refusal body_start any sum_to
each_entry = (refl, refl)

-- a D-MPT session opens, with four bytes and no other number; a close has four; a data entry may have none, over UDP too (W1)
pub each-kind : (file_refusal (0x00 ∷ 0x01 ∷ 0x02 ∷ 0x00 ∷ 0x00 ∷ 0x04 ∷ 0x00 ∷ 0x00 ∷ 0x01 ∷ 0x01 ∷ []) ≡ 0)
    × (file_refusal (0x00 ∷ 0x01 ∷ 0x02 ∷ 0x00 ∷ 0x00 ∷ 0x03 ∷ 0x00 ∷ 0x01 ∷ 0x01 ∷ []) ≡ 44)
    × (file_refusal (0x00 ∷ 0x01 ∷ 0x03 ∷ 0x00 ∷ 0x00 ∷ 0x05 ∷ 0x00 ∷ 0x00 ∷ 0x01 ∷ 0x01 ∷ 0x00 ∷ []) ≡ 44)
    × (file_refusal (0x00 ∷ 0x01 ∷ 0x04 ∷ 0x00 ∷ 0x00 ∷ 0x00 ∷ []) ≡ 0)
    × (file_refusal (0x00 ∷ 0x01 ∷ 0x05 ∷ 0x00 ∷ 0x00 ∷ 0x00 ∷ []) ≡ 0)
    × (file_refusal (0x00 ∷ 0x01 ∷ 0x05 ∷ 0x00 ∷ 0x00 ∷ 0x03 ∷ 0x00 ∷ 0x03 ∷ 0x00 ∷ []) ≡ 0)
unfolding file_refusal body_start any sum_to
each-kind = (refl, refl, refl, refl, refl, refl)
