-- The segments of a PSP packet (document 01, "Packet layout"; DEPI I05, section 8.3). Behind the sub-layer header comes one entry
-- for each segment, with B in its top bit, E in the next and the length in the low 14; then the segment bodies in the same order, to
-- the end of the packet. Read, such a packet is a list of segments, and no rule above this crate looks into an entry. How many bytes
-- an entry has is a parameter, `width`: 2 in this edition of the header. Its marks and its length stand in the first two.
--
--    0                   1
--    0 1 2 3 4 5 6 7 8 9 0 1 2 3 4 5
--   +-+-+-+-+-+-+-+-+-+-+-+-+-+-+-+-+
--   |B|E|          length           |
--   +-+-+-+-+-+-+-+-+-+-+-+-+-+-+-+-+
use Rattle.std.specs.Prelude.{ℕ, ◌+◌, ◌*◌, ◌/◌, ◌%◌, Bool, List, eqb}
use Rattle.octets.specs.Bytes.{be16_at}
use Rattle.octets.specs.Stretch.{part}
use Rattle.octets.specs.Count.{sum_to, up_to}
use Rattle.packet.specs.Header.{header_length, segment_count}

abbrev pub entry_width : ℕ
entry_width = 2

-- what B and E are worth in an entry, and how many values the length has, in the low bits
abbrev pub b_bit : ℕ
b_bit = 32768

abbrev pub e_bit : ℕ
e_bit = 16384

abbrev pub length_values : ℕ
length_values = 16384

-- entry number k, and what an entry says
abbrev pub entry_at : ℕ → List ℕ → ℕ → ℕ
entry_at width sub k = be16_at sub (header_length + width * k)

abbrev pub begins_in : ℕ → Bool
begins_in entry = eqb (entry / b_bit % 2) 1

abbrev pub ends_in : ℕ → Bool
ends_in entry = eqb (entry / e_bit % 2) 1

abbrev pub length_in : ℕ → ℕ
length_in entry = entry % length_values

abbrev pub length_at : ℕ → List ℕ → ℕ → ℕ
length_at width sub k = length_in (entry_at width sub k)

-- where the body of segment k starts: behind all entries and the bodies before it
unfoldable pub body_at : ℕ → List ℕ → ℕ → ℕ
body_at width sub k = header_length + width * segment_count sub + sum_to (length_at width sub) k

-- a segment: B, E, and its body
pub record Segment : Type 0 where
  pub begins : Bool
  pub ends : Bool
  pub body : List ℕ

unfoldable pub segment_at : ℕ → List ℕ → ℕ → Segment
segment_at width sub k =
    record {
      begins = begins_in (entry_at width sub k);
      ends = ends_in (entry_at width sub k);
      body = part sub (body_at width sub k) (length_at width sub k);
    }

unfoldable pub segments : ℕ → List ℕ → List Segment
segments width sub = up_to (segment_at width sub) (segment_count sub)
