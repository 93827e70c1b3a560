-- A PSP packet as it is written (document 01, "Packet layout"; DEPI I05, section 8.3): the session ID; a byte with S set and the flow ID,
-- V, H and X being 0; the number of segments below a reserved bit of 0; the sequence number; an entry of this edition, two bytes, for each
-- segment; then the bodies. (The bits are so for flows below 8 and up to 127 segments: no other packet is ever written.)
use Rattle.std.specs.Prelude.{ℕ, ◌+◌, Bool, cond, List, [], ◌∷◌, ◌++◌, map, length}
use Rattle.octets.specs.Bytes.{two, four}
use Rattle.octets.specs.Stretch.{joined}
use Rattle.packet.specs.Header.{s_bit}
use Rattle.packet.specs.Segments.{Segment, b_bit, e_bit}

-- a bit that is set is worth its value
abbrev pub worth : Bool → ℕ → ℕ
worth set value = cond set value 0

abbrev pub entry_number : Bool → Bool → ℕ → ℕ
entry_number begins ends size = worth begins b_bit + worth ends e_bit + size

abbrev pub entry_of : Segment → List ℕ
entry_of s = two (entry_number s.begins s.ends (length s.body))

abbrev pub body_of : Segment → List ℕ
body_of s = s.body

abbrev pub header_of : ℕ → ℕ → ℕ → ℕ → List ℕ
header_of session flow count number = four session ++ ((s_bit + flow) ∷ count ∷ []) ++ two number

unfoldable pub packet_of : ℕ → ℕ → ℕ → List Segment → List ℕ
packet_of session flow number segments =
    header_of session flow (length segments) number
    ++ joined (map entry_of segments)
    ++ joined (map body_of segments)
