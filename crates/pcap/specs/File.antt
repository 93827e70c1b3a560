-- Classic pcap files (document 02, W5): a file header of 24 bytes, then records, each a header of 16 bytes and as many bytes as that says.
-- Numbers stand in the byte order in which the file's first four bytes are the magic number. A file with another magic number, another
-- version than 2.4 or another link type than Ethernet is refused by 61; what zone, accuracy and snap length say is read by nobody.
--
--    0                   1                   2                   3
--    0 1 2 3 4 5 6 7 8 9 0 1 2 3 4 5 6 7 8 9 0 1 2 3 4 5 6 7 8 9 0 1
--   +-+-+-+-+-+-+-+-+-+-+-+-+-+-+-+-+-+-+-+-+-+-+-+-+-+-+-+-+-+-+-+-+
--   |                       magic 0xA1B2C3D4                        |    0
--   +-+-+-+-+-+-+-+-+-+-+-+-+-+-+-+-+-+-+-+-+-+-+-+-+-+-+-+-+-+-+-+-+
--   |       major version: 2        |       minor version: 4        |    4
--   +-+-+-+-+-+-+-+-+-+-+-+-+-+-+-+-+-+-+-+-+-+-+-+-+-+-+-+-+-+-+-+-+
--   |                             zone                              |    8
--   +-+-+-+-+-+-+-+-+-+-+-+-+-+-+-+-+-+-+-+-+-+-+-+-+-+-+-+-+-+-+-+-+
--   |                           accuracy                            |   12
--   +-+-+-+-+-+-+-+-+-+-+-+-+-+-+-+-+-+-+-+-+-+-+-+-+-+-+-+-+-+-+-+-+
--   |                          snap length                          |   16
--   +-+-+-+-+-+-+-+-+-+-+-+-+-+-+-+-+-+-+-+-+-+-+-+-+-+-+-+-+-+-+-+-+
--   |                    link type: 1, Ethernet                     |   20
--   +-+-+-+-+-+-+-+-+-+-+-+-+-+-+-+-+-+-+-+-+-+-+-+-+-+-+-+-+-+-+-+-+
--
--   +-+-+-+-+-+-+-+-+-+-+-+-+-+-+-+-+-+-+-+-+-+-+-+-+-+-+-+-+-+-+-+-+
--   |                            seconds                            |    0   a record; times are read by nobody
--   +-+-+-+-+-+-+-+-+-+-+-+-+-+-+-+-+-+-+-+-+-+-+-+-+-+-+-+-+-+-+-+-+
--   |                         microseconds                          |    4
--   +-+-+-+-+-+-+-+-+-+-+-+-+-+-+-+-+-+-+-+-+-+-+-+-+-+-+-+-+-+-+-+-+
--   |                  bytes kept here (incl_len)                   |    8
--   +-+-+-+-+-+-+-+-+-+-+-+-+-+-+-+-+-+-+-+-+-+-+-+-+-+-+-+-+-+-+-+-+
--   |                 bytes on the wire (orig_len)                  |   12   read by nobody
--   +-+-+-+-+-+-+-+-+-+-+-+-+-+-+-+-+-+-+-+-+-+-+-+-+-+-+-+-+-+-+-+-+
--   |                        the bytes kept                         |   16
--   +-+-+-+-+-+-+-+-+-+-+-+-+-+-+-+-+-+-+-+-+-+-+-+-+-+-+-+-+-+-+-+-+
use Rattle.std.specs.Prelude.{ℕ, zero, suc, ◌+◌, ◌-◌, Bool, cond, not, ◌&&◌, ◌||◌, List, [], ◌∷◌, ◌++◌, map, eqb, ltb, leb, length}
use Rattle.refusal.specs.Refusal.{Refusal, ◌when◌}
use Rattle.octets.specs.Order.{le32_at, u16_at, u32_at, two_in, four_in}
use Rattle.octets.specs.Stretch.{part, joined}

abbrev pub file_header : ℕ
file_header = 24

abbrev pub record_header : ℕ
record_header = 16

abbrev pub magic : ℕ
magic = 0xA1B2C3D4

abbrev pub major_version : ℕ
major_version = 2

abbrev pub minor_version : ℕ
minor_version = 4

abbrev pub ethernet : ℕ
ethernet = 1

-- Reading. Whether the file's numbers have the least significant byte first; the fields that are looked at; and 61.
unfoldable pub is_little : List ℕ → Bool
is_little file = not (ltb (length file) file_header) && eqb (le32_at file 0) magic

unfoldable pub wrong_fields : Bool → List ℕ → Bool
wrong_fields little file =
    not (eqb (u32_at little file 0) magic)
    || not (eqb (u16_at little file 4) major_version)
    || not (eqb (u16_at little file 6) minor_version)
    || not (eqb (u32_at little file 20) ethernet)

unfoldable pub bad_header : List ℕ → Bool
bad_header file = ltb (length file) file_header || wrong_fields (is_little file) file

-- A record at a place of the file, which may be any number: how many bytes the file has from there on, how many the record says that it
-- keeps, and whether all of it lies in the file. The two are compared by what is left, so that no length, however great, wraps around.
abbrev pub left : List ℕ → ℕ → ℕ
left file at = length file - at

abbrev pub kept : List ℕ → ℕ → Bool → ℕ
kept file at little = u32_at little file (at + 8)

unfoldable pub whole : List ℕ → ℕ → Bool → Bool
whole file at little = not (ltb (left file at) record_header) && leb (kept file at little) (left file at - record_header)

-- where its bytes begin, how many they are, and where the next record begins. Where no whole record stands there are no bytes, at the
-- file's end, and a walk stays where it is.
unfoldable pub start : List ℕ → ℕ → Bool → ℕ
start file at little = cond (whole file at little) (at + record_header) (length file)

unfoldable pub size : List ℕ → ℕ → Bool → ℕ
size file at little = cond (whole file at little) (kept file at little) 0

unfoldable pub after : List ℕ → ℕ → Bool → ℕ
after file at little = cond (whole file at little) (at + record_header + kept file at little) at

unfoldable pub bytes_at : List ℕ → ℕ → Bool → List ℕ
bytes_at file at little = part file (start file at little) (size file at little)

-- The records from a place on, n at most, and the place behind them.
unfoldable pub records_from : ℕ → List ℕ → ℕ → Bool → List (List ℕ)
records_from zero file at little = []
records_from (suc n) file at little =
    cond (whole file at little) (bytes_at file at little ∷ records_from n file (after file at little) little) []

unfoldable pub place_from : ℕ → List ℕ → ℕ → Bool → ℕ
place_from zero file at little = at
place_from (suc n) file at little = cond (whole file at little) (place_from n file (after file at little) little) at

-- The place of the first record; of a file with a bad header, the end. All records of a file, and where a walk over them stops. (No file
-- has more records than bytes: each has 16 or more.)
unfoldable pub first_place : List ℕ → ℕ
first_place file = cond (bad_header file) (length file) file_header

unfoldable pub records : List ℕ → List (List ℕ)
records file = records_from (length file) file (first_place file) (is_little file)

-- .. what they say that they had on the wire, which an import does not look at
unfoldable pub wire_from : ℕ → List ℕ → ℕ → Bool → List ℕ
wire_from zero file at little = []
wire_from (suc n) file at little =
    cond (whole file at little) (u32_at little file (at + 12) ∷ wire_from n file (after file at little) little) []

unfoldable pub wire_lengths : List ℕ → List ℕ
wire_lengths file = wire_from (length file) file (first_place file) (is_little file)

unfoldable pub last_place : List ℕ → ℕ
last_place file = place_from (length file) file (first_place file) (is_little file)

-- why a walk stops at a place: 61, or 62 where bytes are left there
abbrev pub stops : List ℕ → ℕ → Bool → List Refusal
stops file at little =
    61 when bad_header file
    ∷ 62 when (ltb at (length file) && not (whole file at little))
    ∷ []

-- Writing: the file of a list of records, in either byte order. Zone, accuracy and times are 0; all bytes of a packet are kept.
abbrev pub snap_length : ℕ
snap_length = 65535

abbrev pub file_header_in : Bool → List ℕ
file_header_in little =
    four_in little magic
    ++ two_in little major_version
    ++ two_in little minor_version
    ++ four_in little 0
    ++ four_in little 0
    ++ four_in little snap_length
    ++ four_in little ethernet

abbrev pub record_header_in : Bool → ℕ → List ℕ
record_header_in little n = four_in little 0 ++ four_in little 0 ++ four_in little n ++ four_in little n

abbrev pub record_in : Bool → List ℕ → List ℕ
record_in little bytes = record_header_in little (length bytes) ++ bytes

unfoldable pub pcap_of : Bool → List (List ℕ) → List ℕ
pcap_of little packets = file_header_in little ++ joined (map (record_in little) packets)
