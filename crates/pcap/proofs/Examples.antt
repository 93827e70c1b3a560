-- Examples, computed: known IP checksums, what becomes of packets with one thing wrong or two, either byte order, the refusals of an import
-- and an export, and the way out and back. A whole export and a whole import, byte for byte, stand in crate instances.
use Prim.Native.Nat.{ℕ, ◌+◌}
use mathlib.Core.Path.{◌≡◌, refl}
use mathlib.Core.Bool.{true, false}
use mathlib.Core.List.{List, [], ◌∷◌, ◌++◌, map}
use lib.ListN.{replicate, set, take, length}
use Rattle.refusal.specs.Refusal.{first}
use Rattle.octets.specs.Stretch.{part, put, joined}
use Rattle.octets.specs.Count.{any, sum_to, up_to}
use Rattle.octets.specs.Those.{those}
use Rattle.capture.specs.File.{Entry, nth_entry, entries, body_start, file_of}
use Rattle.pcap.specs.declared.Addresses.{Addresses}
use Rattle.pcap.specs.File.{is_little, wrong_fields, bad_header, whole, start, size, after, bytes_at, records_from, place_from}
use Rattle.pcap.specs.File.{first_place, records, last_place, stops, pcap_of}
use Rattle.pcap.specs.Ipv4.{ipv4_header}
use Rattle.pcap.specs.Judge.{skip_of, entry_of}
use Rattle.pcap.specs.Import.{entries_of, skipped, all_entries, imported_by, imported}
use Rattle.pcap.specs.Export.{packet_of, export_of, exported_by, exported}

abbrev by : Addresses
by =
    record {
      sender = 2 ∷ 0 ∷ 0 ∷ 0 ∷ 0 ∷ 1 ∷ [];
      receiver = 2 ∷ 0 ∷ 0 ∷ 0 ∷ 0 ∷ 2 ∷ [];
      source = 0xC0A80001;
      target = 0xC0A800C7;
    }

-- The usual example of an IP checksum is 45 00 00 73 00 00 40 00 40 11 b8 61 c0 a8 00 01 c0 a8 00 c7. It has D set; without it the sum is
-- less by 0x4000, and so the checksum more: f8 61.
checksum_known : ipv4_header by 0x73 17
    ≡ 0x45 ∷ 0 ∷ 0 ∷ 0x73 ∷ 0 ∷ 0 ∷ 0 ∷ 0 ∷ 0x40 ∷ 0x11 ∷ 0xF8 ∷ 0x61 ∷ 0xC0 ∷ 0xA8 ∷ 0 ∷ 1 ∷ 0xC0 ∷ 0xA8 ∷ 0 ∷ 0xC7 ∷ []
unfolding sum_to
checksum_known = refl

-- A sum that overflows twice: 3FFFD, then 10000, then 1.
checksum-carries :
    ipv4_header (record { sender = []; receiver = []; source = 0xFFFFFFFF; target = 0xFFFF7A4C }) 0x41 115
    ≡ 0x45 ∷ 0 ∷ 0 ∷ 0x41 ∷ 0 ∷ 0 ∷ 0 ∷ 0 ∷ 0x40 ∷ 0x73 ∷ 0xFF ∷ 0xFE ∷ 0xFF ∷ 0xFF ∷ 0xFF ∷ 0xFF ∷ 0xFF ∷ 0xFF ∷ 0x7A ∷ 0x4C ∷ []
unfolding sum_to
checksum-carries = refl

abbrev opens : Entry
opens = record { kind = 1; body = 0 ∷ 0 ∷ 1 ∷ 1 ∷ [] }

abbrev over_ip : Entry
over_ip = record { kind = 4; body = 0xAA ∷ 0xBB ∷ [] }

abbrev over_udp_lem : Entry
over_udp_lem = record { kind = 5; body = 0xCC ∷ [] }

abbrev empty : Entry
empty = record { kind = 4; body = [] }

-- out and back, in either byte order: the data entries
there_and_back :
    (entries_of (records (export_of by (opens ∷ over_ip ∷ over_udp_lem ∷ empty ∷ []))) ≡ over_ip ∷ over_udp_lem ∷ empty ∷ [])
    × (entries_of (records (pcap_of false (map (packet_of by) (over_ip ∷ over_udp_lem ∷ empty ∷ []))))
    ≡ over_ip ∷ over_udp_lem ∷ empty ∷ [])
    × (length (export_of by (opens ∷ over_ip ∷ [])) ≡ 24 + 16 + 14 + 20 + 2)
unfolding sum_to part joined those
    is_little wrong_fields bad_header whole start size after bytes_at records_from first_place records pcap_of
    skip_of entry_of entries_of packet_of export_of
there_and_back = (refl, refl, refl)

-- Causes, of a packet over IP and one over UDP with one thing wrong, or two. Not IPv4: another type, a VLAN tag before it, 13 bytes,
-- another version, also where nothing else of the header is there.
abbrev plain : List ℕ
plain = packet_of by over_ip

abbrev udp : List ℕ
udp = packet_of by over_udp_lem

not_ipv4 :
    (skip_of (set udp 12 0x86) ≡ 1) × (skip_of (set (set udp 12 0x81) 13 0) ≡ 1) × (skip_of (take 13 udp) ≡ 1) × (skip_of [] ≡ 1)
    × (skip_of (set udp 14 0x65) ≡ 1) × (skip_of (take 15 (set udp 14 0x65)) ≡ 1)
unfolding sum_to packet_of skip_of
not_ipv4 = (refl, refl, refl, refl, refl, refl)

-- Bad lengths of IP: no byte of a header, or too few; a header of 16 bytes; a total length of 0, of 19, and one beyond the record, also of
-- a fragment; a header of 24 bytes that the total length cuts. With 20 bytes in all the data is empty; what is padded is as it was.
bad_ipv4_lengths :
    (skip_of (take 14 plain) ≡ 2) × (skip_of (take 15 plain) ≡ 2) × (skip_of (take 33 plain) ≡ 2) × (skip_of (set plain 14 0x44) ≡ 2)
    × (skip_of (set plain 17 0) ≡ 2) × (skip_of (set plain 17 19) ≡ 2) × (skip_of (set plain 17 23) ≡ 2)
    × (skip_of (set (set plain 17 23) 20 0x20) ≡ 2) × (skip_of (set plain 14 0x46) ≡ 2)
    × (entry_of (set plain 17 20) ≡ empty) × (entry_of (plain ++ replicate 17 0) ≡ over_ip)
unfolding sum_to part packet_of skip_of entry_of
bad_ipv4_lengths = (refl, refl, refl, refl, refl, refl, refl, refl, refl, refl, refl)

-- Bad lengths of UDP: 7, and one beyond the packet, also to another port. Where it is shorter than the IP packet, the data ends there.
bad_udp_lengths :
    (skip_of (set udp 39 7) ≡ 2) × (skip_of (set udp 39 10) ≡ 2) × (skip_of (set (set udp 37 0) 39 7) ≡ 2) × (skip_of (set udp 17 27) ≡ 2)
    × (skip_of (set udp 39 8) ≡ 0) × (entry_of (set udp 39 8) ≡ record { kind = 5; body = [] })
unfolding sum_to part packet_of skip_of entry_of
bad_udp_lengths = (refl, refl, refl, refl, refl, refl)

-- Fragments: that more follow; an offset in either of its bytes, with a UDP length that is not judged then, and of a protocol that is not
-- taken. D is none, and neither is the bit before it.
fragments :
    (skip_of (set udp 20 0x20) ≡ 3) × (skip_of (set udp 20 0x01) ≡ 3) × (skip_of (set udp 20 0x10) ≡ 3)
    × (skip_of (set (set udp 21 1) 39 0) ≡ 3) × (skip_of (set (set udp 21 1) 23 6) ≡ 3)
    × (skip_of (set udp 20 0x40) ≡ 0) × (skip_of (set udp 20 0x80) ≡ 0)
unfolding sum_to packet_of skip_of
fragments = (refl, refl, refl, refl, refl, refl, refl)

-- Others: another target port, another protocol. The source port is nothing.
others : (skip_of (set udp 37 0) ≡ 4) × (skip_of (set udp 23 6) ≡ 4) × (skip_of (set udp 35 0) ≡ 0)
unfolding sum_to packet_of skip_of
others = (refl, refl, refl)

-- Options are passed over, and padding is left out; over UDP too.
abbrev behind_options : ℕ → ℕ → List ℕ → List ℕ
behind_options total carried payload =
    take 14 plain ++ (0x46 ∷ 0 ∷ 0 ∷ total ∷ []) ++ part plain 18 5 ++ (carried ∷ replicate 10 0) ++ (1 ∷ 1 ∷ 1 ∷ 1 ∷ []) ++ payload

options :
    (entry_of (behind_options 27 115 (0xAB ∷ 0xCD ∷ 0xEF ∷ 9 ∷ 9 ∷ [])) ≡ record { kind = 4; body = 0xAB ∷ 0xCD ∷ 0xEF ∷ [] })
    × (skip_of (behind_options 27 115 (0xAB ∷ 0xCD ∷ 0xEF ∷ 9 ∷ 9 ∷ [])) ≡ 0)
    × (entry_of (behind_options 33 17 (0 ∷ 1 ∷ 6 ∷ 0xA5 ∷ 0 ∷ 9 ∷ 0 ∷ 0 ∷ 0xAB ∷ 9 ∷ [])) ≡ record { kind = 5; body = 0xAB ∷ [] })
    × (skip_of (behind_options 33 17 (0 ∷ 1 ∷ 6 ∷ 0xA5 ∷ 0 ∷ 9 ∷ 0 ∷ 0 ∷ 0xAB ∷ 9 ∷ [])) ≡ 0)
unfolding sum_to part packet_of skip_of entry_of
options = (refl, refl, refl, refl)

-- Most significant byte first, with numbers in the fields that nobody reads. 61: no header, magic numbers with nanoseconds in either order,
-- versions, link types; 62 for each way to be cut, also before 63; 63 for sessions too many; 64.
abbrev big : List ℕ
big =
    0xA1 ∷ 0xB2 ∷ 0xC3 ∷ 0xD4 ∷ 0 ∷ 2 ∷ 0 ∷ 4 ∷ (replicate 12 9 ++ (0 ∷ 0 ∷ 0 ∷ 1 ∷ []))
    ++ (replicate 8 9 ++ (0 ∷ 0 ∷ 0 ∷ 36 ∷ 1 ∷ 2 ∷ 3 ∷ 4 ∷ []))
    ++ plain

abbrev code : List ℕ → List ℕ → ℕ → ℕ
code sessions file room = (imported sessions file (replicate room 0)).answer.code

bad_headers :
    (code [] (take 24 big) 2 ≡ 0) × (code [] (take 23 big) 8 ≡ 61) × (code [] (set (set big 2 0x3C) 3 0x4D) 8 ≡ 61)
    × (code [] (0x4D ∷ 0x3C ∷ 0xB2 ∷ 0xA1 ∷ 2 ∷ 0 ∷ 4 ∷ 0 ∷ (replicate 12 0 ++ (1 ∷ 0 ∷ 0 ∷ 0 ∷ []))) 8 ≡ 61)
    × (code [] (0xD4 ∷ 0xC3 ∷ 0xB2 ∷ 0xA1 ∷ 0 ∷ 2 ∷ 0 ∷ 4 ∷ (replicate 12 0 ++ (1 ∷ 0 ∷ 0 ∷ 0 ∷ []))) 8 ≡ 61)
    × (code [] (set big 5 3) 8 ≡ 61) × (code [] (set big 7 3) 8 ≡ 61) × (code [] (set big 23 2) 8 ≡ 61) × (code [] (set big 20 1) 8 ≡ 61)
unfolding sum_to part put joined those
    is_little wrong_fields bad_header whole start size after bytes_at records_from place_from first_place records last_place
    skip_of entry_of entries_of skipped packet_of file_of all_entries imported_by imported
bad_headers = (refl, refl, refl, refl, refl, refl, refl, refl, refl)

refused-imports :
    (code [] (take 75 big) 8 ≡ 62) × (code [] (take 40 big) 8 ≡ 62) × (code [] (take 39 big) 8 ≡ 62) × (code [] (take 25 big) 8 ≡ 62)
    × (code [] (set big 32 0xFF) 8 ≡ 62) × (code (replicate 1001 1) (take 25 big) 0 ≡ 62) × (code (replicate 1001 1) (take 24 big) 0 ≡ 63)
    × (code (replicate 1000 1) (take 24 big) 0 ≡ 64) × (code [] big 7 ≡ 64) × (code [] big 8 ≡ 0)
unfolding sum_to part put joined those
    is_little wrong_fields bad_header whole start size after bytes_at records_from place_from first_place records last_place
    skip_of entry_of entries_of skipped packet_of file_of all_entries imported_by imported
refused-imports = (refl, refl, refl, refl, refl, refl, refl, refl, refl, refl)

-- The places of a walk: of the one record, behind it, past the end, and where a record is cut. A walk that is at no whole record stays.
places :
    (whole big 24 false ≡ true) × (start big 24 false ≡ 40) × (after big 24 false ≡ 76) × (first (stops big 76 false) ≡ 0)
    × (whole big 76 false ≡ false) × (bytes_at big 76 false ≡ []) × (after big 90 false ≡ 90) × (first (stops big 90 false) ≡ 0)
    × (first (stops (take 75 big) 24 false) ≡ 62) × (after (take 75 big) 24 false ≡ 24)
unfolding part is_little wrong_fields bad_header whole start size after bytes_at packet_of sum_to
places = (refl, refl, refl, refl, refl, refl, refl, refl, refl, refl)

-- An export: refusals of the capture, of another form, then 64; opens of either kind and closes counted; and behind it the output stays.
abbrev capture : List ℕ
capture =
    file_of
    (opens ∷ record { kind = 2; body = 0 ∷ 0 ∷ 1 ∷ 2 ∷ [] } ∷ over_udp_lem ∷ record { kind = 3; body = 0 ∷ 0 ∷ 1 ∷ 1 ∷ [] } ∷ [])

abbrev export_code : List ℕ → ℕ → ℕ
export_code file room = (exported by file (replicate room 0)).answer.code

exports :
    ((exported by capture (replicate 83 0)).answer ≡ record { code = 0; length = 83; packets = 1; opens = 2; closes = 1 })
    × (export_code capture 82 ≡ 64) × (export_code (set capture 1 3) 0 ≡ 45) × (export_code (set capture 2 9) 0 ≡ 44)
    × (export_code [] 0 ≡ 42)
    × (export_code (0xFF ∷ 0xFF ∷ []) 0 ≡ 43) × (export_code (replicate 60001 0) 0 ≡ 41)
unfolding sum_to up_to any part put joined those
    body_start nth_entry entries file_of pcap_of packet_of export_of exported_by exported
exports = (refl, refl, refl, refl, refl, refl, refl)
