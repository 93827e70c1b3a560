-- Closed instances of W5: a capture exported, the file byte for byte; that file imported again; and a file with packets of every kind, most
-- significant byte first, imported with two sessions named. The bytes were made by another program. And the statements, applied. It cites
-- definitions alone, so that it can be held against wrong ones.
use Prim.Native.Nat.{ℕ, ◌+◌, ◌<◌, ◌≤◌}
use mathlib.Core.Path.{◌≡◌, refl}
use mathlib.Core.Bool.{true, false}
use mathlib.Core.List.{List, [], ◌∷◌, ◌++◌, map}
use native.Mathlib.Omega.{arith}
use lib.ListN.{length, take, set, replicate}
use denote.Ref.{Bor}
use Rattle.octets.specs.Bytes.{be16_at}
use Rattle.octets.specs.Stretch.{part, put, joined}
use Rattle.octets.specs.Count.{any, sum_to, up_to}
use Rattle.octets.specs.Each.{Each}
use Rattle.octets.specs.Those.{those}
use Rattle.capture.specs.File.{body_start, file_refusal, Entry, nth_entry, entries, file_of}
use Rattle.pcap.specs.declared.Addresses.{Addresses}
use Rattle.pcap.specs.File.{is_little, wrong_fields, bad_header, whole, start, size, after, bytes_at, records_from, place_from, first_place}
use Rattle.pcap.specs.File.{records, last_place, wire_lengths, pcap_of}
use Rattle.pcap.specs.Ethernet.{ether_type}
use Rattle.pcap.specs.Ipv4.{version, header_length, total_length, fragment_bits, payload_at, payload_length, ones_sum}
use Rattle.pcap.specs.Udp.{target_port, length_said}
use Rattle.pcap.specs.Judge.{is_udp, skip_of, entry_of}
use Rattle.pcap.specs.Import.{entries_of, skipped, all_entries, imported_by, imported, ImportOutcome, Stretch}
use Rattle.pcap.specs.Export.{is_data, packet_of, export_of, exported_by, exported}
use Rattle.pcap.specs.Reader.{opened, handed_out}
use Rattle.pcap.specs.WellFormed.{WellFormed}
use Rattle.promises.specs.Pcap.{Addressed, pcap_in, capture_in, data_in, PcapComesBack, ExportWellFormed}
use Rattle.promises.specs.Pcap.{ImportNeverInvents, ImportAddsUp, EitherOrder, ReaderHandsOut}

abbrev by : Addresses
by =
    record {
      sender = 2 ∷ 0 ∷ 0 ∷ 0 ∷ 0 ∷ 1 ∷ [];
      receiver = 2 ∷ 0 ∷ 0 ∷ 0 ∷ 0 ∷ 2 ∷ [];
      source = 0xC0000201;
      target = 0xC6336402;
    }

addressed : Addressed by
addressed = record { sender_whole = refl; receiver_whole = refl }

-- open PSP 0x101, a packet over IP, one over UDP, close, and an empty packet over IP
abbrev capture : List ℕ
capture =
    0x00 ∷ 0x05 ∷ 0x01 ∷ 0x00 ∷ 0x00 ∷ 0x04 ∷ 0x04 ∷ 0x00 ∷ 0x00 ∷ 0x03 ∷ 0x05 ∷ 0x00 ∷ 0x00 ∷ 0x02 ∷ 0x03 ∷ 0x00 ∷ 0x00 ∷ 0x04
    ∷ 0x04 ∷ 0x00 ∷ 0x00 ∷ 0x00 ∷ 0x00 ∷ 0x00 ∷ 0x01 ∷ 0x01 ∷ 0xAA ∷ 0xBB ∷ 0xCC ∷ 0x11 ∷ 0x22 ∷ 0x00 ∷ 0x00 ∷ 0x01 ∷ 0x01 ∷ []

abbrev outward : List ℕ
outward =
    0xD4 ∷ 0xC3 ∷ 0xB2 ∷ 0xA1 ∷ 0x02 ∷ 0x00 ∷ 0x04 ∷ 0x00 ∷ 0x00 ∷ 0x00 ∷ 0x00 ∷ 0x00 ∷ 0x00 ∷ 0x00 ∷ 0x00 ∷ 0x00 ∷ 0xFF ∷ 0xFF
    ∷ 0x00 ∷ 0x00 ∷ 0x01 ∷ 0x00 ∷ 0x00 ∷ 0x00 ∷ 0x00 ∷ 0x00 ∷ 0x00 ∷ 0x00 ∷ 0x00 ∷ 0x00 ∷ 0x00 ∷ 0x00 ∷ 0x25 ∷ 0x00 ∷ 0x00 ∷ 0x00
    ∷ 0x25 ∷ 0x00 ∷ 0x00 ∷ 0x00 ∷ 0x02 ∷ 0x00 ∷ 0x00 ∷ 0x00 ∷ 0x00 ∷ 0x02 ∷ 0x02 ∷ 0x00 ∷ 0x00 ∷ 0x00 ∷ 0x00 ∷ 0x01 ∷ 0x08 ∷ 0x00
    ∷ 0x45 ∷ 0x00 ∷ 0x00 ∷ 0x17 ∷ 0x00 ∷ 0x00 ∷ 0x00 ∷ 0x00 ∷ 0x40 ∷ 0x73 ∷ 0x8E ∷ 0x3D ∷ 0xC0 ∷ 0x00 ∷ 0x02 ∷ 0x01 ∷ 0xC6 ∷ 0x33
    ∷ 0x64 ∷ 0x02 ∷ 0xAA ∷ 0xBB ∷ 0xCC ∷ 0x00 ∷ 0x00 ∷ 0x00 ∷ 0x00 ∷ 0x00 ∷ 0x00 ∷ 0x00 ∷ 0x00 ∷ 0x2C ∷ 0x00 ∷ 0x00 ∷ 0x00 ∷ 0x2C
    ∷ 0x00 ∷ 0x00 ∷ 0x00 ∷ 0x02 ∷ 0x00 ∷ 0x00 ∷ 0x00 ∷ 0x00 ∷ 0x02 ∷ 0x02 ∷ 0x00 ∷ 0x00 ∷ 0x00 ∷ 0x00 ∷ 0x01 ∷ 0x08 ∷ 0x00 ∷ 0x45
    ∷ 0x00 ∷ 0x00 ∷ 0x1E ∷ 0x00 ∷ 0x00 ∷ 0x00 ∷ 0x00 ∷ 0x40 ∷ 0x11 ∷ 0x8E ∷ 0x98 ∷ 0xC0 ∷ 0x00 ∷ 0x02 ∷ 0x01 ∷ 0xC6 ∷ 0x33 ∷ 0x64
    ∷ 0x02 ∷ 0x06 ∷ 0xA5 ∷ 0x06 ∷ 0xA5 ∷ 0x00 ∷ 0x0A ∷ 0x00 ∷ 0x00 ∷ 0x11 ∷ 0x22 ∷ 0x00 ∷ 0x00 ∷ 0x00 ∷ 0x00 ∷ 0x00 ∷ 0x00 ∷ 0x00
    ∷ 0x00 ∷ 0x22 ∷ 0x00 ∷ 0x00 ∷ 0x00 ∷ 0x22 ∷ 0x00 ∷ 0x00 ∷ 0x00 ∷ 0x02 ∷ 0x00 ∷ 0x00 ∷ 0x00 ∷ 0x00 ∷ 0x02 ∷ 0x02 ∷ 0x00 ∷ 0x00
    ∷ 0x00 ∷ 0x00 ∷ 0x01 ∷ 0x08 ∷ 0x00 ∷ 0x45 ∷ 0x00 ∷ 0x00 ∷ 0x14 ∷ 0x00 ∷ 0x00 ∷ 0x00 ∷ 0x00 ∷ 0x40 ∷ 0x73 ∷ 0x8E ∷ 0x40 ∷ 0xC0
    ∷ 0x00 ∷ 0x02 ∷ 0x01 ∷ 0xC6 ∷ 0x33 ∷ 0x64 ∷ 0x02 ∷ []

-- The export, byte for byte, and behind it the output as it was; 64 with a byte less, 44 for an entry of another kind.
export_instance :
    (exported by capture (replicate 188 7)
    ≡ record {
      answer = record { code = 0; length = 187; packets = 3; opens = 1; closes = 1 };
      output = outward ++ (7 ∷ []);
    })
    × ((exported by capture (replicate 186 7)).answer.code ≡ 64)
    × ((exported by (set capture 2 9) (replicate 186 7)).answer.code ≡ 44)
unfolding any sum_to up_to part put joined those body_start nth_entry entries pcap_of packet_of export_of exported_by exported
export_instance = (refl, refl, refl)

-- imported again: its three data entries, written as a capture
abbrev data_alone : List ℕ
data_alone =
    0x00 ∷ 0x03 ∷ 0x04 ∷ 0x00 ∷ 0x00 ∷ 0x03 ∷ 0x05 ∷ 0x00 ∷ 0x00 ∷ 0x02 ∷ 0x04 ∷ 0x00 ∷ 0x00 ∷ 0x00 ∷ 0xAA ∷ 0xBB ∷ 0xCC ∷ 0x11
    ∷ 0x22 ∷ []

back_instance :
    imported [] outward (replicate 20 7)
    ≡ record {
      answer = record { code = 0; length = 19; packets = 3; foreign = 0; misfits = 0; fragments = 0; others = 0 };
      output = data_alone ++ (7 ∷ []);
    }
unfolding part put joined those sum_to is_little wrong_fields bad_header whole start size after bytes_at records_from place_from
    first_place records last_place skip_of entry_of entries_of skipped all_entries file_of imported_by imported
back_instance = refl

-- What came from a site: most significant byte first, with numbers in zone, accuracy, snap length, times and lengths on the wire.
abbrev site_head : List ℕ
site_head =
    0xA1 ∷ 0xB2 ∷ 0xC3 ∷ 0xD4 ∷ 0x00 ∷ 0x02 ∷ 0x00 ∷ 0x04 ∷ 0x00 ∷ 0x00 ∷ 0x00 ∷ 0x09 ∷ 0x00 ∷ 0x00 ∷ 0x00 ∷ 0x08 ∷ 0x00 ∷ 0x00
    ∷ 0x00 ∷ 0x60 ∷ 0x00 ∷ 0x00 ∷ 0x00 ∷ 0x01 ∷ []

-- a packet of another type (ARP), and bytes on the wire that nobody reads
abbrev site_1 : List ℕ
site_1 =
    0x00 ∷ 0x00 ∷ 0x00 ∷ 0x07 ∷ 0x00 ∷ 0x00 ∷ 0x00 ∷ 0x08 ∷ 0x00 ∷ 0x00 ∷ 0x00 ∷ 0x12 ∷ 0x00 ∷ 0x00 ∷ 0x00 ∷ 0x3C ∷ 0x02 ∷ 0x00
    ∷ 0x00 ∷ 0x00 ∷ 0x00 ∷ 0x02 ∷ 0x02 ∷ 0x00 ∷ 0x00 ∷ 0x00 ∷ 0x00 ∷ 0x01 ∷ 0x08 ∷ 0x06 ∷ 0x00 ∷ 0x01 ∷ 0x08 ∷ 0x00 ∷ []

-- a packet that was cut when it was caught: its length runs past the record
abbrev site_2 : List ℕ
site_2 =
    0x00 ∷ 0x00 ∷ 0x00 ∷ 0x07 ∷ 0x00 ∷ 0x00 ∷ 0x00 ∷ 0x08 ∷ 0x00 ∷ 0x00 ∷ 0x00 ∷ 0x24 ∷ 0x00 ∷ 0x00 ∷ 0x00 ∷ 0x25 ∷ 0x02 ∷ 0x00
    ∷ 0x00 ∷ 0x00 ∷ 0x00 ∷ 0x02 ∷ 0x02 ∷ 0x00 ∷ 0x00 ∷ 0x00 ∷ 0x00 ∷ 0x01 ∷ 0x08 ∷ 0x00 ∷ 0x45 ∷ 0x00 ∷ 0x00 ∷ 0x17 ∷ 0x00 ∷ 0x00
    ∷ 0x00 ∷ 0x00 ∷ 0x40 ∷ 0x73 ∷ 0x8E ∷ 0x3D ∷ 0xC0 ∷ 0x00 ∷ 0x02 ∷ 0x01 ∷ 0xC6 ∷ 0x33 ∷ 0x64 ∷ 0x02 ∷ 0x01 ∷ 0x02 ∷ []

-- a UDP length that ends in the header
abbrev site_3 : List ℕ
site_3 =
    0x00 ∷ 0x00 ∷ 0x00 ∷ 0x07 ∷ 0x00 ∷ 0x00 ∷ 0x00 ∷ 0x08 ∷ 0x00 ∷ 0x00 ∷ 0x00 ∷ 0x2B ∷ 0x00 ∷ 0x00 ∷ 0x00 ∷ 0x2B ∷ 0x02 ∷ 0x00
    ∷ 0x00 ∷ 0x00 ∷ 0x00 ∷ 0x02 ∷ 0x02 ∷ 0x00 ∷ 0x00 ∷ 0x00 ∷ 0x00 ∷ 0x01 ∷ 0x08 ∷ 0x00 ∷ 0x45 ∷ 0x00 ∷ 0x00 ∷ 0x1D ∷ 0x00 ∷ 0x00
    ∷ 0x00 ∷ 0x00 ∷ 0x40 ∷ 0x11 ∷ 0x8E ∷ 0x99 ∷ 0xC0 ∷ 0x00 ∷ 0x02 ∷ 0x01 ∷ 0xC6 ∷ 0x33 ∷ 0x64 ∷ 0x02 ∷ 0x06 ∷ 0xA5 ∷ 0x06 ∷ 0xA5
    ∷ 0x00 ∷ 0x07 ∷ 0x00 ∷ 0x00 ∷ 0x01 ∷ []

-- a fragment: more follow
abbrev site_4 : List ℕ
site_4 =
    0x00 ∷ 0x00 ∷ 0x00 ∷ 0x07 ∷ 0x00 ∷ 0x00 ∷ 0x00 ∷ 0x08 ∷ 0x00 ∷ 0x00 ∷ 0x00 ∷ 0x23 ∷ 0x00 ∷ 0x00 ∷ 0x00 ∷ 0x23 ∷ 0x02 ∷ 0x00
    ∷ 0x00 ∷ 0x00 ∷ 0x00 ∷ 0x02 ∷ 0x02 ∷ 0x00 ∷ 0x00 ∷ 0x00 ∷ 0x00 ∷ 0x01 ∷ 0x08 ∷ 0x00 ∷ 0x45 ∷ 0x00 ∷ 0x00 ∷ 0x15 ∷ 0x00 ∷ 0x00
    ∷ 0x20 ∷ 0x00 ∷ 0x40 ∷ 0x73 ∷ 0x6E ∷ 0x3F ∷ 0xC0 ∷ 0x00 ∷ 0x02 ∷ 0x01 ∷ 0xC6 ∷ 0x33 ∷ 0x64 ∷ 0x02 ∷ 0x01 ∷ []

-- another protocol (TCP), and another target port
abbrev site_5 : List ℕ
site_5 =
    0x00 ∷ 0x00 ∷ 0x00 ∷ 0x07 ∷ 0x00 ∷ 0x00 ∷ 0x00 ∷ 0x08 ∷ 0x00 ∷ 0x00 ∷ 0x00 ∷ 0x23 ∷ 0x00 ∷ 0x00 ∷ 0x00 ∷ 0x23 ∷ 0x02 ∷ 0x00
    ∷ 0x00 ∷ 0x00 ∷ 0x00 ∷ 0x02 ∷ 0x02 ∷ 0x00 ∷ 0x00 ∷ 0x00 ∷ 0x00 ∷ 0x01 ∷ 0x08 ∷ 0x00 ∷ 0x45 ∷ 0x00 ∷ 0x00 ∷ 0x15 ∷ 0x00 ∷ 0x00
    ∷ 0x00 ∷ 0x00 ∷ 0x40 ∷ 0x06 ∷ 0x8E ∷ 0xAC ∷ 0xC0 ∷ 0x00 ∷ 0x02 ∷ 0x01 ∷ 0xC6 ∷ 0x33 ∷ 0x64 ∷ 0x02 ∷ 0x01 ∷ []

abbrev site_6 : List ℕ
site_6 =
    0x00 ∷ 0x00 ∷ 0x00 ∷ 0x07 ∷ 0x00 ∷ 0x00 ∷ 0x00 ∷ 0x08 ∷ 0x00 ∷ 0x00 ∷ 0x00 ∷ 0x2B ∷ 0x00 ∷ 0x00 ∷ 0x00 ∷ 0x2B ∷ 0x02 ∷ 0x00
    ∷ 0x00 ∷ 0x00 ∷ 0x00 ∷ 0x02 ∷ 0x02 ∷ 0x00 ∷ 0x00 ∷ 0x00 ∷ 0x00 ∷ 0x01 ∷ 0x08 ∷ 0x00 ∷ 0x45 ∷ 0x00 ∷ 0x00 ∷ 0x1D ∷ 0x00 ∷ 0x00
    ∷ 0x00 ∷ 0x00 ∷ 0x40 ∷ 0x11 ∷ 0x8E ∷ 0x99 ∷ 0xC0 ∷ 0x00 ∷ 0x02 ∷ 0x01 ∷ 0xC6 ∷ 0x33 ∷ 0x64 ∷ 0x02 ∷ 0x06 ∷ 0xA5 ∷ 0x00 ∷ 0x35
    ∷ 0x00 ∷ 0x09 ∷ 0x00 ∷ 0x00 ∷ 0x01 ∷ []

-- data over IP behind an option, with padding behind it
abbrev site_7 : List ℕ
site_7 =
    0x00 ∷ 0x00 ∷ 0x00 ∷ 0x07 ∷ 0x00 ∷ 0x00 ∷ 0x00 ∷ 0x08 ∷ 0x00 ∷ 0x00 ∷ 0x00 ∷ 0x2D ∷ 0x00 ∷ 0x00 ∷ 0x00 ∷ 0x2D ∷ 0x02 ∷ 0x00
    ∷ 0x00 ∷ 0x00 ∷ 0x00 ∷ 0x02 ∷ 0x02 ∷ 0x00 ∷ 0x00 ∷ 0x00 ∷ 0x00 ∷ 0x01 ∷ 0x08 ∷ 0x00 ∷ 0x46 ∷ 0x00 ∷ 0x00 ∷ 0x1A ∷ 0x00 ∷ 0x00
    ∷ 0x00 ∷ 0x00 ∷ 0x40 ∷ 0x73 ∷ 0x8D ∷ 0x3A ∷ 0xC0 ∷ 0x00 ∷ 0x02 ∷ 0x01 ∷ 0xC6 ∷ 0x33 ∷ 0x64 ∷ 0x02 ∷ 0x01 ∷ 0x01 ∷ 0x01 ∷ 0x01
    ∷ 0xAA ∷ 0xBB ∷ 0x00 ∷ 0x00 ∷ 0x00 ∷ 0x00 ∷ 0x00 ∷ []

-- data over UDP that ends before the IP packet does, from another source port, not to be cut (D)
abbrev site_8 : List ℕ
site_8 =
    0x00 ∷ 0x00 ∷ 0x00 ∷ 0x07 ∷ 0x00 ∷ 0x00 ∷ 0x00 ∷ 0x08 ∷ 0x00 ∷ 0x00 ∷ 0x00 ∷ 0x2C ∷ 0x00 ∷ 0x00 ∷ 0x00 ∷ 0x2C ∷ 0x02 ∷ 0x00
    ∷ 0x00 ∷ 0x00 ∷ 0x00 ∷ 0x02 ∷ 0x02 ∷ 0x00 ∷ 0x00 ∷ 0x00 ∷ 0x00 ∷ 0x01 ∷ 0x08 ∷ 0x00 ∷ 0x45 ∷ 0x00 ∷ 0x00 ∷ 0x1E ∷ 0x00 ∷ 0x00
    ∷ 0x40 ∷ 0x00 ∷ 0x40 ∷ 0x11 ∷ 0x4E ∷ 0x98 ∷ 0xC0 ∷ 0x00 ∷ 0x02 ∷ 0x01 ∷ 0xC6 ∷ 0x33 ∷ 0x64 ∷ 0x02 ∷ 0x0F ∷ 0xA0 ∷ 0x06 ∷ 0xA5
    ∷ 0x00 ∷ 0x09 ∷ 0x00 ∷ 0x00 ∷ 0xCC ∷ 0xDD ∷ []

abbrev site : List ℕ
site = site_head ++ site_1 ++ site_2 ++ site_3 ++ site_4 ++ site_5 ++ site_6 ++ site_7 ++ site_8

abbrev site_capture : List ℕ
site_capture =
    0x00 ∷ 0x04 ∷ 0x01 ∷ 0x00 ∷ 0x00 ∷ 0x04 ∷ 0x01 ∷ 0x00 ∷ 0x00 ∷ 0x04 ∷ 0x04 ∷ 0x00 ∷ 0x00 ∷ 0x02 ∷ 0x05 ∷ 0x00 ∷ 0x00 ∷ 0x01
    ∷ 0x00 ∷ 0x00 ∷ 0x01 ∷ 0x01 ∷ 0x00 ∷ 0x00 ∷ 0x00 ∷ 0x00 ∷ 0xAA ∷ 0xBB ∷ 0xCC ∷ []

import_instance :
    (imported (0x101 ∷ 0 ∷ []) site (replicate 31 7)
    ≡ record {
      answer = record { code = 0; length = 29; packets = 2; foreign = 1; misfits = 2; fragments = 1; others = 2 };
      output = site_capture ++ (7 ∷ 7 ∷ []);
    })
    × ((imported (0x101 ∷ 0 ∷ []) site (replicate 28 7)).answer.code ≡ 64)
    × ((imported [] (take 450 site) (replicate 31 7)).answer.code ≡ 62)
    × ((imported [] (set site 23 2) (replicate 31 7)).answer.code ≡ 61)
unfolding part put joined those sum_to is_little wrong_fields bad_header whole start size after bytes_at records_from place_from
    first_place records last_place skip_of entry_of entries_of skipped all_entries file_of imported_by imported
import_instance = (refl, refl, refl, refl)

-- A thousand sessions may be named, of a file without records, and no more; nor may a file be longer than a capture is. (63 is 41 or 43 of
-- what would be written.)
abbrev no_records : List ℕ
no_records = take 24 site

too_large_instance :
    ((imported (replicate 1001 1) no_records []).answer.code ≡ 63)
    × ((imported (replicate 1000 1) no_records []).answer.code ≡ 64)
    × ((imported (replicate 1001 1) (take 25 site) []).answer.code ≡ 62)
unfolding part put joined those sum_to is_little wrong_fields bad_header whole start size after bytes_at records_from place_from
    first_place records last_place skip_of entry_of entries_of skipped all_entries file_of imported_by imported
too_large_instance = (refl, refl, refl)

-- `pcap_comes_back`, applied: the capture exported, and what was written imported into an output with a byte more than is needed
abbrev there : List ℕ
there = replicate 188 7

abbrev here : List ℕ
here = replicate 20 7

goes_out : (exported by capture there).answer.code ≡ 0
unfolding any sum_to up_to part put joined those body_start nth_entry entries pcap_of packet_of export_of exported_by exported
goes_out = refl

enough-room : length (file_of (data_in capture)) ≤ length here
unfolding sum_to up_to part joined those body_start nth_entry entries file_of
enough-room = omega arith

abbrev pub PcapComesBackHere : Type 0
PcapComesBackHere =
    imported [] (pcap_in (exported by capture there)) here
    ≡ record {
      answer = record { code = 0; length = 19; packets = 3; foreign = 0; misfits = 0; fragments = 0; others = 0 };
      output = data_alone ++ (7 ∷ []);
    }

pub pcap_comes_back_applied : PcapComesBack → PcapComesBackHere
unfolding sum_to up_to part put joined those body_start nth_entry entries file_of
pcap_comes_back_applied theorem = theorem by capture there here addressed goes_out enough-room

-- what holds of each of a list, where one thing follows from another
each_so : {A : Type 0} {P Q : A → Type 0} → ((x : A) → P x → Q x) → (all : List A) → Each P all → Each Q all
each_so follows [] holds = tt
each_so follows (x ∷ more) holds = (follows x holds.0, each_so follows more holds.1)

-- `export_well_formed`, applied: the same export, its packets read as any reader would read them
pub record ReadHere (r : List ℕ) : Type 0 where
  pub ipv4 : (ether_type r ≡ 0x0800) × (version r ≡ 4) × (header_length r ≡ 20) × (fragment_bits r ≡ 0)
  pub as_long : 14 + total_length r ≡ length r
  pub summed : ones_sum (part r 14 20) ≡ 0xFFFF
  pub udp : is_udp r ≡ true → (be16_at r (payload_at r) ≡ 1701) × (target_port r ≡ 1701) × (length_said r ≡ payload_length r)

abbrev outward_file : List ℕ
outward_file = pcap_in (exported by capture there)

abbrev pub ExportWellFormedHere : Type 0
ExportWellFormedHere =
    (bad_header outward_file ≡ false) × (is_little outward_file ≡ true) × (last_place outward_file ≡ length outward_file)
    × (length (records outward_file) ≡ 3) × (wire_lengths outward_file ≡ map length (records outward_file))
    × Each ReadHere (records outward_file)

pub export_well_formed_applied : ExportWellFormed → ExportWellFormedHere
unfolding sum_to up_to those body_start nth_entry entries
export_well_formed_applied theorem =
    let file = theorem by capture there addressed goes_out in
    let read : (r : List ℕ) → WellFormed r → ReadHere r =
    λ r formed.
    record {
      ipv4 = (formed.its_type, formed.its_version, formed.its_header, formed.not-cut);
      as_long = formed.its_length;
      summed = formed.its_sum;
      udp = λ over. ((formed.its_ports over).0, (formed.its_ports over).1, formed.its_udp_length over);
    }
    in (
      file.header-good,
      file.little_endian,
      file.to_its_end,
      file.as_many,
      file.kept_whole,
      each_so read (records outward_file) file.each,
    )

-- `import_never_invents` and `import_adds_up`, applied: what came from the site, with two sessions named
abbrev site_room : List ℕ
site_room = replicate 31 7

comes_in : (imported (0x101 ∷ 0 ∷ []) site site_room).answer.code ≡ 0
unfolding part put joined those sum_to is_little wrong_fields bad_header whole start size after bytes_at records_from place_from
    first_place records last_place skip_of entry_of entries_of skipped all_entries file_of imported_by imported
comes_in = refl

abbrev came : ImportOutcome
came = imported (0x101 ∷ 0 ∷ []) site site_room

pub record TakenHere (e : Entry) : Type 0 where
  pub from : ℕ
  pub inside : from + length e.body ≤ 451
  pub its_bytes : e.body ≡ part site from (length e.body)

abbrev pub ImportNeverInventsHere : Type 0
ImportNeverInventsHere =
    (file_refusal (capture_in came) ≡ 0)
    × (entries (capture_in came)
    ≡ record { kind = 1; body = 0 ∷ 0 ∷ 1 ∷ 1 ∷ [] } ∷ record { kind = 1; body = 0 ∷ 0 ∷ 0 ∷ 0 ∷ [] } ∷ entries_of (records site))
    × Each (λ e. is_data e ≡ true) (entries_of (records site))
    × Each TakenHere (entries_of (records site))

pub import_never_invents_applied : ImportNeverInvents → ImportNeverInventsHere
import_never_invents_applied theorem =
    let nothing = theorem (0x101 ∷ 0 ∷ []) site site_room comes_in in
    let taken : (e : Entry) → Stretch site e → TakenHere e =
    λ e stretch. record { from = stretch.from; inside = stretch.inside; its_bytes = stretch.its_bytes } in (
      nothing.sound,
      nothing.its_entries,
      nothing.are_data,
      each_so taken (entries_of (records site)) nothing.from_the_file,
    )

abbrev pub ImportAddsUpHere : Type 0
ImportAddsUpHere =
    came.answer.packets + came.answer.foreign + came.answer.misfits + came.answer.fragments + came.answer.others
    ≡ length (records site)

pub import_adds_up_applied : ImportAddsUp → ImportAddsUpHere
import_adds_up_applied theorem = theorem (0x101 ∷ 0 ∷ []) site site_room comes_in

-- `either_order`, applied: an empty packet and one of three bytes
abbrev two-packets : List (List ℕ)
two-packets = [] ∷ (1 ∷ 2 ∷ 3 ∷ []) ∷ []

short-enough : Each (λ p. length p < 4294967296) two-packets
short-enough = (omega arith, (omega arith, tt))

abbrev pub EitherOrderHere : Type 0
EitherOrderHere =
    (bad_header (pcap_of false two-packets) ≡ false)
    × (records (pcap_of false two-packets) ≡ [] ∷ (1 ∷ 2 ∷ 3 ∷ []) ∷ [])
    × (last_place (pcap_of false two-packets) ≡ length (pcap_of false two-packets))
    × (records (pcap_of true two-packets) ≡ [] ∷ (1 ∷ 2 ∷ 3 ∷ []) ∷ [])
    × (imported (0x101 ∷ []) (pcap_of true two-packets) here ≡ imported (0x101 ∷ []) (pcap_of false two-packets) here)

pub either_order_applied : EitherOrder → EitherOrderHere
either_order_applied theorem =
    let big = theorem.reads_back false two-packets short-enough in (
      big.0,
      big.1,
      big.2,
      (theorem.reads_back true two-packets short-enough).1,
      theorem.imports_alike two-packets short-enough (0x101 ∷ []) here,
    )

-- `reader_hands_out`, applied: the exported file, where it lies
abbrev outward_lies : Bor (List ℕ)
outward_lies = record { ref_ptr = (5, 200); now = outward }

abbrev pub ReaderHandsOutHere : Type 0
ReaderHandsOutHere = handed_out 187 (opened outward_lies) ≡ part outward 40 37 ∷ part outward 93 44 ∷ part outward 153 34 ∷ []

pub reader_hands_out_applied : ReaderHandsOut → ReaderHandsOutHere
unfolding part is_little wrong_fields bad_header whole start size after bytes_at records_from first_place records
reader_hands_out_applied theorem = theorem outward_lies
