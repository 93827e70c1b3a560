-- What any reader looks at in a pcap file and in its packets, and finds right in an export (document 02, W5).
use Rattle.std.specs.Prelude.{ℕ, ◌+◌, ◌≡◌, true, false, List, map, length}
use Rattle.octets.specs.Bytes.{be16_at}
use Rattle.octets.specs.Stretch.{part}
use Rattle.octets.specs.Each.{Each}
use Rattle.pcap.specs.File.{is_little, bad_header, records, wire_lengths, last_place}
use Rattle.pcap.specs.Ethernet.{ethernet_length, ipv4_type, ether_type}
use Rattle.pcap.specs.Ipv4.{ipv4_at, ipv4_length, version, header_length, total_length, fragment_bits, payload_at, payload_length, ones_sum}
use Rattle.pcap.specs.Udp.{l2tp_port, target_port, length_said}
use Rattle.pcap.specs.Judge.{is_udp}

-- A packet: an Ethernet packet of type IPv4 with a header of version 4 and 20 bytes, whole, whose length is that of the
-- record, and whose ones' complement sum with the checksum is 0xFFFF (RFC 1071); over UDP with L2TP's ports and a length that fills the IP
-- packet.
pub record WellFormed (r : List ℕ) : Type 0 where
  pub its_type : ether_type r ≡ ipv4_type
  pub its_version : version r ≡ 4
  pub its_header : header_length r ≡ ipv4_length
  pub its_length : ethernet_length + total_length r ≡ length r
  pub not-cut : fragment_bits r ≡ 0
  pub its_sum : ones_sum (part r ipv4_at ipv4_length) ≡ 65535
  pub its_ports : is_udp r ≡ true → (be16_at r (payload_at r) ≡ l2tp_port) × (target_port r ≡ l2tp_port)
  pub its_udp_length : is_udp r ≡ true → length_said r ≡ payload_length r

-- A file: a classic pcap file, least significant byte first, of whole records to its end, so many; each is kept as long as it was on the
-- wire, and well formed.
pub record WellFormedFile (file : List ℕ) (packets : ℕ) : Type 0 where
  pub header-good : bad_header file ≡ false
  pub little_endian : is_little file ≡ true
  pub to_its_end : last_place file ≡ length file
  pub as_many : length (records file) ≡ packets
  pub kept_whole : wire_lengths file ≡ map length (records file)
  pub each : Each WellFormed (records file)
