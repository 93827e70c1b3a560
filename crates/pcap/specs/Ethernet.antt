-- The Ethernet header (IEEE 802.3) at the front of a record: to whom, from whom, and what follows. A packet of another type than IPv4 is
-- not read further; one with a VLAN tag is such a packet, since document 02, W5, says nothing of tags.
--
--    0                   1                   2                   3
--    0 1 2 3 4 5 6 7 8 9 0 1 2 3 4 5 6 7 8 9 0 1 2 3 4 5 6 7 8 9 0 1
--   +-+-+-+-+-+-+-+-+-+-+-+-+-+-+-+-+-+-+-+-+-+-+-+-+-+-+-+-+-+-+-+-+
--   |                      receiver's address                       |    0
--   +                               +-+-+-+-+-+-+-+-+-+-+-+-+-+-+-+-+
--   |                               |       sender's address        |    4
--   +-+-+-+-+-+-+-+-+-+-+-+-+-+-+-+-+                               +
--   |                                                               |    8
--   +-+-+-+-+-+-+-+-+-+-+-+-+-+-+-+-+-+-+-+-+-+-+-+-+-+-+-+-+-+-+-+-+
--   |    EtherType: 0x0800, IPv4    |                                   12
--   +-+-+-+-+-+-+-+-+-+-+-+-+-+-+-+-+
use Rattle.std.specs.Prelude.{ℕ, List, ◌++◌}
use Rattle.octets.specs.Bytes.{be16_at, two}
use Rattle.pcap.specs.declared.Addresses.{Addresses}

abbrev pub ethernet_length : ℕ
ethernet_length = 14

abbrev pub ipv4_type : ℕ
ipv4_type = 0x0800

abbrev pub ether_type : List ℕ → ℕ
ether_type r = be16_at r 12

abbrev pub ethernet_header : Addresses → List ℕ
ethernet_header by = by.receiver ++ by.sender ++ two ipv4_type
