-- The UDP header (RFC 768), behind the IPv4 header of a record.
--
--    0                   1                   2                   3
--    0 1 2 3 4 5 6 7 8 9 0 1 2 3 4 5 6 7 8 9 0 1 2 3 4 5 6 7 8 9 0 1
--   +-+-+-+-+-+-+-+-+-+-+-+-+-+-+-+-+-+-+-+-+-+-+-+-+-+-+-+-+-+-+-+-+
--   |          source port          |          target port          |    0
--   +-+-+-+-+-+-+-+-+-+-+-+-+-+-+-+-+-+-+-+-+-+-+-+-+-+-+-+-+-+-+-+-+
--   |            length             |           checksum            |    4   length: of header and data; checksum 0: none
--   +-+-+-+-+-+-+-+-+-+-+-+-+-+-+-+-+-+-+-+-+-+-+-+-+-+-+-+-+-+-+-+-+
use Rattle.std.specs.Prelude.{ℕ, ◌+◌, List, ◌++◌}
use Rattle.octets.specs.Bytes.{be16_at, two}
use Rattle.pcap.specs.Ipv4.{payload_at}

abbrev pub udp_length : ℕ
udp_length = 8

-- the port of L2TP, and so of DEPI (DEPI I05, section 7)
abbrev pub l2tp_port : ℕ
l2tp_port = 1701

-- Reading the header of a record.
abbrev pub target_port : List ℕ → ℕ
target_port r = be16_at r (payload_at r + 2)

abbrev pub length_said : List ℕ → ℕ
length_said r = be16_at r (payload_at r + 4)

-- Writing one: both ports those of L2TP, no checksum.
abbrev pub udp_header : ℕ → List ℕ
udp_header n = two l2tp_port ++ two l2tp_port ++ two (udp_length + n) ++ two 0
