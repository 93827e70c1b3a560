-- The IPv4 header (RFC 791), behind the Ethernet header of a record.
--
--    0                   1                   2                   3
--    0 1 2 3 4 5 6 7 8 9 0 1 2 3 4 5 6 7 8 9 0 1 2 3 4 5 6 7 8 9 0 1
--   +-+-+-+-+-+-+-+-+-+-+-+-+-+-+-+-+-+-+-+-+-+-+-+-+-+-+-+-+-+-+-+-+
--   |version|  IHL  |type of service|         total length          |    0   IHL: the header's length, in words of 4 bytes
--   +-+-+-+-+-+-+-+-+-+-+-+-+-+-+-+-+-+-+-+-+-+-+-+-+-+-+-+-+-+-+-+-+
--   |        identification         |0 D M|     fragment offset     |    4   D: not to be cut, M: more fragments follow
--   +-+-+-+-+-+-+-+-+-+-+-+-+-+-+-+-+-+-+-+-+-+-+-+-+-+-+-+-+-+-+-+-+
--   | time to live  |   protocol    |        header checksum        |    8
--   +-+-+-+-+-+-+-+-+-+-+-+-+-+-+-+-+-+-+-+-+-+-+-+-+-+-+-+-+-+-+-+-+
--   |                        source address                         |   12
--   +-+-+-+-+-+-+-+-+-+-+-+-+-+-+-+-+-+-+-+-+-+-+-+-+-+-+-+-+-+-+-+-+
--   |                        target address                         |   16
--   +-+-+-+-+-+-+-+-+-+-+-+-+-+-+-+-+-+-+-+-+-+-+-+-+-+-+-+-+-+-+-+-+
--   |                     options, where IHL > 5                    |   20
--   +-+-+-+-+-+-+-+-+-+-+-+-+-+-+-+-+-+-+-+-+-+-+-+-+-+-+-+-+-+-+-+-+
use Rattle.std.specs.Prelude.{ℕ, ◌+◌, ◌-◌, ◌*◌, ◌/◌, ◌%◌, List, [], ◌∷◌, ◌++◌}
use Rattle.octets.specs.Bytes.{byte_at, be16_at, two, four}
use Rattle.octets.specs.Count.{sum_to}
use Rattle.pcap.specs.declared.Addresses.{Addresses}
use Rattle.pcap.specs.Ethernet.{ethernet_length}

-- how long it is without options
abbrev pub ipv4_length : ℕ
ipv4_length = 20

-- The protocols that are taken.
abbrev pub l2tp_protocol : ℕ
l2tp_protocol = 115

abbrev pub udp_protocol : ℕ
udp_protocol = 17

-- Reading the header of a record.
abbrev pub ipv4_at : ℕ
ipv4_at = ethernet_length

abbrev pub version : List ℕ → ℕ
version r = byte_at r ipv4_at / 16

abbrev pub header_length : List ℕ → ℕ
header_length r = 4 * (byte_at r ipv4_at % 16)

abbrev pub total_length : List ℕ → ℕ
total_length r = be16_at r (ipv4_at + 2)

-- M and the offset: both are 0 in a packet that was not cut
abbrev pub fragment_bits : List ℕ → ℕ
fragment_bits r = be16_at r (ipv4_at + 6) % 16384

abbrev pub protocol : List ℕ → ℕ
protocol r = byte_at r (ipv4_at + 9)

-- what stands behind the header, options counted to the header: where it begins, and how long it is
abbrev pub payload_at : List ℕ → ℕ
payload_at r = ipv4_at + header_length r

abbrev pub payload_length : List ℕ → ℕ
payload_length r = total_length r - header_length r

-- The checksum (RFC 791, RFC 1071): the numbers of two bytes added up, what is over 16 bits added in again, twice, and all bits turned
-- over.
abbrev pub word_sum : List ℕ → ℕ → ℕ
word_sum bytes n = sum_to (λ i. be16_at bytes (2 * i)) n

abbrev pub folded : ℕ → ℕ
folded n = n % 65536 + n / 65536

-- the ones' complement sum of a header without options
abbrev pub ones_sum : List ℕ → ℕ
ones_sum header = folded (folded (word_sum header 10))

abbrev pub checksum : List ℕ → ℕ
checksum header = 65535 - ones_sum header

-- Writing a header (document 02, W5): no options, time to live 64, the addresses as the caller names them, the checksum right, all else 0.
abbrev pub time_to_live : ℕ
time_to_live = 64

abbrev pub ipv4_with : Addresses → ℕ → ℕ → ℕ → List ℕ
ipv4_with by total carried check =
    0x45 ∷ 0 ∷ (two total ++ two 0 ++ two 0 ++ (time_to_live ∷ carried ∷ []) ++ two check ++ four by.source ++ four by.target)

-- the checksum is that of the header with a 0 in its place
abbrev pub ipv4_header : Addresses → ℕ → ℕ → List ℕ
ipv4_header by total carried = ipv4_with by total carried (checksum (ipv4_with by total carried 0))
