-- The fixed part of a data packet (document 01, "Packet layout"; DEPI I05, sections 8.1.3, 8.2 and 8.3; document 02, W1). First comes the
-- session ID, of four bytes; 0 marks a control message. Over UDP four more bytes stand before it (RFC 3931, section 4.1.2.1). What follows
-- the session ID is called `sub`: the sub-layer header and all behind that. Places are counted from the start of `sub`, so the paper's byte
-- 4 is byte 0 here, its byte 5 is byte 1 and its bytes 6-7 are bytes 2-3, whatever the transport.
--
--    0                   1                   2                   3
--    0 1 2 3 4 5 6 7 8 9 0 1 2 3 4 5 6 7 8 9 0 1 2 3 4 5 6 7 8 9 0 1
--   +-+-+-+-+-+-+-+-+-+-+-+-+-+-+-+-+-+-+-+-+-+-+-+-+-+-+-+-+-+-+-+-+
--   |T|. . . . . . .|. . . .|version|. . . . . . . . . . . . . . . .|   over UDP alone
--   +-+-+-+-+-+-+-+-+-+-+-+-+-+-+-+-+-+-+-+-+-+-+-+-+-+-+-+-+-+-+-+-+
--   |                          session ID                           |
--   +-+-+-+-+-+-+-+-+-+-+-+-+-+-+-+-+-+-+-+-+-+-+-+-+-+-+-+-+-+-+-+-+
--   |V|S| H |X| flow|X|    count    |        sequence number        |   `sub` starts here; then segments, or MPEG packets
--   +-+-+-+-+-+-+-+-+-+-+-+-+-+-+-+-+-+-+-+-+-+-+-+-+-+-+-+-+-+-+-+-+
--
-- Each byte is drawn from its top bit on. X and all that is drawn as a dot is read by nobody, and in a D-MPT packet the count too.
use Rattle.std.specs.Prelude.{ℕ, ◌+◌, ◌/◌, ◌%◌, Bool, cond, not, ◌&&◌, ◌||◌, List, [], ◌∷◌, ◌++◌, eqb, ltb, length}
use Rattle.refusal.specs.Refusal.{Refusal, ◌when◌}
use Rattle.octets.specs.Bytes.{byte_at, be16_at, be32_at}
use Rattle.octets.specs.Stretch.{rest}

-- A packet as it comes in: its bytes, and the number of the transport that it came by, 1 for IP and 2 for UDP. A caller may give any
-- number.
pub record Packet : Type 0 where
  pub transport : ℕ
  pub bytes : List ℕ

abbrev pub over_ip : ℕ
over_ip = 1

abbrev pub over_udp : ℕ
over_udp = 2

abbrev pub packet_by : ℕ → List ℕ → Packet
packet_by transport bytes = record { transport = transport; bytes = bytes }

abbrev pub ip : List ℕ → Packet
ip bytes = packet_by over_ip bytes

abbrev pub udp : List ℕ → Packet
udp bytes = packet_by over_udp bytes

-- A packet as it goes over IP, and the same packet over UDP: what a sender puts before it. (That it is the same: Transports.antt in
-- proofs/.)
abbrev pub udp_front : List ℕ
udp_front = 0 ∷ 3 ∷ 0 ∷ 0 ∷ []

abbrev pub in_udp : List ℕ → Packet
in_udp bytes = udp (udp_front ++ bytes)

abbrev pub transport_unknown : Packet → Bool
transport_unknown p = not (eqb p.transport over_ip) && not (eqb p.transport over_udp)

-- How many bytes stand before the session ID. (For a transport that there is not this says 0, and decides nothing: such a packet is refused
-- before anything of it is read.)
abbrev pub udp_lead : ℕ
udp_lead = 4

abbrev pub lead_of : ℕ → ℕ
lead_of transport = cond (eqb transport over_udp) udp_lead 0

abbrev pub lead : Packet → ℕ
lead p = lead_of p.transport

-- what stands there: T, which marks a control message, with what it is worth in its byte; and the version of L2TP, with how many values it
-- has, in the low bits
abbrev pub t_bit : ℕ
t_bit = 128

abbrev pub t_set : List ℕ → Bool
t_set bytes = eqb (byte_at bytes 0 / t_bit % 2) 1

abbrev pub version_values : ℕ
version_values = 16

abbrev pub version : List ℕ → ℕ
version bytes = byte_at bytes 1 % version_values

-- refusal 15: T set, or another version than 3; over IP there is neither
abbrev pub not_version3 : Packet → Bool
not_version3 p = eqb p.transport over_udp && (t_set p.bytes || not (eqb (version p.bytes) 3))

abbrev pub id_length : ℕ
id_length = 4

abbrev pub session_id : Packet → ℕ
session_id p = be32_at p.bytes (lead p)

abbrev pub sub : Packet → List ℕ
sub p = rest p.bytes (lead p + id_length)

-- the sub-layer header: its length, and its fields
abbrev pub header_length : ℕ
header_length = 4

-- V, S and the lower bit of H: what each is worth in its byte, and what it says
abbrev pub v_bit : ℕ
v_bit = 128

abbrev pub v_set : List ℕ → Bool
v_set sub = eqb (byte_at sub 0 / v_bit % 2) 1

abbrev pub s_bit : ℕ
s_bit = 64

abbrev pub s_set : List ℕ → Bool
s_set sub = eqb (byte_at sub 0 / s_bit % 2) 1

abbrev pub h_bit : ℕ
h_bit = 16

abbrev pub h_values : ℕ
h_values = 4

abbrev pub h_bits : List ℕ → ℕ
h_bits sub = byte_at sub 0 / h_bit % h_values

-- the flow ID and the count of segments, in the low bits of their bytes: how many values each has, and what it says; and the number
abbrev pub flow_values : ℕ
flow_values = 8

abbrev pub flow_id : List ℕ → ℕ
flow_id sub = byte_at sub 0 % flow_values

abbrev pub count_values : ℕ
count_values = 128

abbrev pub segment_count : List ℕ → ℕ
segment_count sub = byte_at sub 1 % count_values

abbrev pub number : List ℕ → ℕ
number sub = be16_at sub 2

-- refusal 6: V set, or H not 00
abbrev pub not_plain : List ℕ → Bool
not_plain sub = v_set sub || not (eqb (h_bits sub) 0)

-- a packet over IP has 8 to 4,100 bytes, and over UDP 12 to 4,104
abbrev pub shortest_packet : ℕ
shortest_packet = 8

abbrev pub longest_packet : ℕ
longest_packet = 4100

abbrev pub too_short : Packet → Bool
too_short p = ltb (length p.bytes) (lead p + shortest_packet)

abbrev pub too_long : Packet → Bool
too_long p = ltb (lead p + longest_packet) (length p.bytes)

-- What is judged before anything is known of the session, for PSP and D-MPT alike: 24 for the transport, then 2, 3, 15 and 4.
abbrev pub before_session : Packet → List Refusal
before_session p =
    24 when transport_unknown p
    ∷ 2 when too_short p
    ∷ 3 when too_long p
    ∷ 15 when not_version3 p
    ∷ 4 when eqb (session_id p) 0
    ∷ []
