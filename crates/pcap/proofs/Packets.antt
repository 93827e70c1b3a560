-- How long the headers are, the packet of a data entry, and its record. The addresses of Ethernet have six bytes each: a value of their
-- type has, and the laws ask for it.
use Prim.Native.Nat.{ℕ, ◌+◌}
use mathlib.Core.Path.{◌≡◌, refl, ap, ◌∙◌}
use mathlib.Core.Bool.{Bool, true, false, cond}
use mathlib.Core.List.{List, [], ◌++◌}
use native.Mathlib.Omega.{arith}
use lib.ListN.{length, length-append}
use Rattle.octets.specs.Bytes.{two}
use Rattle.capture.specs.File.{Entry}
use Rattle.pcap.specs.declared.Addresses.{Addresses}
use Rattle.pcap.specs.File.{file_header, record_header, file_header_in, record_header_in, record_in}
use Rattle.pcap.specs.Ethernet.{ethernet_length, ipv4_type, ethernet_header}
use Rattle.pcap.specs.Ipv4.{ipv4_length, l2tp_protocol, udp_protocol, ipv4_header}
use Rattle.pcap.specs.Udp.{udp_length, udp_header}
use Rattle.pcap.specs.Export.{is_over_udp, behind_ipv4, packet_of}

-- The file's header and a record's, in either byte order.
pub length-file_header : (little : Bool) → length (file_header_in little) ≡ file_header
length-file_header true = refl
length-file_header false = refl

pub length_record_header : (little : Bool) (n : ℕ) → length (record_header_in little n) ≡ record_header
length_record_header true n = refl
length_record_header false n = refl

pub length_record : (little : Bool) (bytes : List ℕ) → length (record_in little bytes) ≡ record_header + length bytes
length_record little bytes =
    let header = record_header_in little (length bytes) in
    length-append header bytes ∙ ap (λ (n : ℕ). n + length bytes) (length_record_header little (length bytes))

-- The headers of a packet.
pub length-ethernet : (by : Addresses) → length by.sender ≡ 6 → length by.receiver ≡ 6 → length (ethernet_header by) ≡ ethernet_length
length-ethernet by sender receiver =
    omega (arith, length-append (by.receiver ++ by.sender) (two ipv4_type), length-append by.receiver by.sender)

pub length_ipv4 : (by : Addresses) (total carried : ℕ) → length (ipv4_header by total carried) ≡ ipv4_length
length_ipv4 by total carried = refl

pub length-udp : (n : ℕ) → length (udp_header n) ≡ udp_length
length-udp n = refl

-- what stands behind the IPv4 header, and the whole packet
behind_by : (over_udp_lem : Bool) (body : List ℕ) →
    length (cond over_udp_lem (udp_header (length body)) [] ++ body) ≡ cond over_udp_lem udp_length 0 + length body
behind_by true body = length-append (udp_header (length body)) body
behind_by false body = omega arith

pub length_behind : (e : Entry) → length (behind_ipv4 e) ≡ cond (is_over_udp e) udp_length 0 + length e.body
length_behind e = behind_by (is_over_udp e) e.body

pub length-packet : (by : Addresses) → length by.sender ≡ 6 → length by.receiver ≡ 6 → (e : Entry) →
    length (packet_of by e) ≡ ethernet_length + ipv4_length + cond (is_over_udp e) udp_length 0 + length e.body
unfolding packet_of
length-packet by sender receiver e =
    let internet = ipv4_header by (ipv4_length + length (behind_ipv4 e)) (cond (is_over_udp e) udp_protocol l2tp_protocol) in
    omega (
      arith,
      length-append (ethernet_header by ++ internet) (behind_ipv4 e),
      length-append (ethernet_header by) internet,
      length-ethernet by sender receiver,
      length_behind e,
    )
