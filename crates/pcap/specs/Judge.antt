-- What becomes of a record (document 02, W5): a data entry, or it is skipped by the first cause that applies: not IPv4, bad lengths, a
-- fragment, another protocol or port. A packet ends where its IP length says, and over UDP where the UDP length says, not where the record
-- does: Ethernet pads short ones. UDP lengths are judged of whole packets alone, since a later fragment has no UDP header. Checksums, D and
-- the source port are read by nobody.
use Rattle.std.specs.Prelude.{ℕ, zero, suc, ◌+◌, ◌-◌, Bool, cond, not, ◌&&◌, ◌||◌, List, [], ◌∷◌, eqb, ltb, length, Result, Ok, Err}
use Rattle.refusal.specs.Refusal.{Refusal, ◌when◌, first}
use Rattle.octets.specs.Stretch.{part}
use Rattle.capture.specs.File.{data_entry, data_over_udp, Entry}
use Rattle.capture.specs.Kind as entry
use Rattle.pcap.specs.declared.judge.Cause.{Cause}
use Rattle.pcap.specs.declared.judge.Cause.TheVariants as cause
use Rattle.pcap.specs.declared.judge.Data.{Data}
use Rattle.pcap.specs.Ethernet.{ethernet_length, ipv4_type, ether_type}
use Rattle.pcap.specs.Ipv4.{ipv4_at, ipv4_length, l2tp_protocol, udp_protocol, version, header_length, total_length, fragment_bits}
use Rattle.pcap.specs.Ipv4.{protocol}
use Rattle.pcap.specs.Ipv4.{payload_at, payload_length}
use Rattle.pcap.specs.Udp.{udp_length, l2tp_port, target_port, length_said}

-- too short for an Ethernet header, of another type, or of another version where there is a byte that says it
abbrev pub not_ipv4 : List ℕ → Bool
not_ipv4 r =
    ltb (length r) ethernet_length
    || not (eqb (ether_type r) ipv4_type)
    || (ltb ipv4_at (length r) && not (eqb (version r) 4))

-- no room for a header, a header that is too short, a packet that ends in its header, or one that runs past the record
abbrev pub bad_ipv4_lengths : List ℕ → Bool
bad_ipv4_lengths r =
    ltb (length r) (ipv4_at + ipv4_length)
    || ltb (header_length r) ipv4_length
    || ltb (total_length r) (header_length r)
    || ltb (length r) (ipv4_at + total_length r)

abbrev pub is_fragment : List ℕ → Bool
is_fragment r = not (eqb (fragment_bits r) 0)

abbrev pub is_udp : List ℕ → Bool
is_udp r = eqb (protocol r) udp_protocol

-- no room for a header, a length that ends in it, or one that runs past the packet
abbrev pub bad_udp_lengths : List ℕ → Bool
bad_udp_lengths r =
    ltb (payload_length r) udp_length
    || ltb (length_said r) udp_length
    || ltb (payload_length r) (length_said r)

-- Data is what has the protocol of L2TP, or goes to its port over UDP.
abbrev pub is_l2tp : List ℕ → Bool
is_l2tp r = eqb (protocol r) l2tp_protocol || (is_udp r && eqb (target_port r) l2tp_port)

-- The causes, by number, in the order in which they are tried: 1 not IPv4, 2 bad lengths, 3 a fragment, 4 another protocol or port. The
-- lengths of UDP come behind the fragments.
abbrev pub skips : List ℕ → List Refusal
skips r =
    1 when not_ipv4 r
    ∷ 2 when bad_ipv4_lengths r
    ∷ 3 when is_fragment r
    ∷ 2 when (is_udp r && bad_udp_lengths r)
    ∷ 4 when not (is_l2tp r)
    ∷ []

unfoldable pub skip_of : List ℕ → ℕ
skip_of r = first (skips r)

-- the data of a record that is not skipped: where it begins, how long it is, and its entry
abbrev pub data_at : List ℕ → ℕ
data_at r = cond (is_udp r) (payload_at r + udp_length) (payload_at r)

abbrev pub data_length : List ℕ → ℕ
data_length r = cond (is_udp r) (length_said r - udp_length) (payload_length r)

unfoldable pub entry_of : List ℕ → Entry
entry_of r = record { kind = cond (is_udp r) data_over_udp data_entry; body = part r (data_at r) (data_length r) }

-- What judging a record comes to: the number of the cause; or 0, and the entry by its kind and place. And what an answer tells of it.
pub record Judged : Type 0 where
  pub cause : ℕ
  pub kind : ℕ
  pub at : ℕ
  pub length : ℕ

abbrev pub number_of : Cause → ℕ
number_of cause.NotIpv4 = 1
number_of cause.BadLengths = 2
number_of cause.Fragment = 3
number_of cause.Other = 4

abbrev pub told : Result Data Cause → Judged
told (Ok d) = record { cause = 0; kind = entry.number_of d.kind; at = d.at; length = d.length }
told (Err c) = record { cause = number_of c; kind = 0; at = 0; length = 0 }

unfoldable pub judged_by : ℕ → List ℕ → Judged
judged_by zero r = record { cause = 0; kind = cond (is_udp r) data_over_udp data_entry; at = data_at r; length = data_length r }
judged_by (suc c) r = record { cause = suc c; kind = 0; at = 0; length = 0 }

abbrev pub judged : List ℕ → Judged
judged r = judged_by (skip_of r) r
