-- Inside: what functions promise each other on the way to a result. Nobody has to believe this file: the result is said without it.
-- Here: how an export is measured and written entry by entry. The file that it makes is specs/Export.antt's.
use Rattle.std.specs.Prelude.{ℕ, ◌+◌, ◌≤◌, true, cond, ◌||◌, List, [], ◌++◌, eqb}
use Rattle.octets.specs.Count.{sum_to}
use Rattle.capture.specs.File.{head_length, entry_length, open_psp, open_dmpt, closing, data_entry, data_over_udp, kind_at, body_length}
use Rattle.capture.specs.File.{Entry}
use Rattle.pcap.specs.declared.Addresses.{Addresses}
use Rattle.pcap.specs.declared.export.Exported.{Exported}
use Rattle.pcap.specs.File.{file_header, record_header, record_header_in, record_in}
use Rattle.pcap.specs.Ethernet.{ethernet_length, ethernet_header}
use Rattle.pcap.specs.Ipv4.{ipv4_length, ipv4_header}
use Rattle.pcap.specs.Udp.{udp_length}
use Rattle.pcap.specs.Export.{is_data, packet_of}

-- the headers of a record up to what its IPv4 packet carries, `size` bytes of the protocol `carried`; and how long they are
abbrev pub front_length : ℕ
front_length = record_header + ethernet_length + ipv4_length

abbrev pub front_of : Addresses → ℕ → ℕ → List ℕ
front_of by size carried =
    record_header_in true (ethernet_length + ipv4_length + size) ++ ethernet_header by ++ ipv4_header by (ipv4_length + size) carried

-- the record of an entry, if it has one
abbrev pub record_of : Addresses → Entry → List ℕ
record_of by e = cond (is_data e) (record_in true (packet_of by e)) []

-- .. and its length, by the entry's kind and the length of its body
abbrev pub record_length : ℕ → ℕ → ℕ
record_length kind size =
    cond (eqb kind data_entry || eqb kind data_over_udp) (front_length + cond (eqb kind data_over_udp) udp_length 0 + size) 0

-- a measure, with one more entry; and what the first n entries of a file come to
abbrev pub counted_with : Exported → ℕ → ℕ → Exported
counted_with m kind size =
    record {
      length = m.length + record_length kind size;
      packets = m.packets + cond (eqb kind data_entry || eqb kind data_over_udp) 1 0;
      opens = m.opens + cond (eqb kind open_psp || eqb kind open_dmpt) 1 0;
      closes = m.closes + cond (eqb kind closing) 1 0;
    }

unfoldable pub measured_to : List ℕ → ℕ → Exported
measured_to file n =
    let kind = kind_at head_length entry_length file in
    record {
      length = file_header + sum_to (λ k. record_length (kind k) (body_length head_length entry_length file k)) n;
      packets = sum_to (λ k. cond (eqb (kind k) data_entry || eqb (kind k) data_over_udp) 1 0) n;
      opens = sum_to (λ k. cond (eqb (kind k) open_psp || eqb (kind k) open_dmpt) 1 0) n;
      closes = sum_to (λ k. cond (eqb (kind k) closing) 1 0) n;
    }

-- far from the end of counting
pub record Unhurried (m : Exported) : Type 0 where
  pub few_bytes : m.length ≤ 4294967296
  pub few-packets : m.packets ≤ 65536
  pub few-opens : m.opens ≤ 65536
  pub few-closes : m.closes ≤ 65536
