-- What is exported is well formed for any reader: each packet, by what its headers say, and the file.
use Prim.Native.Nat.{ℕ, ◌+◌, ◌≤◌, ◌<◌}
use mathlib.Core.Path.{◌≡◌, refl, sym, ap, subst, ◌∙◌}
use mathlib.Core.Bool.{Bool, true, false, true≢false}
use mathlib.Core.List.{List, ◌++◌, map}
use native.Mathlib.Omega.{arith}
use lib.ListN.{length, length-map}
use Rattle.octets.specs.Bytes.{be16_at}
use Rattle.octets.specs.Stretch.{part}
use Rattle.octets.specs.Each.{Each}
use Rattle.octets.specs.Those.{those}
use Rattle.octets.proofs.Elements.{each_too, each_map}
use Rattle.octets.proofs.Stretches.{part-between}
use Rattle.capture.specs.File.{Entry}
use Rattle.pcap.specs.declared.Addresses.{Addresses}
use Rattle.pcap.specs.Ethernet.{ethernet_header}
use Rattle.pcap.specs.Ipv4.{ipv4_at, ipv4_length, l2tp_protocol, udp_protocol}
use Rattle.pcap.specs.Ipv4.{payload_at, ones_sum, ipv4_header}
use Rattle.pcap.specs.Udp.{l2tp_port}
use Rattle.pcap.specs.Judge.{is_udp}
use Rattle.pcap.specs.Export.{is_over_udp, is_data, packet_of, export_of}
use Rattle.pcap.specs.WellFormed.{WellFormed, WellFormedFile}
use Rattle.pcap.proofs.Packets.{length-ethernet}
use Rattle.pcap.proofs.Checksum.{header_sums}
use Rattle.pcap.proofs.ReadsBack.{order_reads_back, wire_reads_back}
use Rattle.pcap.proofs.ComesBack as back

module _ (by : Addresses) (six-sender : length by.sender ≡ 6) (six-receiver : length by.receiver ≡ 6) where
  -- the sum of the header, which stands behind the Ethernet header
  summed : (carried : ℕ) (payload : List ℕ) → length payload ≤ 60008 → carried < 256 →
      ones_sum (part (ethernet_header by ++ ipv4_header by (ipv4_length + length payload) carried ++ payload) ipv4_at ipv4_length) ≡ 65535
  summed carried payload short small =
      let internet = ipv4_header by (ipv4_length + length payload) carried in
      let there : part (ethernet_header by ++ internet ++ payload) ipv4_at ipv4_length ≡ internet =
      subst (λ (at : ℕ). part (ethernet_header by ++ internet ++ payload) at ipv4_length ≡ internet)
      (length-ethernet by six-sender six-receiver) (part-between (ethernet_header by) internet payload) in
      ap ones_sum there ∙ header_sums by (ipv4_length + length payload) carried (omega arith) small

  -- over IP
  module _ (body : List ℕ) (short : length body ≤ 60000) where
    ip_formed : WellFormed (back.over_ip by six-sender six-receiver body short)
    ip_formed =
        let r = back.over_ip by six-sender six-receiver body short in
        let fits = back.enough by six-sender six-receiver body short in
        let no_udp : is_udp r ≡ false = rw (back.ip-protocol by six-sender six-receiver body short) refl in
        let its-first = back.first_byte by six-sender six-receiver l2tp_protocol body fits in
        record {
          its_type = back.its_type by six-sender six-receiver l2tp_protocol body fits;
          its_version = rw its-first refl;
          its_header = back.its_header by six-sender six-receiver l2tp_protocol body fits;
          its_length =
              omega (
                arith,
                back.its_total by six-sender six-receiver l2tp_protocol body fits,
                back.packet_long by six-sender six-receiver l2tp_protocol body fits,
              );
          not-cut = rw (back.its_fragment_bits by six-sender six-receiver l2tp_protocol body fits) refl;
          its_sum = summed l2tp_protocol body fits (omega arith);
          its_ports = λ over. absurd (true≢false (sym over ∙ no_udp));
          its_udp_length = λ over. absurd (true≢false (sym over ∙ no_udp));
        }

  -- over UDP
  module _ (body : List ℕ) (short : length body ≤ 60000) where
    udp_formed : WellFormed (back.over_udp_lem by six-sender six-receiver body short)
    udp_formed =
        let r = back.over_udp_lem by six-sender six-receiver body short in
        let datagram = back.datagram by six-sender six-receiver body short in
        let fits = back.datagram_short by six-sender six-receiver body short in
        let its-first = back.first_byte by six-sender six-receiver udp_protocol datagram fits in
        let source : be16_at r (payload_at r) ≡ l2tp_port =
        back.number_behind by six-sender six-receiver udp_protocol datagram fits (payload_at r) 0 (omega arith) in
        record {
          its_type = back.its_type by six-sender six-receiver udp_protocol datagram fits;
          its_version = rw its-first refl;
          its_header = back.its_header by six-sender six-receiver udp_protocol datagram fits;
          its_length =
              omega (
                arith,
                back.its_total by six-sender six-receiver udp_protocol datagram fits,
                back.packet_long by six-sender six-receiver udp_protocol datagram fits,
              );
          not-cut = rw (back.its_fragment_bits by six-sender six-receiver udp_protocol datagram fits) refl;
          its_sum = summed udp_protocol datagram fits (omega arith);
          its_ports = λ over. (source, back.its_port by six-sender six-receiver body short);
          its_udp_length = λ over.
              omega (
                arith,
                back.its_said by six-sender six-receiver body short,
                back.payload_long by six-sender six-receiver udp_protocol datagram fits,
                back.datagram_long by six-sender six-receiver body short,
              );
        }

  formed_by : (e : Entry) (short : length e.body ≤ 60000) (over : Bool) → is_over_udp e ≡ over → WellFormed (packet_of by e)
  formed_by e short true is =
      subst WellFormed (sym (back.packet_by by six-sender six-receiver e short true is)) (udp_formed e.body short)
  formed_by e short false is =
      subst WellFormed (sym (back.packet_by by six-sender six-receiver e short false is)) (ip_formed e.body short)

  -- the file
  module _ (es : List Entry) (short : Each (λ e. length e.body ≤ 60000) es) where
    each_formed : Each WellFormed (map (packet_of by) (those is_data es))
    each_formed =
        each_map (packet_of by) WellFormed (those is_data es)
        (each_too (back.ShortData by six-sender six-receiver) (λ e. WellFormed (packet_of by e)) (those is_data es)
        (λ e s. formed_by e s.1 (is_over_udp e) refl)
        (back.sent-short by six-sender six-receiver es short))

    pub export_formed : WellFormedFile (export_of by es) (length (those is_data es))
    unfolding export_of
    export_formed =
        let these = back.export_records by six-sender six-receiver es short in
        let packets = map (packet_of by) (those is_data es) in
        record {
          header-good = back.export_header by six-sender six-receiver es short;
          little_endian = order_reads_back true packets;
          to_its_end = back.export_ends by six-sender six-receiver es short;
          as_many = ap length these ∙ length-map (those is_data es) (packet_of by);
          kept_whole =
              wire_reads_back true packets (back.sent_sayable by six-sender six-receiver es short) ∙ ap (map length) (sym these);
          each = subst (Each WellFormed) (sym these) each_formed;
        }
