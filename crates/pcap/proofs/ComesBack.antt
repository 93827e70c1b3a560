-- What is exported comes back (document 02, W5): the packet of a data entry is judged and read as that entry, and an export that is
-- imported again has the capture's data entries, in their order, and skips nothing. Bodies are as short as a capture's, 60,000 bytes or
-- less, so that two bytes can say the packet's lengths; the addresses of Ethernet have six bytes each.
use Prim.Native.Nat.{ℕ, ◌+◌, ◌-◌, ◌≤◌, ◌<◌}
use mathlib.Core.Path.{◌≡◌, refl, sym, ap, ◌∙◌}
use mathlib.Core.Bool.{Bool, true, false, cond, and-false, or_comm}
use mathlib.Core.List.{List, ◌++◌, map, append_assoc}
use native.Mathlib.Omega.{arith}
use lib.Dec.{eqb, ltb}
use lib.ListN.{length, length-append}
use borrow.Author.Tests.{le-ltb, eqb-true, ne_eqb}
use Rattle.refusal.proofs.Laws.{none_first}
use Rattle.octets.specs.Bytes.{byte_at, be16_at, two}
use Rattle.octets.specs.Each.{Each}
use Rattle.octets.specs.Stretch.{part}
use Rattle.octets.specs.Those.{those}
use Rattle.octets.proofs.Counts.{or_true_right}
use Rattle.octets.proofs.Elements.{each_too, each_map, map_back}
use Rattle.octets.proofs.Those.{those_all, those_nothing, each-those}
use Rattle.octets.proofs.Stretches.{part_all, part-append_behind}
use Rattle.octets.proofs.Bytes.{byte_append_at}
use Rattle.octets.proofs.Numbers.{be16_append_at}
use Rattle.capture.specs.File.{data_entry, data_over_udp, Entry}
use Rattle.pcap.specs.declared.Addresses.{Addresses}
use Rattle.pcap.specs.Ethernet.{ethernet_length, ipv4_type, ether_type, ethernet_header}
use Rattle.pcap.specs.Ipv4.{ipv4_at, ipv4_length, l2tp_protocol, udp_protocol, header_length, total_length, protocol}
use Rattle.pcap.specs.Ipv4.{payload_at, payload_length, ipv4_header}
use Rattle.pcap.specs.Udp.{udp_length, l2tp_port, target_port, length_said, udp_header}
use Rattle.pcap.specs.Judge.{not_ipv4, bad_ipv4_lengths, is_fragment, is_udp, bad_udp_lengths, skips, skip_of, entry_of}
use Rattle.pcap.specs.File.{bad_header, records, last_place}
use Rattle.pcap.specs.Import.{is_for, entries_of, skipped}
use Rattle.pcap.specs.Export.{is_over_udp, is_data, packet_of, export_of}
use Rattle.pcap.proofs.Packets.{length-ethernet, length-packet}
use Rattle.pcap.proofs.ReadsBack.{header_reads_back, records_read_back, walk_ends}

-- A packet with anything behind its IPv4 header: the fields of its headers, as they are read.
module _ (by : Addresses) (six-sender : length by.sender ≡ 6) (six-receiver : length by.receiver ≡ 6) where
  module _ (carried : ℕ) (payload : List ℕ) (short : length payload ≤ 60008) where
    abbrev pub internet : List ℕ
    internet = ipv4_header by (ipv4_length + length payload) carried

    abbrev pub packet : List ℕ
    packet = ethernet_header by ++ internet ++ payload

    abbrev ends : List ℕ
    ends = by.receiver ++ by.sender

    -- behind the two addresses stand the type and the IPv4 header
    abbrev typed : List ℕ
    typed = two ipv4_type ++ (internet ++ payload)

    addressed : packet ≡ ends ++ typed
    addressed =
        append_assoc (ethernet_header by) internet payload ∙ append_assoc ends (two ipv4_type) (internet ++ payload)

    twelve : length ends ≡ 12
    twelve = omega (arith, length-append by.receiver by.sender)

    byte_typed : (at i : ℕ) → at ≡ 12 + i → byte_at packet at ≡ byte_at typed i
    byte_typed at i e = ap (λ (l : List ℕ). byte_at l at) addressed ∙ byte_append_at ends typed at i (omega (arith, e, twelve))

    number_typed : (at i : ℕ) → at ≡ 12 + i → be16_at packet at ≡ be16_at typed i
    number_typed at i e = ap (λ (l : List ℕ). be16_at l at) addressed ∙ be16_append_at ends typed at i (omega (arith, e, twelve))

    pub its_type : ether_type packet ≡ ipv4_type
    its_type = number_typed 12 0 refl

    pub first_byte : byte_at packet ipv4_at ≡ 0x45
    first_byte = byte_typed 14 2 refl

    pub its_total : total_length packet ≡ ipv4_length + length payload
    its_total = number_typed 16 4 refl ∙ omega arith

    pub its_fragment_bits : be16_at packet (ipv4_at + 6) ≡ 0
    its_fragment_bits = number_typed 20 8 refl

    pub its_protocol : protocol packet ≡ carried
    its_protocol = byte_typed 23 11 refl

    pub its_header : header_length packet ≡ ipv4_length
    its_header = rw first_byte refl

    -- so none of the causes applies that come before the protocol
    abbrev front : List ℕ
    front = ethernet_header by ++ internet

    front_long : length front ≡ ethernet_length + ipv4_length
    front_long = omega (arith, length-append (ethernet_header by) internet, length-ethernet by six-sender six-receiver)

    pub packet_long : length packet ≡ ethernet_length + ipv4_length + length payload
    packet_long = omega (arith, length-append front payload, front_long)

    is_ipv4 : not_ipv4 packet ≡ false
    is_ipv4 =
        rw (le-ltb (length packet) ethernet_length (omega (arith, packet_long)), its_type, first_byte)
        (and-false (ltb ipv4_at (length packet)))

    lengths-good : bad_ipv4_lengths packet ≡ false
    lengths-good =
        rw (
          le-ltb (length packet) (ipv4_at + ipv4_length) (omega (arith, packet_long)),
          le-ltb (header_length packet) ipv4_length (omega (arith, its_header)),
          le-ltb (total_length packet) (header_length packet) (omega (arith, its_header, its_total)),
          le-ltb (length packet) (ipv4_at + total_length packet) (omega (arith, packet_long, its_total)),
        ) refl

    not-cut : is_fragment packet ≡ false
    not-cut = rw its_fragment_bits refl

    -- and what stands behind the header is read there
    pub payload_there : payload_at packet ≡ ethernet_length + ipv4_length
    payload_there = rw first_byte refl

    pub payload_long : payload_length packet ≡ length payload
    payload_long = omega (arith, its_header, its_total)

    pub number_behind : (at i : ℕ) → at ≡ payload_at packet + i → be16_at packet at ≡ be16_at payload i
    number_behind at i e = be16_append_at front payload at i (omega (arith, e, payload_there, front_long))

    part_behind : (at i n : ℕ) → at ≡ payload_at packet + i → part packet at n ≡ part payload i n
    part_behind at i n e =
        let place : at ≡ length front + i = omega (arith, e, payload_there, front_long) in
        ap (λ (from : ℕ). part packet from n) place ∙ part-append_behind front payload i n

  -- The packet of what came over IP, ..
  module _ (body : List ℕ) (short : length body ≤ 60000) where
    abbrev pub over_ip : List ℕ
    over_ip = ethernet_header by ++ ipv4_header by (ipv4_length + length body) l2tp_protocol ++ body

    pub enough : length body ≤ 60008
    enough = omega arith

    pub ip-protocol : protocol over_ip ≡ l2tp_protocol
    ip-protocol = its_protocol l2tp_protocol body enough

    ip-taken : skip_of over_ip ≡ 0
    unfolding skip_of
    ip-taken =
        none_first (skips over_ip) (
          is_ipv4 l2tp_protocol body enough,
          (
            lengths-good l2tp_protocol body enough,
            (
              not-cut l2tp_protocol body enough,
              (
                rw ip-protocol refl,
                (
                  rw ip-protocol refl,
                  tt,
                ),
              ),
            ),
          ),
        )

    ip_entry : entry_of over_ip ≡ record { kind = data_entry; body = body }
    unfolding entry_of
    ip_entry =
        let at = payload_at over_ip in
        let its_bytes : part over_ip at (payload_length over_ip) ≡ body =
        part_behind l2tp_protocol body enough at 0 (payload_length over_ip) (omega arith)
        ∙ ap (part body 0) (payload_long l2tp_protocol body enough) ∙ part_all body in
        rw (ip-protocol, its_bytes) refl

  -- .. and of what came over UDP
  module _ (body : List ℕ) (short : length body ≤ 60000) where
    abbrev pub datagram : List ℕ
    datagram = udp_header (length body) ++ body

    abbrev pub over_udp_lem : List ℕ
    over_udp_lem = ethernet_header by ++ ipv4_header by (ipv4_length + length datagram) udp_protocol ++ datagram

    pub datagram_long : length datagram ≡ udp_length + length body
    datagram_long = length-append (udp_header (length body)) body

    pub datagram_short : length datagram ≤ 60008
    datagram_short = omega (arith, datagram_long)

    pub udp-carried : protocol over_udp_lem ≡ udp_protocol
    udp-carried = its_protocol udp_protocol datagram datagram_short

    pub its_port : target_port over_udp_lem ≡ l2tp_port
    its_port = number_behind udp_protocol datagram datagram_short (payload_at over_udp_lem + 2) 2 refl

    pub its_said : length_said over_udp_lem ≡ udp_length + length body
    its_said = number_behind udp_protocol datagram datagram_short (payload_at over_udp_lem + 4) 4 refl ∙ omega arith

    udp-lengths-good : bad_udp_lengths over_udp_lem ≡ false
    udp-lengths-good =
        let room = payload_long udp_protocol datagram datagram_short in
        rw (
          le-ltb (payload_length over_udp_lem) udp_length (omega (arith, room, datagram_long)),
          le-ltb (length_said over_udp_lem) udp_length (omega (arith, its_said)),
          le-ltb (payload_length over_udp_lem) (length_said over_udp_lem) (omega (arith, room, datagram_long, its_said)),
        ) refl

    udp-taken : skip_of over_udp_lem ≡ 0
    unfolding skip_of
    udp-taken =
        none_first (skips over_udp_lem) (
          is_ipv4 udp_protocol datagram datagram_short,
          (
            lengths-good udp_protocol datagram datagram_short,
            (
              not-cut udp_protocol datagram datagram_short,
              (
                rw udp-lengths-good (and-false (is_udp over_udp_lem)),
                (
                  rw (udp-carried, its_port) refl,
                  tt,
                ),
              ),
            ),
          ),
        )

    udp_entry : entry_of over_udp_lem ≡ record { kind = data_over_udp; body = body }
    unfolding entry_of
    udp_entry =
        let at = payload_at over_udp_lem + udp_length in
        let long : length_said over_udp_lem - udp_length ≡ length body = omega (arith, its_said) in
        let its_bytes : part over_udp_lem at (length_said over_udp_lem - udp_length) ≡ body =
        ap (part over_udp_lem at) long ∙ part_behind udp_protocol datagram datagram_short at udp_length (length body) refl
        ∙ part-append_behind (udp_header (length body)) body 0 (length body) ∙ part_all body in
        rw (udp-carried, its_bytes) refl

  -- So the packet of a data entry is taken, and read as that entry.
  module _ (e : Entry) (short : length e.body ≤ 60000) where
    pub packet_by : (over : Bool) → is_over_udp e ≡ over → packet_of by e ≡ cond over (over_udp_lem e.body short) (over_ip e.body short)
    unfolding packet_of
    packet_by true is = rw is refl
    packet_by false is = rw is refl

    taken_by : (over : Bool) → is_over_udp e ≡ over → skip_of (packet_of by e) ≡ 0
    taken_by true is = ap skip_of (packet_by true is) ∙ udp-taken e.body short
    taken_by false is = ap skip_of (packet_by false is) ∙ ip-taken e.body short

    pub packet-taken : skip_of (packet_of by e) ≡ 0
    packet-taken = taken_by (is_over_udp e) refl

    module _ (data-entry : is_data e ≡ true) where
      entry_by : (over : Bool) → is_over_udp e ≡ over → entry_of (packet_of by e) ≡ e
      entry_by true is =
          ap entry_of (packet_by true is) ∙ udp_entry e.body short
          ∙ rw (sym (eqb-true e.kind data_over_udp is)) refl
      entry_by false is =
          let came-over-ip = eqb e.kind data_entry in
          let it-did : came-over-ip ≡ true =
          or_true_right (is_over_udp e) came-over-ip (or_comm (is_over_udp e) came-over-ip ∙ data-entry) is in
          ap entry_of (packet_by false is) ∙ ip_entry e.body short
          ∙ rw (sym (eqb-true e.kind data_entry it-did)) refl

      pub packet_comes_back : entry_of (packet_of by e) ≡ e
      packet_comes_back = entry_by (is_over_udp e) refl

  -- Of data entries whose bodies are so short: each packet is taken, each comes back as its entry, and four bytes can say its length.
  abbrev pub Short : Entry → Type 0
  Short e = length e.body ≤ 60000

  abbrev pub ShortData : Entry → Type 0
  ShortData e = (is_data e ≡ true) × Short e

  small : (over : Bool) → cond over udp_length 0 ≤ 8
  small true = omega arith
  small false = omega arith

  sayable : (e : Entry) → ShortData e → length (packet_of by e) < 4294967296
  sayable e (is, short) = omega (arith, length-packet by six-sender six-receiver e, small (is_over_udp e), short)

  entries_come_back : (es : List Entry) → Each ShortData es → entries_of (map (packet_of by) es) ≡ es
  unfolding entries_of
  entries_come_back es short =
      let packets = map (packet_of by) es in
      let all-taken : Each (λ p. is_for 0 p ≡ true) packets =
      each_map (packet_of by) (λ p. is_for 0 p ≡ true) es
      (each_too ShortData (λ e. is_for 0 (packet_of by e) ≡ true) es (λ e s. ap (λ (n : ℕ). eqb n 0) (packet-taken e s.1)) short) in
      let all_back : Each (λ e. entry_of (packet_of by e) ≡ e) es =
      each_too ShortData (λ e. entry_of (packet_of by e) ≡ e) es (λ e s. packet_comes_back e s.1 s.0) short in
      ap (map entry_of) (those_all (is_for 0) packets all-taken) ∙ map_back (packet_of by) entry_of es all_back

  none-skipped : (cause : ℕ) → 0 < cause → (es : List Entry) → Each ShortData es → skipped cause (map (packet_of by) es) ≡ 0
  unfolding skipped
  none-skipped cause some es short =
      let packets = map (packet_of by) es in
      let none-for : Each (λ p. is_for cause p ≡ false) packets =
      each_map (packet_of by) (λ p. is_for cause p ≡ false) es
      (each_too ShortData (λ e. is_for cause (packet_of by e) ≡ false) es
      (λ e s. ap (λ (n : ℕ). eqb n cause) (packet-taken e s.1) ∙ ne_eqb 0 cause (λ z. let never : ⊥ = omega arith in never)) short) in
      ap length (those_nothing (is_for cause) packets none-for)

  -- The export of a capture's entries, read again: a good header, the packets of its data entries and nothing behind them. So its data
  -- entries come back, in their order, and nothing is skipped, for whatever cause.
  module _ (es : List Entry) (short : Each (λ e. length e.body ≤ 60000) es) where
    abbrev sent : List Entry
    sent = those is_data es

    pub sent-short : Each ShortData sent
    sent-short = each-those is_data Short es short

    pub sent_sayable : Each (λ p. length p < 4294967296) (map (packet_of by) sent)
    sent_sayable =
        each_map (packet_of by) (λ p. length p < 4294967296) sent
        (each_too ShortData (λ e. length (packet_of by e) < 4294967296) sent sayable sent-short)

    pub export_header : bad_header (export_of by es) ≡ false
    unfolding export_of
    export_header = header_reads_back true (map (packet_of by) sent)

    pub export_records : records (export_of by es) ≡ map (packet_of by) (those is_data es)
    unfolding export_of
    export_records = records_read_back true (map (packet_of by) sent) sent_sayable

    pub export_ends : last_place (export_of by es) ≡ length (export_of by es)
    unfolding export_of
    export_ends = walk_ends true (map (packet_of by) sent) sent_sayable

    pub export_comes_back : entries_of (records (export_of by es)) ≡ those is_data es
    export_comes_back = ap entries_of export_records ∙ entries_come_back sent sent-short

    pub export_none-skipped : (cause : ℕ) → 0 < cause → skipped cause (records (export_of by es)) ≡ 0
    export_none-skipped cause some = ap (skipped cause) export_records ∙ none-skipped cause some sent sent-short
