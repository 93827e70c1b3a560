-- The headers of an export and the records, written piece by piece: each is one put.
use Prim.Native.Nat.{ℕ, ◌+◌, ◌-◌, ◌≤◌}
use mathlib.Core.Path.{◌≡◌, refl, sym, ap, ◌∙◌}
use mathlib.Core.Bool.{Bool, true, false, cond, ◌||◌}
use lib.Dec.{eqb}
use mathlib.Core.List.{List, [], ◌∷◌, ◌++◌, append_assoc}
use native.Mathlib.Omega.{arith}
use lib.ListN.{length, take, drop, length-append}
use Rattle.octets.specs.Bytes.{two, four}
use Rattle.octets.specs.Stretch.{part, put}
use Rattle.octets.proofs.Stretches.{part_all, sliced_part, part-put, put-nil, put_more, put-inside}
use Rattle.capture.specs.File.{data_entry, data_over_udp}
use Rattle.pcap.specs.declared.Addresses.{Addresses}
use Rattle.pcap.specs.File.{record_header, record_header_in, record_in}
use Rattle.pcap.specs.Ethernet.{ethernet_length, ipv4_type, ethernet_header}
use Rattle.pcap.specs.Ipv4.{ipv4_length, l2tp_protocol, udp_protocol, time_to_live, checksum, ipv4_with, ipv4_header}
use Rattle.pcap.specs.Udp.{udp_length, udp_header}
use Rattle.pcap.specs.Export.{packet_of}
use Rattle.pcap.specs.Inside.Exporting.{front_length, front_of, record_of, record_length}
use Rattle.pcap.proofs.Packets.{length-ethernet}

-- all of a list is copied
part-whole : (l : List ℕ) (n : ℕ) → length l ≡ n → part l 0 n ≡ l
part-whole l n e = ap (part l 0) (sym e) ∙ part_all l

-- the addresses of Ethernet and the type behind them
pub ethernet-put : {e f g : List ℕ} (d : List ℕ) (at : ℕ) (by : Addresses) → length by.sender ≡ 6 → length by.receiver ≡ 6 →
    at + ethernet_length ≤ length d → e ≡ put d at (part by.receiver 0 6) → f ≡ put e (at + 6) (part by.sender 0 6) →
    g ≡ put f (at + 12) (two ipv4_type) → g ≡ put d at (ethernet_header by)
ethernet-put {e} {f} d at by sender receiver room first second third =
    let to : e ≡ put d at by.receiver = first ∙ ap (put d at) (part-whole by.receiver 6 receiver) in
    let from : f ≡ put e (at + 6) by.sender = second ∙ ap (put e (at + 6)) (part-whole by.sender 6 sender) in
    let both = length-append by.receiver by.sender in
    let addressed : f ≡ put d at (by.receiver ++ by.sender) =
    put_more d at by.receiver by.sender (at + 6) (omega arith) to (omega arith) from in
    put_more d at (by.receiver ++ by.sender) (two ipv4_type) (at + 12) (omega arith) addressed (omega arith) third

-- what stands before the checksum
abbrev front : Addresses → ℕ → ℕ → List ℕ
front by total carried = 0x45 ∷ 0 ∷ (two total ++ two 0 ++ two 0 ++ (time_to_live ∷ carried ∷ []))

-- An IPv4 header with a 0 for the checksum has the checksum stored over it. It is taken of the bytes that stand there.
module _ {e : List ℕ} (d : List ℕ) (at : ℕ) (by : Addresses) (total carried : ℕ) (room : at + ipv4_length ≤ length d)
    (stood : e ≡ put d at (ipv4_with by total carried 0)) where
  unchecked : take (at + ipv4_length - at) (drop at e) ≡ ipv4_with by total carried 0
  unchecked =
      sliced_part e at (at + ipv4_length) ipv4_length (omega arith) ∙ ap (λ (l : List ℕ). part l at ipv4_length) stood
      ∙ part-put d at (ipv4_with by total carried 0) room

  pub ipv4_put : {f : List ℕ} {check : ℕ} → check ≡ checksum (take (at + ipv4_length - at) (drop at e)) → f ≡ put e (at + 10) (two check) →
      f ≡ put d at (ipv4_header by total carried)
  ipv4_put {f} {check} summed stored =
      stored
      ∙ ap (λ (l : List ℕ). put l (at + 10) (two check)) stood
      ∙ put-inside d at (front by total carried) (two 0) (two check) (four by.source ++ four by.target) room refl
      ∙ ap (λ (n : ℕ). put d at (ipv4_with by total carried n)) (summed ∙ ap checksum unchecked)

-- A record of an entry is its headers and what its IPv4 packet carries.
module _ (by : Addresses) (sender : length by.sender ≡ 6) (receiver : length by.receiver ≡ 6) where
  pub length_front : (size carried : ℕ) → length (front_of by size carried) ≡ front_length
  length_front size carried =
      let header = record_header_in true (ethernet_length + ipv4_length + size) in
      let internet = ipv4_header by (ipv4_length + size) carried in
      omega (
        arith,
        length-append (header ++ ethernet_header by) internet,
        length-append header (ethernet_header by),
        length-ethernet by sender receiver,
      )

  pub front_put : {e f g : List ℕ} (d : List ℕ) (at size carried : ℕ) → at + front_length ≤ length d →
      e ≡ put d at (record_header_in true (ethernet_length + ipv4_length + size)) →
      f ≡ put e (at + record_header) (ethernet_header by) →
      g ≡ put f (at + record_header + ethernet_length) (ipv4_header by (ipv4_length + size) carried) →
      g ≡ put d at (front_of by size carried)
  front_put d at size carried room first second third =
      let header = record_header_in true (ethernet_length + ipv4_length + size) in
      let both = length-append header (ethernet_header by) in
      let ether = length-ethernet by sender receiver in
      let addressed = put_more d at header (ethernet_header by) (at + record_header) (omega arith) first refl second in
      put_more d at (header ++ ethernet_header by) (ipv4_header by (ipv4_length + size) carried) (at + record_header + ethernet_length)
      (omega arith) addressed (omega arith) third

  record_front : (size carried : ℕ) (x : List ℕ) → length x ≡ size →
      record_in true (ethernet_header by ++ ipv4_header by (ipv4_length + length x) carried ++ x) ≡ front_of by size carried ++ x
  record_front size carried x long =
      let internet = ipv4_header by (ipv4_length + length x) carried in
      let packet = ethernet_header by ++ internet ++ x in
      let header = record_header_in true (ethernet_length + ipv4_length + size) in
      let packet_long : length packet ≡ ethernet_length + ipv4_length + size =
      omega (
        arith,
        length-append (ethernet_header by ++ internet) x,
        length-append (ethernet_header by) internet,
        length-ethernet by sender receiver,
        long,
      ) in
      ap (λ (n : ℕ). record_header_in true n ++ packet) packet_long
      ∙ sym (append_assoc header (ethernet_header by ++ internet) x)
      ∙ ap (λ (l : List ℕ). l ++ x) (sym (append_assoc header (ethernet_header by) internet))
      ∙ ap (λ (n : ℕ). header ++ ethernet_header by ++ ipv4_header by (ipv4_length + n) carried ++ x) long

  record_over_ip : (body : List ℕ) →
      record_in true (packet_of by (record { kind = data_entry; body = body })) ≡ front_of by (length body) l2tp_protocol ++ body
  unfolding packet_of
  record_over_ip body = record_front (length body) l2tp_protocol body refl

  record_over_udp : (body : List ℕ) →
      record_in true (packet_of by (record { kind = data_over_udp; body = body }))
      ≡ front_of by (udp_length + length body) udp_protocol ++ udp_header (length body) ++ body
  unfolding packet_of
  record_over_udp body =
      let header = udp_header (length body) in
      record_front (udp_length + length body) udp_protocol (header ++ body) (length-append header body)
      ∙ sym (append_assoc (front_of by (udp_length + length body) udp_protocol) header body)

  -- .. which are written one behind the other
  pub over_ip-put : {e f : List ℕ} (d : List ℕ) (at : ℕ) (body : List ℕ) → at + (front_length + length body) ≤ length d →
      e ≡ put d at (front_of by (length body) l2tp_protocol) → f ≡ put e (at + front_length) (part body 0 (length body)) →
      f ≡ put d at (record_in true (packet_of by (record { kind = data_entry; body = body })))
  over_ip-put {e} {f} d at body room first second =
      let front = front_of by (length body) l2tp_protocol in
      let long = length_front (length body) l2tp_protocol in
      put_more d at front body (at + front_length) (omega (arith, long)) first (omega (arith, long))
      (second ∙ ap (put e (at + front_length)) (part_all body))
      ∙ ap (put d at) (sym (record_over_ip body))

  pub over_udp-put : {e f g : List ℕ} (d : List ℕ) (at : ℕ) (body : List ℕ) → at + (front_length + udp_length + length body) ≤ length d →
      e ≡ put d at (front_of by (udp_length + length body) udp_protocol) → f ≡ put e (at + front_length) (udp_header (length body)) →
      g ≡ put f (at + front_length + udp_length) (part body 0 (length body)) →
      g ≡ put d at (record_in true (packet_of by (record { kind = data_over_udp; body = body })))
  over_udp-put {e} {f} d at body room first second third =
      let front = front_of by (udp_length + length body) udp_protocol in
      let header = udp_header (length body) in
      let long = length_front (udp_length + length body) udp_protocol in
      let both = length-append front header in
      let headed = put_more d at front header (at + front_length) (omega (arith, long)) first (omega (arith, long)) second in
      put_more d at (front ++ header) body (at + front_length + udp_length) (omega (arith, long, both)) headed (omega (arith, long, both))
      (third ∙ ap (put f (at + front_length + udp_length)) (part_all body))
      ∙ ap (put d at) (sym (record_over_udp body))

-- an entry that is no data entry has none
pub record_none : (d : List ℕ) (at : ℕ) (by : Addresses) (kind : ℕ) (body : List ℕ) → record_length kind (length body) ≡ 0 →
    d ≡ put d at (record_of by (record { kind = kind; body = body }))
record_none d at by kind body none = by-test (eqb kind data_entry || eqb kind data_over_udp) none
  where
    by-test : (t : Bool) → cond t (front_length + cond (eqb kind data_over_udp) udp_length 0 + length body) 0 ≡ 0 →
        d ≡ put d at (cond t (record_in true (packet_of by (record { kind = kind; body = body }))) [])
    by-test true e = absurd (omega (arith, e))
    by-test false e = sym (put-nil d at)
