-- The file of a list of packets is read back, in either byte order (document 02, W5): its order and its header are found, its records are
-- the packets, each as long on the wire as it is, and a walk over them ends at the file's end.
use Prim.Native.Nat.{ℕ, zero, suc, ◌+◌, ◌-◌, ◌≤◌, ◌<◌}
use mathlib.Core.Path.{◌≡◌, refl, sym, ap, subst, ◌∙◌}
use mathlib.Core.Bool.{Bool, true, false}
use mathlib.Core.List.{List, [], ◌∷◌, ◌++◌, map, append_assoc, append-nil}
use native.Mathlib.Omega.{arith}
use native.Mathlib.Nat.{not-suc-le-zero}
use lib.Dec.{eqb}
use lib.ListN.{length, length-append}
use borrow.Author.Tests.{le-leb}
use Rattle.octets.specs.Each.{Each}
use Rattle.octets.specs.Stretch.{part, joined}
use Rattle.octets.specs.Order.{le32_at, u32_at, four_in}
use Rattle.octets.proofs.Stretches.{joined-none, joined-cons, part-between, length-joined}
use Rattle.octets.proofs.Numbers.{u32_append_at, four_in_reads_back}
use Rattle.pcap.specs.File.{file_header, record_header, magic, is_little, wrong_fields, bad_header, left, kept, whole, start, size, after}
use Rattle.pcap.specs.File.{bytes_at, records_from, place_from, wire_from, first_place, records, wire_lengths, last_place}
use Rattle.pcap.specs.File.{file_header_in, record_header_in, record_in, pcap_of}
use Rattle.pcap.proofs.Reading.{little_long, header_long, first_good, whole-short, whole_long, start-whole, size-whole, after-whole}
use Rattle.pcap.proofs.Walk.{records_more, place_more, wire_more, records_end, place_end, wire_end}
use Rattle.pcap.proofs.Packets.{length-file_header, length_record_header, length_record}

-- a packet whose length four bytes can say
abbrev Sayable : List ℕ → Type 0
Sayable p = length p < 4294967296

-- how many bytes are kept reads back from a record's header
kept-written : (little : Bool) (n : ℕ) (behind : List ℕ) → n < 4294967296 → u32_at little (record_header_in little n ++ behind) 8 ≡ n
kept-written true n behind = four_in_reads_back true n (four_in true n ++ behind)
kept-written false n behind = four_in_reads_back false n (four_in false n ++ behind)

-- .. and how many there were on the wire
wire_written : (little : Bool) (n : ℕ) (behind : List ℕ) → n < 4294967296 → u32_at little (record_header_in little n ++ behind) 12 ≡ n
wire_written true n behind = four_in_reads_back true n behind
wire_written false n behind = four_in_reads_back false n behind

-- A record with anything before it and behind it.
module _ (little : Bool) (before p behind : List ℕ) (short : Sayable p) where
  abbrev among : List ℕ
  among = before ++ (record_in little p ++ behind)

  abbrev here : ℕ
  here = length before

  among-left : left among here ≡ record_header + length p + length behind
  among-left =
      let this = record_in little p in
      omega (arith, length-append before (this ++ behind), length-append this behind, length_record little p)

  among-kept : kept among here little ≡ length p
  among-kept =
      u32_append_at little before (record_in little p ++ behind) (here + 8) 8 refl
      ∙ ap (λ (l : List ℕ). u32_at little l 8) (append_assoc (record_header_in little (length p)) p behind)
      ∙ kept-written little (length p) (p ++ behind) short

  pub written_wire : u32_at little among (here + 12) ≡ length p
  written_wire =
      u32_append_at little before (record_in little p ++ behind) (here + 12) 12 refl
      ∙ ap (λ (l : List ℕ). u32_at little l 12) (append_assoc (record_header_in little (length p)) p behind)
      ∙ wire_written little (length p) (p ++ behind) short

  -- it is whole, its bytes are the packet, and the next one begins right behind it
  pub written-whole : whole among here little ≡ true
  written-whole =
      whole_long among here little (omega (arith, among-left))
      ∙ le-leb (kept among here little) (left among here - record_header) (omega (arith, among-left, among-kept))

  pub written-bytes : bytes_at among here little ≡ p
  unfolding bytes_at
  written-bytes =
      let header = record_header_in little (length p) in
      let at : start among here little ≡ length (before ++ header) =
      start-whole among here little written-whole ∙ omega (arith, length-append before header, length_record_header little (length p)) in
      let long : size among here little ≡ length p = size-whole among here little written-whole ∙ among-kept in
      let lies : among ≡ before ++ header ++ p ++ behind =
      sym (append_assoc before (header ++ p) behind) ∙ ap (λ (l : List ℕ). l ++ behind) (sym (append_assoc before header p)) in
      ap (part among (start among here little)) long
      ∙ ap (λ (from : ℕ). part among from (length p)) at
      ∙ ap (λ (l : List ℕ). part l (length (before ++ header)) (length p)) lies
      ∙ part-between (before ++ header) p behind

  pub written_after : after among here little ≡ length (before ++ record_in little p)
  written_after =
      after-whole among here little written-whole
      ∙ omega (arith, among-kept, length-append before (record_in little p), length_record little p)

-- A walk from a place on has read these packets, and stands at the end.
record HasRead (little : Bool) (n : ℕ) (file : List ℕ) (at : ℕ) (packets : List (List ℕ)) : Type 0 where
  these : records_from n file at little ≡ packets
  to_the_end : place_from n file at little ≡ length file
  on_the_wire : wire_from n file at little ≡ map length packets

-- one that begins there has read none
read_none : (little : Bool) (n : ℕ) (file : List ℕ) → HasRead little n file (length file) []
read_none little n file =
    let none : whole file (length file) little ≡ false = whole-short file (length file) little (omega arith) in
    record {
      these = records_end n file (length file) little none;
      to_the_end = place_end n file (length file) little none;
      on_the_wire = wire_end n file (length file) little none;
    }

-- and one that begins at a whole record has read that one more
read_more : (little : Bool) (n : ℕ) (file : List ℕ) (at : ℕ) (p : List ℕ) (packets : List (List ℕ)) → whole file at little ≡ true →
    bytes_at file at little ≡ p → u32_at little file (at + 12) ≡ length p → HasRead little n file (after file at little) packets →
    HasRead little (suc n) file at (p ∷ packets)
read_more little n file at p packets stands its_bytes its-wire read =
    record {
      these = records_more n file at little stands ∙ rw (its_bytes, read.these) refl;
      to_the_end = place_more n file at little stands ∙ read.to_the_end;
      on_the_wire = wire_more n file at little stands ∙ rw (its-wire, read.on_the_wire) refl;
    }

-- So behind any stretch of a file the packets that were written there are read.
module _ (little : Bool) where
  abbrev written : List (List ℕ) → List ℕ
  written packets = joined (map (record_in little) packets)

  read_behind : (packets : List (List ℕ)) (n : ℕ) (before file : List ℕ) → Each Sayable packets →
      length packets ≤ n → file ≡ before ++ written packets → HasRead little n file (length before) packets
  read_behind [] n before file short enough lies =
      let all : file ≡ before = lies ∙ ap (λ (l : List ℕ). before ++ l) joined-none ∙ append-nil before in
      subst (λ (at : ℕ). HasRead little n file at []) (ap length all) (read_none little n file)
  read_behind (p ∷ packets) zero before file short enough lies = absurd (not-suc-le-zero enough)
  read_behind (p ∷ packets) (suc n) before file short enough lies =
      let this = record_in little p in
      let behind = written packets in
      let at = length before in
      let here : file ≡ before ++ (this ++ behind) =
      lies ∙ ap (λ (l : List ℕ). before ++ l) (joined-cons this (map (record_in little) packets)) in
      let stands : whole file at little ≡ true =
      ap (λ (l : List ℕ). whole l at little) here ∙ written-whole little before p behind short.0 in
      let its_bytes : bytes_at file at little ≡ p =
      ap (λ (l : List ℕ). bytes_at l at little) here ∙ written-bytes little before p behind short.0 in
      let next : after file at little ≡ length (before ++ this) =
      ap (λ (l : List ℕ). after l at little) here ∙ written_after little before p behind short.0 in
      let its-wire : u32_at little file (at + 12) ≡ length p =
      ap (λ (l : List ℕ). u32_at little l (at + 12)) here ∙ written_wire little before p behind short.0 in
      read_more little n file at p packets stands its_bytes its-wire
      (subst (λ (place : ℕ). HasRead little n file place packets) (sym next)
      (read_behind packets n (before ++ this) file short.1 (omega arith) (here ∙ sym (append_assoc before this behind))))

  -- there are no more packets than bytes, so a walk over them all is not cut short
  few-packets : (packets : List (List ℕ)) → length packets ≤ length (written packets)
  few-packets [] = omega arith
  few-packets (p ∷ packets) =
      omega (arith, length-joined (record_in little p) (map (record_in little) packets), length_record little p, few-packets packets)

-- The header, with anything behind it: only in the order in which it was written is its first number the magic one, and nothing is wrong.
magic-read : (little : Bool) (behind : List ℕ) → eqb (le32_at (file_header_in little ++ behind) 0) magic ≡ little
magic-read true behind = refl
magic-read false behind = refl

fields_right : (little : Bool) (behind : List ℕ) → wrong_fields little (file_header_in little ++ behind) ≡ false
unfolding wrong_fields
fields_right true behind = refl
fields_right false behind = refl

-- Of any packets: the order and the header are found.
module _ (little : Bool) (packets : List (List ℕ)) where
  header-there : file_header ≤ length (pcap_of little packets)
  unfolding pcap_of
  header-there = omega (arith, length-append (file_header_in little) (written little packets), length-file_header little)

  pub order_reads_back : is_little (pcap_of little packets) ≡ little
  unfolding pcap_of
  order_reads_back = little_long (pcap_of little packets) header-there ∙ magic-read little (written little packets)

  pub header_reads_back : bad_header (pcap_of little packets) ≡ false
  unfolding pcap_of
  header_reads_back =
      header_long (pcap_of little packets) header-there
      ∙ ap (λ (order : Bool). wrong_fields order (pcap_of little packets)) order_reads_back
      ∙ fields_right little (written little packets)

  -- and of those whose lengths four bytes can say: the records are these, and nothing is left
  module _ (short : Each (λ p. length p < 4294967296) packets) where
    abbrev file : List ℕ
    file = pcap_of little packets

    all_read : HasRead little (length file) file (first_place file) packets
    unfolding pcap_of
    all_read =
        let begins : first_place file ≡ length (file_header_in little) =
        first_good file header_reads_back ∙ sym (length-file_header little) in
        let enough : length packets ≤ length file =
        omega (arith, few-packets little packets, length-append (file_header_in little) (written little packets)) in
        subst (λ (at : ℕ). HasRead little (length file) file at packets) (sym begins)
        (read_behind little packets (length file) (file_header_in little) file short enough refl)

    pub records_read_back : records file ≡ packets
    unfolding records
    records_read_back = ap (records_from (length file) file (first_place file)) order_reads_back ∙ all_read.these

    pub wire_reads_back : wire_lengths file ≡ map length packets
    unfolding wire_lengths
    wire_reads_back = ap (wire_from (length file) file (first_place file)) order_reads_back ∙ all_read.on_the_wire

    pub walk_ends : last_place file ≡ length file
    unfolding last_place
    walk_ends = ap (place_from (length file) file (first_place file)) order_reads_back ∙ all_read.to_the_end
