-- The account of an import (document 02, W5): each record is skipped for one cause or becomes one entry (`adds_up`), and the body of each
-- entry is a stretch of the file (`stretches`).
use Prim.Native.Nat.{ℕ, zero, suc, ◌+◌, ◌≤◌}
use mathlib.Core.Path.{◌≡◌, refl, sym, ap, subst, ◌∙◌}
use mathlib.Core.Bool.{Bool, true, false, cond, not, ◌&&◌}
use mathlib.Core.List.{List, [], ◌∷◌}
use native.Mathlib.Omega.{arith}
use lib.Dec.{eqb}
use lib.ListN.{length, length-map}
use borrow.Author.Tests.{eqb-true}
use Rattle.refusal.specs.Refusal.{◌when◌, first}
use Rattle.octets.specs.Each.{Each}
use Rattle.octets.specs.Stretch.{part}
use Rattle.octets.specs.Those.{those}
use Rattle.octets.proofs.Elements.{each_too, each_map}
use Rattle.octets.proofs.Stretches.{length_part, part_of_part}
use Rattle.octets.proofs.Those.{those-none, length-those-cons, each-those}
use Rattle.pcap.specs.File.{is_little, start, after, bytes_at, records_from, first_place, records}
use Rattle.pcap.specs.Judge.{not_ipv4, bad_ipv4_lengths, is_fragment, is_udp, bad_udp_lengths, is_l2tp, skip_of, data_at, data_length}
use Rattle.pcap.specs.Judge.{entry_of}
use Rattle.pcap.specs.Import.{is_for, entries_of, skipped, Stretch}
use Rattle.pcap.proofs.Reading.{bytes_inside, length_bytes}
use Rattle.pcap.proofs.Walk.{records_more, records_end, whole-or-not}
use Rattle.pcap.proofs.Judging.{judged-inside}

-- One for each number that a record may have as its cause, 0 where it is taken: a record has one of them.
abbrev one_if : ℕ → ℕ → ℕ
one_if cause n = cond (eqb n cause) 1 0

abbrev ones : ℕ → ℕ
ones n = one_if 1 n + one_if 2 n + one_if 3 n + one_if 4 n + one_if 0 n

one_cause : (foreign lengths cut udp other : Bool) →
    ones (first (1 when foreign ∷ 2 when lengths ∷ 3 when cut ∷ 2 when udp ∷ 4 when other ∷ [])) ≡ 1
one_cause true lengths cut udp other = refl
one_cause false true cut udp other = refl
one_cause false false true udp other = refl
one_cause false false false true other = refl
one_cause false false false false true = refl
one_cause false false false false false = refl

one_skip : (r : List ℕ) → ones (skip_of r) ≡ 1
unfolding skip_of
one_skip r = one_cause (not_ipv4 r) (bad_ipv4_lengths r) (is_fragment r) (is_udp r && bad_udp_lengths r) (not (is_l2tp r))

-- So the records of each kind are all records.
skipped-none : (cause : ℕ) → skipped cause [] ≡ 0
unfolding skipped
skipped-none cause = ap length (those-none (is_for cause))

skipped-cons : (cause : ℕ) (r : List ℕ) (packets : List (List ℕ)) →
    skipped cause (r ∷ packets) ≡ one_if cause (skip_of r) + skipped cause packets
unfolding skipped
skipped-cons cause r packets = length-those-cons (is_for cause) r packets

-- those that are taken are as many as the entries
taken-count : (packets : List (List ℕ)) → length (entries_of packets) ≡ skipped 0 packets
unfolding entries_of skipped
taken-count packets = length-map (those (is_for 0) packets) entry_of

all_counted : (packets : List (List ℕ)) →
    skipped 1 packets + skipped 2 packets + skipped 3 packets + skipped 4 packets + skipped 0 packets ≡ length packets
all_counted [] = omega (arith, skipped-none 1, skipped-none 2, skipped-none 3, skipped-none 4, skipped-none 0)
all_counted (r ∷ packets) =
    omega (
      arith,
      one_skip r,
      all_counted packets,
      skipped-cons 1 r packets,
      skipped-cons 2 r packets,
      skipped-cons 3 r packets,
      skipped-cons 4 r packets,
      skipped-cons 0 r packets,
    )

pub adds_up : (packets : List (List ℕ)) →
    skipped 1 packets + skipped 2 packets + skipped 3 packets + skipped 4 packets + length (entries_of packets) ≡ length packets
adds_up packets = omega (arith, all_counted packets, taken-count packets)

-- A record lies in the file, ..
record Within (file r : List ℕ) : Type 0 where
  from : ℕ
  inside : from + length r ≤ length file
  its_bytes : r ≡ part file from (length r)

record_within : (file : List ℕ) (at : ℕ) (little : Bool) → Within file (bytes_at file at little)
unfolding bytes_at
record_within file at little =
    let long = length_bytes file at little in
    record {
      from = start file at little;
      inside = omega (arith, long, bytes_inside file at little);
      its_bytes = ap (part file (start file at little)) (sym long);
    }

records_within : (file : List ℕ) (little : Bool) (n at : ℕ) → Each (Within file) (records_from n file at little)
unfolding records_from
records_within file little zero at = tt
records_within file little (suc n) at =
    whole-or-not file at little
    (λ h. subst (Each (Within file)) (sym (records_more n file at little h))
    (record_within file at little, records_within file little n (after file at little)))
    (λ h. subst (Each (Within file)) (sym (records_end (suc n) file at little h)) tt)

-- .. and so does what is taken of it
taken_stretch : (file r : List ℕ) → (is_for 0 r ≡ true) × Within file r → Stretch file (entry_of r)
unfolding entry_of
taken_stretch file r (taken, lies) =
    let there : data_at r + data_length r ≤ length r = judged-inside r (eqb-true (skip_of r) 0 taken) in
    let long : length (part r (data_at r) (data_length r)) ≡ data_length r = length_part r (data_at r) (data_length r) there in
    record {
      from = lies.from + data_at r;
      inside = omega (arith, long, there, lies.inside);
      its_bytes =
          ap (λ (l : List ℕ). part l (data_at r) (data_length r)) lies.its_bytes
          ∙ part_of_part file lies.from (length r) (data_at r) (data_length r) lies.inside there
          ∙ ap (part file (lies.from + data_at r)) (sym long);
    }

pub stretches : (file : List ℕ) → Each (Stretch file) (entries_of (records file))
unfolding entries_of records
stretches file =
    let all = records file in
    let within : Each (Within file) all = records_within file (is_little file) (length file) (first_place file) in
    each_map entry_of (Stretch file) (those (is_for 0) all)
    (each_too (λ r. (is_for 0 r ≡ true) × Within file r) (λ r. Stretch file (entry_of r)) (those (is_for 0) all) (taken_stretch file)
    (each-those (is_for 0) (Within file) all within))
