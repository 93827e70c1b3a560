-- What becomes of a record: each way out of the functions that judge it, and that the data of a record that is taken lies in it.
use Prim.Native.Nat.{ℕ, zero, suc, ◌+◌, ◌-◌, ◌≤◌}
use mathlib.Core.Path.{◌≡◌, refl, sym, ap, ◌∙◌}
use mathlib.Core.Bool.{Bool, true, false, not, cond, ◌&&◌, ◌||◌}
use mathlib.Core.List.{List, [], ◌∷◌}
use mathlib.Core.Logic.{⊎_elim}
use native.Mathlib.Omega.{arith}
use lib.Dec.{eqb, ltb}
use lib.ListN.{length}
use borrow.Author.Tests.{eq-eqb, ne_eqb, ltb-false}
use Rattle.refusal.specs.Refusal.{◌when◌, first}
use Rattle.refusal.proofs.Laws.{none-applies, cond-true, cond-false, and-rest}
use Rattle.octets.proofs.Counts.{true-or-false, or-false-left, or-false-right}
use Rattle.capture.specs.File.{data_entry, data_over_udp}
use Rattle.pcap.specs.Ipv4.{ipv4_at, ipv4_length, l2tp_protocol, udp_protocol, header_length, total_length}
use Rattle.pcap.specs.Ipv4.{fragment_bits, protocol, payload_at, payload_length}
use Rattle.pcap.specs.Udp.{udp_length, l2tp_port, target_port, length_said}
use Rattle.pcap.specs.Judge.{not_ipv4, bad_ipv4_lengths, is_fragment, is_udp, bad_udp_lengths, is_l2tp, skips, skip_of, data_at}
use Rattle.pcap.specs.Judge.{data_length}
use Rattle.pcap.specs.declared.judge.Cause.{Cause}
use Rattle.pcap.specs.declared.judge.Cause.TheVariants as cause
use Rattle.pcap.specs.Judge.{Judged, number_of, judged_by, judged}
use Rattle.pcap.specs.Inside.Importing.{Uncut}

abbrev skip : ℕ → Judged
skip cause = record { cause = cause; kind = 0; at = 0; length = 0 }

abbrev found : ℕ → ℕ → ℕ → Judged
found kind at size = record { cause = 0; kind = kind; at = at; length = size }

module _ (r : List ℕ) where
  -- What is so where its lengths are not bad.
  pub record Fitting : Type 0 where
    pub headed : ipv4_at + ipv4_length ≤ length r
    pub header-inside : header_length r ≤ total_length r
    pub all_inside : ipv4_at + total_length r ≤ length r

  pub fitting : bad_ipv4_lengths r ≡ false → Fitting
  fitting good =
      let short = ltb (length r) (ipv4_at + ipv4_length) in
      let small = ltb (header_length r) ipv4_length in
      let ends = ltb (total_length r) (header_length r) in
      let past = ltb (length r) (ipv4_at + total_length r) in
      let three = or-false-left (short || small || ends) past good in
      let both = or-false-left (short || small) ends three in
      record {
        headed = ltb-false (length r) (ipv4_at + ipv4_length) (or-false-left short small both);
        header-inside = ltb-false (total_length r) (header_length r) (or-false-right (short || small) ends three);
        all_inside = ltb-false (length r) (ipv4_at + total_length r) (or-false-right (short || small || ends) past good);
      }

  pub record UdpFitting : Type 0 where
    pub room-enough : udp_length ≤ payload_length r
    pub header-said : udp_length ≤ length_said r
    pub in_room : length_said r ≤ payload_length r

  pub udp_fitting : bad_udp_lengths r ≡ false → UdpFitting
  udp_fitting good =
      let short = ltb (payload_length r) udp_length in
      let small = ltb (length_said r) udp_length in
      let past = ltb (payload_length r) (length_said r) in
      let both = or-false-left (short || small) past good in
      record {
        room-enough = ltb-false (payload_length r) udp_length (or-false-left short small both);
        header-said = ltb-false (length_said r) udp_length (or-false-right short small both);
        in_room = ltb-false (payload_length r) (length_said r) (or-false-right (short || small) past good);
      }

-- The causes, in their order, by the five tests.
module _ (foreign lengths cut udp other : Bool) where
  abbrev causes : ℕ
  causes = first (1 when foreign ∷ 2 when lengths ∷ 3 when cut ∷ 2 when udp ∷ 4 when other ∷ [])

  by_first : foreign ≡ true → causes ≡ 1
  by_first a = rw a refl

  by_second : foreign ≡ false → lengths ≡ true → causes ≡ 2
  by_second a b = rw (a, b) refl

  by_third : foreign ≡ false → lengths ≡ false → cut ≡ true → causes ≡ 3
  by_third a b c = rw (a, b, c) refl

  by_fourth : foreign ≡ false → lengths ≡ false → cut ≡ false → udp ≡ true → causes ≡ 2
  by_fourth a b c d = rw (a, b, c, d) refl

  by_fifth : foreign ≡ false → lengths ≡ false → cut ≡ false → udp ≡ false → other ≡ true → causes ≡ 4
  by_fifth a b c d e = rw (a, b, c, d, e) refl

  by_none : foreign ≡ false → lengths ≡ false → cut ≡ false → udp ≡ false → other ≡ false → causes ≡ 0
  by_none a b c d e = rw (a, b, c, d, e) refl

module _ (r : List ℕ) where
  -- its tests, and its answer by the cause
  abbrev udp : Bool
  udp = is_udp r && bad_udp_lengths r

  abbrev other : Bool
  other = not (is_l2tp r)

  by_cause : (n : ℕ) → skip_of r ≡ suc n → skip (suc n) ≡ judged r
  unfolding judged_by
  by_cause n e = rw e refl

  by_no_cause : (kind at size : ℕ) → skip_of r ≡ 0 → kind ≡ cond (is_udp r) data_over_udp data_entry → at ≡ data_at r →
      size ≡ data_length r →
      found kind at size ≡ judged r
  unfolding judged_by
  by_no_cause kind at size e ek ea es = rw (e, ek, ea, es) refl

  -- Skipped before the protocol is looked at.
  pub not_ipv4-skipped : (b : Bool) → b ≡ not_ipv4 r → b ≡ true → skip 1 ≡ judged r
  unfolding skip_of
  not_ipv4-skipped b e h = by_cause 0 (by_first (not_ipv4 r) (bad_ipv4_lengths r) (is_fragment r) udp other (sym e ∙ h))

  module _ (b : Bool) (e : b ≡ not_ipv4 r) (not-foreign : b ≡ false) (b' : Bool) (e' : b' ≡ bad_ipv4_lengths r) where
    pub bad_lengths-skipped : b' ≡ true → skip 2 ≡ judged r
    unfolding skip_of
    bad_lengths-skipped h =
        by_cause 1 (by_second (not_ipv4 r) (bad_ipv4_lengths r) (is_fragment r) udp other (sym e ∙ not-foreign) (sym e' ∙ h))

    module _ (fits : b' ≡ false) where
      module _ (field : ℕ) (ef : field ≡ fragment_bits r) where
        pub fragment_skipped : (field ≡ 0 → ⊥) → skip 3 ≡ judged r
        unfolding skip_of
        fragment_skipped h =
            let cut : is_fragment r ≡ true = rw (ne_eqb (fragment_bits r) 0 (λ z. h (ef ∙ z))) refl in
            by_cause 2
            (by_third (not_ipv4 r) (bad_ipv4_lengths r) (is_fragment r) udp other (sym e ∙ not-foreign) (sym e' ∙ fits) cut)

  -- Judged by the protocol.
  module _ {at room : ℕ} (u : Uncut r at room) where
    pub l2tp_taken : protocol r ≡ l2tp_protocol → found data_entry at room ≡ judged r
    unfolding skip_of
    l2tp_taken p =
        let not-udp : is_udp r ≡ false = rw p refl in
        let no-udp-lengths : udp ≡ false = rw not-udp refl in
        let is : other ≡ false = rw p refl in
        by_no_cause data_entry at room
        (by_none (not_ipv4 r) (bad_ipv4_lengths r) (is_fragment r) udp other u.is_ipv4 u.lengths-good u.not-cut no-udp-lengths is)
        (sym (cond-false (is_udp r) data_over_udp data_entry not-udp))
        (u.its_place ∙ sym (cond-false (is_udp r) (payload_at r + udp_length) (payload_at r) not-udp))
        (u.its_length ∙ sym (cond-false (is_udp r) (length_said r - udp_length) (payload_length r) not-udp))

    pub protocol-skipped : (protocol r ≡ l2tp_protocol → ⊥) → (protocol r ≡ udp_protocol → ⊥) → skip 4 ≡ judged r
    unfolding skip_of
    protocol-skipped not_l2tp not-udp =
        let n : is_udp r ≡ false = ne_eqb (protocol r) udp_protocol not-udp in
        let no-udp-lengths : udp ≡ false = rw n refl in
        let is : other ≡ true = rw (ne_eqb (protocol r) l2tp_protocol not_l2tp, n) refl in
        by_cause 3
        (by_fifth (not_ipv4 r) (bad_ipv4_lengths r) (is_fragment r) udp other u.is_ipv4 u.lengths-good u.not-cut no-udp-lengths is)

    module _ (p : protocol r ≡ udp_protocol) (b : Bool) (e : b ≡ bad_udp_lengths r) where
      is_udp_lem : is_udp r ≡ true
      is_udp_lem = eq-eqb (protocol r) udp_protocol p

      not_l2tp : eqb (protocol r) l2tp_protocol ≡ false
      not_l2tp = rw p refl

      by_udp : udp ≡ b
      by_udp = ap (λ (x : Bool). x && bad_udp_lengths r) is_udp_lem ∙ sym e

      pub udp-lengths-skipped : b ≡ true → skip 2 ≡ judged r
      unfolding skip_of
      udp-lengths-skipped h =
          by_cause 1
          (by_fourth (not_ipv4 r) (bad_ipv4_lengths r) (is_fragment r) udp other u.is_ipv4 u.lengths-good u.not-cut (by_udp ∙ h))

      module _ (good : b ≡ false) where
        module _ (port : ℕ) (ep : port ≡ target_port r) where
          pub port_skipped : (port ≡ l2tp_port → ⊥) → skip 4 ≡ judged r
          unfolding skip_of
          port_skipped h =
              let is : other ≡ true = rw (not_l2tp, is_udp_lem, ne_eqb (target_port r) l2tp_port (λ z. h (ep ∙ z))) refl in
              by_cause 3
              (by_fifth (not_ipv4 r) (bad_ipv4_lengths r) (is_fragment r) udp other u.is_ipv4 u.lengths-good u.not-cut
              (by_udp ∙ good) is)

          pub udp-taken : (said : ℕ) → port ≡ l2tp_port → said ≡ length_said r →
              found data_over_udp (at + udp_length) (said - udp_length) ≡ judged r
          unfolding skip_of
          udp-taken said h es =
              let is : other ≡ false = rw (not_l2tp, is_udp_lem, eq-eqb (target_port r) l2tp_port (sym ep ∙ h)) refl in
              by_no_cause data_over_udp (at + udp_length) (said - udp_length)
              (by_none (not_ipv4 r) (bad_ipv4_lengths r) (is_fragment r) udp other u.is_ipv4 u.lengths-good u.not-cut
              (by_udp ∙ good) is)
              (sym (cond-true (is_udp r) data_over_udp data_entry is_udp_lem))
              (ap (λ (x : ℕ). x + udp_length) u.its_place
              ∙ sym (cond-true (is_udp r) (payload_at r + udp_length) (payload_at r) is_udp_lem))
              (ap (λ (x : ℕ). x - udp_length) es
              ∙ sym (cond-true (is_udp r) (length_said r - udp_length) (payload_length r) is_udp_lem))

-- The data of a record that is taken lies in the record.
pub judged-inside : (r : List ℕ) → skip_of r ≡ 0 → data_at r + data_length r ≤ length r
unfolding skip_of
judged-inside r z =
    let none = none-applies (skips r) refl z in
    let f = fitting r none.1.0 in
    let inside : payload_at r + payload_length r ≤ length r = omega (arith, f.header-inside, f.all_inside) in
    ⊎_elim
    (λ (u : is_udp r ≡ true).
    let f' = udp_fitting r (and-rest (is_udp r) (bad_udp_lengths r) none.1.1.1.0 u) in
    rw (
      cond-true (is_udp r) (payload_at r + udp_length) (payload_at r) u,
      cond-true (is_udp r) (length_said r - udp_length) (payload_length r) u,
    ) (omega (arith, f'.header-said, f'.in_room, inside)))
    (λ (u : is_udp r ≡ false).
    rw (
      cond-false (is_udp r) (payload_at r + udp_length) (payload_at r) u,
      cond-false (is_udp r) (length_said r - udp_length) (payload_length r) u,
    ) inside)
    (true-or-false (is_udp r))

-- No cause has the number 0, which a record that is taken is told by.
pub cause_some : (c : Cause) → number_of c ≡ 0 → ⊥
cause_some cause.NotIpv4 e = omega (arith, e)
cause_some cause.BadLengths e = omega (arith, e)
cause_some cause.Fragment e = omega (arith, e)
cause_some cause.Other e = omega (arith, e)

-- What the answer says: the cause, which is one of four or none, and of a record that is taken its entry.
cause_by : (n : ℕ) (r : List ℕ) → (judged_by n r).cause ≡ n
unfolding judged_by
cause_by zero r = refl
cause_by (suc n) r = refl

pub cause_is : (r : List ℕ) (j : Judged) → j ≡ judged r → j.cause ≡ skip_of r
cause_is r j e = ap (λ (x : Judged). x.cause) e ∙ cause_by (skip_of r) r

pub taken_as : (r : List ℕ) (j : Judged) → j ≡ judged r → skip_of r ≡ 0 →
    j ≡ found (cond (is_udp r) data_over_udp data_entry) (data_at r) (data_length r)
unfolding judged_by
taken_as r j e z = e ∙ rw z refl
