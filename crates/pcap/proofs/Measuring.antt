-- A capture is measured entry by entry: how long the record of one entry is, and what the first k come to.
use Prim.Native.Nat.{ℕ, ◌+◌, ◌*◌, ◌<◌, ◌≤◌}
use mathlib.Core.Path.{◌≡◌, refl, sym, ap, ◌∙◌}
use mathlib.Core.Bool.{Bool, true, false, cond, ◌||◌}
use mathlib.Core.List.{List}
use native.Mathlib.Omega.{arith}
use lib.Dec.{eqb}
use Rattle.octets.specs.Count.{sum_to}
use Rattle.octets.proofs.Counts.{sum_more}
use Rattle.capture.specs.File.{head_length, entry_length, open_psp, open_dmpt, closing, data_entry, data_over_udp}
use Rattle.capture.specs.File.{entry_count, kind_at, body_length, file_refusal}
use Rattle.capture.proofs.Checking.{is_sound}
use Rattle.pcap.specs.declared.export.Exported.{Exported}
use Rattle.pcap.specs.File.{file_header}
use Rattle.pcap.specs.Udp.{udp_length}
use Rattle.pcap.specs.Inside.Exporting.{front_length, record_length, counted_with, measured_to, Unhurried}

abbrev pub measured : ℕ → ℕ → ℕ → ℕ → Exported
measured long packets opens closes = record { length = long; packets = packets; opens = opens; closes = closes }

-- An entry adds no more than so much.
cond_short : (data-entry over_udp_lem : Bool) (size : ℕ) →
    cond data-entry (front_length + cond over_udp_lem udp_length 0 + size) 0 ≤ 58 + size
cond_short true true size = omega arith
cond_short true false size = omega arith
cond_short false over_udp_lem size = omega arith

one_most : (b : Bool) → cond b 1 0 ≤ 1
one_most true = omega arith
one_most false = omega arith

-- The loop: after k turns the first k entries are counted, and no count is large.
pub record Measuring (file : List ℕ) (m : Exported) (k : ℕ) : Type 0 where
  pub within : k ≤ entry_count head_length file
  pub so_far : m ≡ measured_to file k
  pub few_bytes : m.length ≤ file_header + 65593 * k
  pub few-packets : m.packets ≤ k
  pub few-opens : m.opens ≤ k
  pub few-closes : m.closes ≤ k

pub measure_begin : (file : List ℕ) → Measuring file (measured file_header 0 0 0) 0
unfolding sum_to measured_to
measure_begin file =
    record {
      within = omega arith;
      so_far = refl;
      few_bytes = omega arith;
      few-packets = omega arith;
      few-opens = omega arith;
      few-closes = omega arith;
    }

pub measured_same : {a b c d : ℕ} {w x y z : ℕ} → a ≡ w → b ≡ x → c ≡ y → d ≡ z →
    measured a b c d ≡ measured w x y z
measured_same p q r t = rw (p, q, r, t) refl

measured_more : (file : List ℕ) (k : ℕ) →
    counted_with (measured_to file k) (kind_at head_length entry_length file k) (body_length head_length entry_length file k)
    ≡ measured_to file (k + 1)
unfolding measured_to
measured_more file k =
    let kind = kind_at head_length entry_length file in
    let bytes = sum_more (λ i. record_length (kind i) (body_length head_length entry_length file i)) k in
    let packets = sum_more (λ i. cond (eqb (kind i) data_entry || eqb (kind i) data_over_udp) 1 0) k in
    let opens = sum_more (λ i. cond (eqb (kind i) open_psp || eqb (kind i) open_dmpt) 1 0) k in
    let closes = sum_more (λ i. cond (eqb (kind i) closing) 1 0) k in
    measured_same (omega (arith, bytes)) (sym packets) (sym opens) (sym closes)

module _ {file : List ℕ} {m : Exported} {k : ℕ} (s : Measuring file m k) where
  pub measure_turn : {kind size : ℕ} {r : Exported} → k < entry_count head_length file → kind ≡ kind_at head_length entry_length file k →
      (size ≡ body_length head_length entry_length file k) × (size ≤ 65535) → r ≡ counted_with m kind size → Measuring file r (k + 1)
  measure_turn {kind} {size} {r} below ek es er =
      let data-entry = eqb kind data_entry || eqb kind data_over_udp in
      record {
        within = omega (arith, below);
        so_far =
            er
            ∙ ap (λ (x : Exported). counted_with x kind size) s.so_far
            ∙ ap (λ (x : ℕ). counted_with (measured_to file k) x size) ek
            ∙ ap (counted_with (measured_to file k) (kind_at head_length entry_length file k)) es.0
            ∙ measured_more file k;
        few_bytes =
            omega (
              arith,
              s.few_bytes,
              es.1,
              ap (λ (x : Exported). x.length) er,
              cond_short data-entry (eqb kind data_over_udp) size,
            );
        few-packets = omega (arith, s.few-packets, ap (λ (x : Exported). x.packets) er, one_most data-entry);
        few-opens = omega (arith, s.few-opens, ap (λ (x : Exported). x.opens) er, one_most (eqb kind open_psp || eqb kind open_dmpt));
        few-closes = omega (arith, s.few-closes, ap (λ (x : Exported). x.closes) er, one_most (eqb kind closing));
      }

  pub measure_small : file_refusal file ≡ 0 → Unhurried m
  measure_small sound =
      let few = (is_sound file sound).few in
      record {
        few_bytes = omega (arith, s.within, s.few_bytes);
        few-packets = omega (arith, s.within, s.few-packets);
        few-opens = omega (arith, s.within, s.few-opens);
        few-closes = omega (arith, s.within, s.few-closes);
      }

  pub measure_end : entry_count head_length file ≤ k → m ≡ measured_to file (entry_count head_length file)
  measure_end past =
      let all : k ≡ entry_count head_length file = omega (arith, s.within, past) in
      s.so_far ∙ ap (measured_to file) all
