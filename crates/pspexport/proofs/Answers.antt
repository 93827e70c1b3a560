-- What an export answers that is not refused: the file lies in the output, and opens and closes are no more than a capture has entries.
use Prim.Native.Nat.{ℕ, zero, suc, ◌≤◌}
use mathlib.Core.Path.{◌≡◌, refl, ap, ◌∙◌}
use mathlib.Core.Bool.{Bool}
use mathlib.Core.List.{List, [], ◌∷◌}
use native.Mathlib.Omega.{arith}
use lib.Dec.{ltb}
use lib.ListN.{length}
use borrow.Author.Tests.{ltb-false}
use Rattle.refusal.specs.Refusal.{◌when◌, first}
use Rattle.refusal.proofs.Laws.{none-applies, none_first, none_apart}
use Rattle.std.proofs.Common.{Ok}
use Rattle.octets.specs.Those.{those}
use Rattle.octets.proofs.Counts.{length-up_to}
use Rattle.octets.proofs.Those.{those-few}
use Rattle.capture.specs.File.{head_length, entry_length, most_entries, entry_count, Entry, nth_entry, entries, file_refusals, file_refusal}
use Rattle.capture.proofs.Checking.{is_sound}
use Rattle.pcap.specs.declared.Addresses.{Addresses}
use Rattle.pcap.specs.declared.export.Exported.{Exported}
use Rattle.pcap.specs.Export.{is_open, is_close, export_of, export_refusals, Answer, told, ExportOutcome, exported_by, exported}
use Rattle.pcap.specs.Export.{PermitsExport}

-- those of a sound capture's entries that pass a test
those_of_sound : (test : Entry → Bool) (file : List ℕ) → file_refusal file ≡ 0 → length (those test (entries file)) ≤ most_entries
unfolding entries
those_of_sound test file sound =
    omega (
      arith,
      those-few test (entries file),
      length-up_to (nth_entry file) (entry_count head_length file),
      (is_sound file sound).few,
    )

pub record Told (output : List ℕ) (r : Exported) : Type 0 where
  pub file_inside : r.length ≤ length output
  pub opens-few : r.opens ≤ most_entries
  pub closes-few : r.closes ≤ most_entries

module _ (by : Addresses) (file output behind : List ℕ) (r : Exported)
    (permitted : PermitsExport by file output (record { answer = told (Ok r); output = behind })) where
  abbrev outcome : ℕ → ExportOutcome
  outcome code = exported_by code by file output

  abbrev code : ℕ
  code = first (export_refusals by file (length output))

  is_outcome : record { answer = told (Ok r); output = behind } ≡ outcome code
  unfolding exported
  is_outcome = permitted

  not-refused : code ≡ 0
  unfolding exported_by
  not-refused = at code (ap (λ (o : ExportOutcome). o.answer.code) is_outcome)
    where
      at : (n : ℕ) → 0 ≡ (outcome n).answer.code → n ≡ 0
      at zero e = refl
      at (suc n) e = absurd (omega (arith, e))

  answered : told (Ok r) ≡ (outcome 0).answer
  answered = ap (λ (o : ExportOutcome). o.answer) is_outcome ∙ ap (λ (n : ℕ). (outcome n).answer) not-refused

  pub export_told : Told output r
  unfolding exported_by file_refusal
  export_told =
      let long = length (export_of by (entries file)) in
      let of-the-capture = file_refusals head_length entry_length file in
      let none = none-applies (export_refusals by file (length output)) refl not-refused in
      let apart = none_apart of-the-capture (64 when ltb (length output) long ∷ []) none in
      let sound : file_refusal file ≡ 0 = none_first of-the-capture apart.0 in
      record {
        file_inside = omega (arith, ap (λ (a : Answer). a.length) answered, ltb-false (length output) long apart.1.0);
        opens-few = omega (arith, ap (λ (a : Answer). a.opens) answered, those_of_sound is_open file sound);
        closes-few = omega (arith, ap (λ (a : Answer). a.closes) answered, those_of_sound is_close file sound);
      }
