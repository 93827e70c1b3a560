-- What an import answers that is not refused: the capture lies in the output, and no count is greater than the file is long.
use Prim.Native.Nat.{ℕ, zero, suc, ◌≤◌}
use mathlib.Core.Path.{◌≡◌, refl, ap, ◌∙◌}
use mathlib.Core.Bool.{Bool, true, false}
use mathlib.Core.List.{List}
use native.Mathlib.Omega.{arith}
use lib.ListN.{length}
use borrow.Author.Tests.{ltb-false}
use Rattle.refusal.specs.Refusal.{first}
use Rattle.refusal.proofs.Laws.{none-applies}
use Rattle.std.proofs.Common.{Ok}
use Rattle.octets.proofs.Those.{those-few}
use Rattle.capture.specs.File.{file_of}
use Rattle.pcap.specs.declared.import.Imported.{Imported}
use Rattle.pcap.specs.File.{is_little, whole, after, first_place, records, records_from}
use Rattle.pcap.specs.Import.{is_for, skipped, all_entries, import_refusals, Answer, told, ImportOutcome, imported_by, imported}
use Rattle.pcap.specs.Import.{PermitsImport}

-- a walk of n steps finds at most n records
records_few : (n : ℕ) (file : List ℕ) (at : ℕ) (little : Bool) → length (records_from n file at little) ≤ n
unfolding records_from
records_few zero file at little = omega arith
records_few (suc n) file at little = by (whole file at little) refl (records_few n file (after file at little) little)
  where
    by : (t : Bool) → whole file at little ≡ t → length (records_from n file (after file at little) little) ≤ n →
        length (records_from (suc n) file at little) ≤ suc n
    by true e few = rw e (omega (arith, few))
    by false e few = rw e (omega arith)

skipped-few : (cause : ℕ) (file : List ℕ) → skipped cause (records file) ≤ length file
unfolding skipped records
skipped-few cause file =
    omega (arith, those-few (is_for cause) (records file), records_few (length file) file (first_place file) (is_little file))

pub record Told (file output : List ℕ) (r : Imported) : Type 0 where
  pub capture_inside : r.length ≤ length output
  pub foreign_few : r.foreign ≤ length file
  pub misfits_few : r.misfits ≤ length file
  pub fragments_few : r.fragments ≤ length file
  pub others-few : r.others ≤ length file

module _ (sessions file output behind : List ℕ) (r : Imported)
    (permitted : PermitsImport sessions file output (record { answer = told (Ok r); output = behind })) where
  abbrev outcome : ℕ → ImportOutcome
  outcome code = imported_by code sessions file output

  abbrev code : ℕ
  code = first (import_refusals sessions file (length output))

  is_outcome : record { answer = told (Ok r); output = behind } ≡ outcome code
  unfolding imported
  is_outcome = permitted

  not-refused : code ≡ 0
  unfolding imported_by
  not-refused = by code (ap (λ (o : ImportOutcome). o.answer.code) is_outcome)
    where
      by : (n : ℕ) → 0 ≡ (outcome n).answer.code → n ≡ 0
      by zero e = refl
      by (suc n) e = absurd (omega (arith, e))

  answered : told (Ok r) ≡ (outcome 0).answer
  answered = ap (λ (o : ImportOutcome). o.answer) is_outcome ∙ ap (λ (n : ℕ). (outcome n).answer) not-refused

  pub import_told : Told file output r
  unfolding imported_by
  import_told =
      let fits = (none-applies (import_refusals sessions file (length output)) refl not-refused).1.1.1.0 in
      let long = ltb-false (length output) (length (file_of (all_entries sessions file))) fits in
      record {
        capture_inside = omega (arith, ap (λ (a : Answer). a.length) answered, long);
        foreign_few = omega (arith, ap (λ (a : Answer). a.foreign) answered, skipped-few 1 file);
        misfits_few = omega (arith, ap (λ (a : Answer). a.misfits) answered, skipped-few 2 file);
        fragments_few = omega (arith, ap (λ (a : Answer). a.fragments) answered, skipped-few 3 file);
        others-few = omega (arith, ap (λ (a : Answer). a.others) answered, skipped-few 4 file);
      }
