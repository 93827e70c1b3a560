-- What an import and an export answer and leave, by their code: what is not refused is done, and what is refused is left. And of each call,
-- of the bytes of a record, and of a record or none, one outcome is permitted.
use Prim.Native.Nat.{ℕ, zero, suc, ◌+◌, ◌≤◌}
use mathlib.Core.Path.{◌≡◌, refl, sym, ap, ◌∙◌}
use mathlib.Core.Bool.{Bool, true, false, cond, true≢false}
use mathlib.Core.List.{List, [], ◌∷◌}
use native.Mathlib.Omega.{arith}
use lib.Dec.{ltb}
use lib.ListN.{length}
use denote.Ref.{Bor}
use borrow.Author.Tests.{ltb-false}
use Rattle.std.specs.Prelude.{Option, Some, None}
use Rattle.refusal.specs.Refusal.{first, ◌when◌}
use Rattle.refusal.proofs.Laws.{none-applies, none_apart, none_first}
use Rattle.octets.specs.Stretch.{part}
use Rattle.octets.proofs.Stretches.{part-put}
use Rattle.octets.proofs.Counts.{or-false-left, or-false-right}
use Rattle.capture.specs.File.{head_length, entry_length, longest_file, most_entries, entries, file_of, file_refusals, file_refusal}
use Rattle.pcap.specs.declared.Addresses.{Addresses}
use Rattle.pcap.specs.File.{whole, start, bytes_at}
use Rattle.pcap.specs.Import.{all_entries, import_refusals, imported_by, imported, ImportOutcome, PermitsImport}
use Rattle.pcap.specs.Export.{export_of, export_refusals, exported_by, exported, ExportOutcome, PermitsExport}
use Rattle.pcap.specs.Reader.{PermitsBytes, PermitsRecord}

-- An import.
module _ (sessions file output : List ℕ) where
  abbrev import-refusal : ℕ
  import-refusal = first (import_refusals sessions file (length output))

  imports_by : (c : ℕ) → (imported_by c sessions file output).answer.code ≡ c
  unfolding imported_by
  imports_by zero = refl
  imports_by (suc c) = refl

  pub import_code : (imported sessions file output).answer.code ≡ import-refusal
  unfolding imported
  import_code = imports_by import-refusal

  pub import_done : import-refusal ≡ 0 → imported sessions file output ≡ imported_by 0 sessions file output
  unfolding imported
  import_done z = ap (λ (c : ℕ). imported_by c sessions file output) z

  undone : (c : ℕ) → (c ≡ 0 → ⊥) →
      ((imported_by c sessions file output).answer.length ≡ 0) × ((imported_by c sessions file output).output ≡ output)
  unfolding imported_by
  undone zero other = absurd (other refl)
  undone (suc c) other = (refl, refl)

  pub import_undone : ((imported sessions file output).answer.code ≡ 0 → ⊥) →
      ((imported sessions file output).answer.length ≡ 0) × ((imported sessions file output).output ≡ output)
  unfolding imported
  import_undone other = undone import-refusal (λ z. other (import_code ∙ z))

  -- what is so where none of the four refusals applies; then the capture stands at the front of the output
  pub record Importable : Type 0 where
    pub few : length (all_entries sessions file) ≤ most_entries
    pub short : length (file_of (all_entries sessions file)) ≤ longest_file
    pub room : length (file_of (all_entries sessions file)) ≤ length output

  pub importable : import-refusal ≡ 0 → Importable
  importable z =
      let es = all_entries sessions file in
      let none = none-applies (import_refusals sessions file (length output)) refl z in
      let long = ltb longest_file (length (file_of es)) in
      let many = ltb most_entries (length es) in
      record {
        few = ltb-false most_entries (length es) (or-false-right long many none.1.1.0);
        short = ltb-false longest_file (length (file_of es)) (or-false-left long many none.1.1.0);
        room = ltb-false (length output) (length (file_of es)) none.1.1.1.0;
      }

  pub import_at_front : import-refusal ≡ 0 →
      part (imported sessions file output).output 0 (imported sessions file output).answer.length ≡ file_of (all_entries sessions file)
  unfolding imported_by
  import_at_front z = rw (import_done z) (part-put output 0 (file_of (all_entries sessions file)) (omega (arith, (importable z).room)))

-- An export.
module _ (by : Addresses) (file output : List ℕ) where
  abbrev export-refusal : ℕ
  export-refusal = first (export_refusals by file (length output))

  exports_by : (c : ℕ) → (exported_by c by file output).answer.code ≡ c
  unfolding exported_by
  exports_by zero = refl
  exports_by (suc c) = refl

  pub export_code : (exported by file output).answer.code ≡ export-refusal
  unfolding exported
  export_code = exports_by export-refusal

  pub export_done : export-refusal ≡ 0 → exported by file output ≡ exported_by 0 by file output
  unfolding exported
  export_done z = ap (λ (c : ℕ). exported_by c by file output) z

  not_done : (c : ℕ) → (c ≡ 0 → ⊥) →
      ((exported_by c by file output).answer.length ≡ 0) × ((exported_by c by file output).output ≡ output)
  unfolding exported_by
  not_done zero other = absurd (other refl)
  not_done (suc c) other = (refl, refl)

  pub export_undone : ((exported by file output).answer.code ≡ 0 → ⊥) →
      ((exported by file output).answer.length ≡ 0) × ((exported by file output).output ≡ output)
  unfolding exported
  export_undone other = not_done export-refusal (λ z. other (export_code ∙ z))

  -- the capture is sound then, and there is room for the file
  pub record Exportable : Type 0 where
    pub sound : file_refusal file ≡ 0
    pub room : length (export_of by (entries file)) ≤ length output

  pub exportable : export-refusal ≡ 0 → Exportable
  unfolding file_refusal
  exportable z =
      let none = none-applies (export_refusals by file (length output)) refl z in
      let of_room = 64 when ltb (length output) (length (export_of by (entries file))) ∷ [] in
      let apart = none_apart (file_refusals head_length entry_length file) of_room none in
      record {
        sound = none_first (file_refusals head_length entry_length file) apart.0;
        room = ltb-false (length output) (length (export_of by (entries file))) apart.1.0;
      }

  pub export_at_front : export-refusal ≡ 0 →
      part (exported by file output).output 0 (exported by file output).answer.length ≡ export_of by (entries file)
  unfolding exported_by
  export_at_front z = rw (export_done z) (part-put output 0 (export_of by (entries file)) (omega (arith, (exportable z).room)))

-- One outcome of each.
pub import_permitted : (sessions file output : List ℕ) → PermitsImport sessions file output (imported sessions file output)
import_permitted sessions file output = refl

pub import_unique : (sessions file output : List ℕ) (a b : ImportOutcome) → PermitsImport sessions file output a →
    PermitsImport sessions file output b → a ≡ b
import_unique sessions file output a b p q = p ∙ sym q

pub export_permitted : (by : Addresses) (file output : List ℕ) → PermitsExport by file output (exported by file output)
export_permitted by file output = refl

pub export_unique : (by : Addresses) (file output : List ℕ) (a b : ExportOutcome) → PermitsExport by file output a →
    PermitsExport by file output b → a ≡ b
export_unique by file output a b p q = p ∙ sym q

-- Two answers to what record is at hand are the same: none, or the same slice.
abbrev pub SameRecord : Option (Bor (List ℕ)) → Option (Bor (List ℕ)) → Type 0
SameRecord (Some a) (Some b) = (a.ref_ptr.0 ≡ b.ref_ptr.0) × (a.ref_ptr.1 ≡ b.ref_ptr.1) × (a.now ≡ b.now)
SameRecord None None = Unit {0}
SameRecord (Some a) None = ⊥
SameRecord None (Some b) = ⊥

module _ (file : Bor (List ℕ)) (at : ℕ) (little : Bool) where
  abbrev pub bytes-there : Bor (List ℕ)
  bytes-there =
      record {
        ref_ptr = (file.ref_ptr.0, file.ref_ptr.1 + start file.now at little);
        now = bytes_at file.now at little;
      }

  pub bytes-permitted : PermitsBytes file at little bytes-there
  bytes-permitted = record { in_the_file = refl; at_its_place = refl; its_bytes = refl }

  pub bytes_unique : (a b : Bor (List ℕ)) → PermitsBytes file at little a → PermitsBytes file at little b →
      (a.ref_ptr.0 ≡ b.ref_ptr.0) × (a.ref_ptr.1 ≡ b.ref_ptr.1) × (a.now ≡ b.now)
  bytes_unique a b p q = (
    p.in_the_file ∙ sym q.in_the_file,
    p.at_its_place ∙ sym q.at_its_place,
    p.its_bytes ∙ sym q.its_bytes,
  )

  -- the record at hand, or none
  record-permitted_by : (t : Bool) → whole file.now at little ≡ t → PermitsRecord file at little (cond t (Some bytes-there) None)
  record-permitted_by true there = (there, bytes-permitted)
  record-permitted_by false there = there

  abbrev pub record-there : Option (Bor (List ℕ))
  record-there = cond (whole file.now at little) (Some bytes-there) None

  pub record-permitted : PermitsRecord file at little record-there
  record-permitted = record-permitted_by (whole file.now at little) refl

  pub record_unique : (a b : Option (Bor (List ℕ))) → PermitsRecord file at little a → PermitsRecord file at little b → SameRecord a b
  record_unique (Some a) (Some b) p q = bytes_unique a b p.1 q.1
  record_unique None None p q = tt
  record_unique (Some a) None p q = absurd (true≢false (sym p.0 ∙ q))
  record_unique None (Some b) p q = absurd (true≢false (sym q.0 ∙ p))
