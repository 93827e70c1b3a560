-- One permitted answer to the check of a capture file, and to the refusals of one that is written, and one permitted stretch for the body
-- of an entry. A slice that is given back is the same when it points to the same place and has the same bytes; its third part, the name
-- under which the prover follows it, is nothing that a program has.
use Prim.Native.Nat.{ℕ, ◌+◌}
use mathlib.Core.Path.{◌≡◌, refl, sym, ◌∙◌}
use mathlib.Core.List.{List}
use denote.Ref.{Bor}
use Rattle.std.specs.Prelude.{Result}
use Rattle.refusal.specs.declared.Refusal.{Refusal}
use Rattle.refusal.specs.Refusal.{first}
use Rattle.refusal.specs.Number.{code_of}
use Rattle.refusal.proofs.Numbers.{code_of-one}
use Rattle.capture.specs.declared.Writer.{Writer}
use Rattle.capture.specs.File.{head_length, entry_length, body_start, file_refusal, nth_entry, PermitsCheck, PermitsBody}
use Rattle.capture.specs.Write.{write_refusals}

pub check_unique : (file : List ℕ) (a b : ℕ) → PermitsCheck file a → PermitsCheck file b → a ≡ b
check_unique file a b p q = p ∙ sym q

pub check-permitted : (file : List ℕ) → PermitsCheck file (file_refusal file)
check-permitted file = refl

-- .. and the answers of the code, which are told by these numbers: the check's, and that of `refuse` and of a capture's `finish`
pub check_one : (file : List ℕ) (a b : Result (Unit {0}) Refusal) → PermitsCheck file (code_of a) → PermitsCheck file (code_of b) → a ≡ b
check_one file a b p q = code_of-one a b (check_unique file (code_of a) (code_of b) p q)

pub refuse_one : (w : Writer) (a b : Result (Unit {0}) Refusal) →
    code_of a ≡ first (write_refusals w) → code_of b ≡ first (write_refusals w) → a ≡ b
refuse_one w a b p q = code_of-one a b (p ∙ sym q)

module _ (file : Bor (List ℕ)) (index : ℕ) where
  abbrev pub body-there : Bor (List ℕ)
  body-there =
      record {
        ref_ptr = (file.ref_ptr.0, file.ref_ptr.1 + body_start head_length entry_length file.now index);
        now = (nth_entry file.now index).body;
      }

  pub body-permitted : PermitsBody file index body-there
  body-permitted = record { in_the_file = refl; at_its_place = refl; its_bytes = refl }

  pub body_unique : (a b : Bor (List ℕ)) → PermitsBody file index a → PermitsBody file index b →
      (a.ref_ptr.0 ≡ b.ref_ptr.0) × (a.ref_ptr.1 ≡ b.ref_ptr.1) × (a.now ≡ b.now)
  body_unique a b p q =
      (p.in_the_file ∙ sym q.in_the_file, p.at_its_place ∙ sym q.at_its_place, p.its_bytes ∙ sym q.its_bytes)
