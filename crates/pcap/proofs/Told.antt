-- What is told of an answer of a judgement, an import or an export has all of it: so each of these calls has one permitted answer. So has
-- the call that says why a walk stops.
use Prim.Native.Nat.{ℕ}
use mathlib.Core.Path.{◌≡◌, refl, sym, ap, ◌∙◌}
use mathlib.Core.Bool.{Bool, cond}
use mathlib.Core.List.{List}
use native.Mathlib.Omega.{arith}
use lib.Dec.{eqb}
use Rattle.std.specs.Prelude.{Result, Ok, Err}
use Rattle.refusal.specs.declared.Refusal.{Refusal}
use Rattle.refusal.specs.Refusal.{first}
use Rattle.refusal.specs.Number.{code_of}
use Rattle.refusal.proofs.Numbers.{number_some, number_of-one, code_of-one}
use Rattle.capture.proofs.Numbers as kinds
use Rattle.pcap.specs.declared.Addresses.{Addresses}
use Rattle.pcap.specs.declared.judge.Cause.{Cause}
use Rattle.pcap.specs.declared.judge.Cause.TheVariants as cause
use Rattle.pcap.specs.declared.judge.Data.{Data}
use Rattle.pcap.specs.declared.import.Imported.{Imported}
use Rattle.pcap.specs.declared.export.Exported.{Exported}
use Rattle.pcap.specs.File.{stops}
use Rattle.pcap.specs.Judge as judging
use Rattle.pcap.specs.Import as importing
use Rattle.pcap.specs.Export as exporting
use Rattle.pcap.proofs.Outcomes.{import_unique, export_unique}

-- A judgement. No cause has the number 0, and no two have one number.
cause_some : (c : Cause) → judging.number_of c ≡ 0 → ⊥
cause_some cause.NotIpv4 e = omega (arith, e)
cause_some cause.BadLengths e = omega (arith, e)
cause_some cause.Fragment e = omega (arith, e)
cause_some cause.Other e = omega (arith, e)

abbrev cause_of : ℕ → Cause
cause_of n =
    cond (eqb n 1) cause.NotIpv4
    (cond (eqb n 2) cause.BadLengths
    (cond (eqb n 3) cause.Fragment
    cause.Other))

found : (c : Cause) → cause_of (judging.number_of c) ≡ c
found cause.NotIpv4 = refl
found cause.BadLengths = refl
found cause.Fragment = refl
found cause.Other = refl

data_told : (a b : Data) → judging.told (Ok a) ≡ judging.told (Ok b) → a ≡ b
data_told a b e =
    let same : a.kind ≡ b.kind = kinds.number_of-one a.kind b.kind (ap (λ (j : judging.Judged). j.kind) e) in
    ap (λ (j : judging.Judged). record { kind = a.kind; at = j.at; length = j.length }) e
    ∙ ap (λ k. record { kind = k; at = b.at; length = b.length }) same

judgement_told : (a b : Result Data Cause) → judging.told a ≡ judging.told b → a ≡ b
judgement_told (Ok a) (Ok b) e = ap Ok (data_told a b e)
judgement_told (Ok a) (Err c) e = absurd (cause_some c (sym (ap (λ (j : judging.Judged). j.cause) e)))
judgement_told (Err c) (Ok b) e = absurd (cause_some c (ap (λ (j : judging.Judged). j.cause) e))
judgement_told (Err a) (Err b) e = ap Err (sym (found a) ∙ ap (λ (j : judging.Judged). cause_of j.cause) e ∙ found b)

pub judge_one : (r : List ℕ) (a b : Result Data Cause) → judging.told a ≡ judging.judged r → judging.told b ≡ judging.judged r → a ≡ b
judge_one r a b p q = judgement_told a b (p ∙ sym q)

-- An import.
import_told : (a b : Result Imported Refusal) → importing.told a ≡ importing.told b → a ≡ b
import_told (Ok a) (Ok b) e =
    ap
    (λ (i : importing.Answer).
    Ok
    (record {
      length = i.length;
      packets = i.packets;
      foreign = i.foreign;
      misfits = i.misfits;
      fragments = i.fragments;
      others = i.others;
    }))
    e
import_told (Ok a) (Err r) e = absurd (number_some r (sym (ap (λ (i : importing.Answer). i.code) e)))
import_told (Err r) (Ok b) e = absurd (number_some r (ap (λ (i : importing.Answer). i.code) e))
import_told (Err a) (Err b) e = ap Err (number_of-one a b (ap (λ (i : importing.Answer). i.code) e))

pub import_one : (sessions file output : List ℕ) (a b : Result Imported Refusal) (left left' : List ℕ) →
    importing.PermitsImport sessions file output (record { answer = importing.told a; output = left }) →
    importing.PermitsImport sessions file output (record { answer = importing.told b; output = left' }) → (a ≡ b) × (left ≡ left')
import_one sessions file output a b left left' p q =
    let e =
    import_unique sessions file output (record { answer = importing.told a; output = left })
    (record { answer = importing.told b; output = left' }) p q
    in
    (import_told a b (ap (λ (o : importing.ImportOutcome). o.answer) e), ap (λ (o : importing.ImportOutcome). o.output) e)

-- An export.
export_told : (a b : Result Exported Refusal) → exporting.told a ≡ exporting.told b → a ≡ b
export_told (Ok a) (Ok b) e =
    ap (λ (x : exporting.Answer). Ok (record { length = x.length; packets = x.packets; opens = x.opens; closes = x.closes })) e
export_told (Ok a) (Err r) e = absurd (number_some r (sym (ap (λ (x : exporting.Answer). x.code) e)))
export_told (Err r) (Ok b) e = absurd (number_some r (ap (λ (x : exporting.Answer). x.code) e))
export_told (Err a) (Err b) e = ap Err (number_of-one a b (ap (λ (x : exporting.Answer). x.code) e))

pub export_one : (by : Addresses) (file output : List ℕ) (a b : Result Exported Refusal) (left left' : List ℕ) →
    exporting.PermitsExport by file output (record { answer = exporting.told a; output = left }) →
    exporting.PermitsExport by file output (record { answer = exporting.told b; output = left' }) → (a ≡ b) × (left ≡ left')
export_one by file output a b left left' p q =
    let e =
    export_unique by file output (record { answer = exporting.told a; output = left })
    (record { answer = exporting.told b; output = left' }) p q
    in
    (export_told a b (ap (λ (o : exporting.ExportOutcome). o.answer) e), ap (λ (o : exporting.ExportOutcome). o.output) e)

-- Why a walk stops.
pub cause_one : (file : List ℕ) (at : ℕ) (little : Bool) (a b : Result (Unit {0}) Refusal) →
    code_of a ≡ first (stops file at little) → code_of b ≡ first (stops file at little) → a ≡ b
cause_one file at little a b p q = code_of-one a b (p ∙ sym q)
