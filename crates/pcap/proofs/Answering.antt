-- What a `?` hands on is the refusal that was answered.
use mathlib.Core.Path.{◌≡◌, ap}
use Rattle.std.proofs.Common.{Result, Ok, Err, IsErrAnd}
use Rattle.refusal.specs.declared.Refusal.{Refusal}

pub handed_on : {A : Type 0} (r : Result A Refusal) {why : Refusal} → IsErrAnd r (λ e. e ≡ why) → r ≡ Err why
handed_on (Ok x) same = absurd same
handed_on (Err e) same = ap (λ (x : Refusal). Err x) same
