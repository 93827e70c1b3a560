-- The check and the cause of a segment tell their answers by a number. It leaves no answer open: any two whose numbers are permitted are
-- equal.
use Prim.Native.Nat.{ℕ}
use mathlib.Core.Path.{◌≡◌}
use Rattle.std.specs.Prelude.{Result}
use Rattle.refusal.specs.declared.Refusal.{Refusal}
use Rattle.refusal.specs.Number.{code_of}
use Rattle.refusal.proofs.Numbers.{code_of-one}
use Rattle.packet.specs.Header.{Packet}
use Rattle.packet.specs.Check.{PermitsCheck, PermitsSegmentCause}
use Rattle.packet.proofs.Unique.{check_unique, cause_unique}

pub check_one : (kind : ℕ) (p : Packet) (a b : Result (Unit {0}) Refusal) →
    PermitsCheck kind p (code_of a) → PermitsCheck kind p (code_of b) → a ≡ b
check_one kind p a b one other = code_of-one a b (check_unique kind p (code_of a) (code_of b) one other)

pub cause_one : (kind : ℕ) (p : Packet) (k : ℕ) (a b : Result (Unit {0}) Refusal) →
    PermitsSegmentCause kind p k (code_of a) → PermitsSegmentCause kind p k (code_of b) → a ≡ b
cause_one kind p k a b one other = code_of-one a b (cause_unique kind p k (code_of a) (code_of b) one other)
