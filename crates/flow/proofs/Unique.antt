-- No call of this crate leaves its outcome open: something is permitted, and any two permitted outcomes are equal. So are the
-- answers of the code, of each of which the contract says what it tells.
use Prim.Native.Nat.{ℕ}
use mathlib.Core.Path.{◌≡◌, refl, sym, ap, ◌∙◌}
use mathlib.Core.Bool.{true≢false}
use Rattle.std.specs.Prelude.{Option, Some, None}
use Rattle.flow.specs.declared.Flow.{Flow}
use Rattle.flow.specs.declared.Accepted.{Accepted}
use Rattle.flow.specs.Flow.{Judged, told}
use Rattle.flow.specs.Flow.{fresh, judge, PermitsFresh, PermitsJudge}

pub fresh-permitted : PermitsFresh fresh
fresh-permitted = refl

pub fresh_unique : (a b : Flow) → PermitsFresh a → PermitsFresh b → a ≡ b
fresh_unique a b p q = p ∙ sym q

pub judge-permitted : (f : Flow) (number : ℕ) → PermitsJudge f number (judge f number)
judge-permitted f number = refl

pub judge_unique : (f : Flow) (number : ℕ) (a b : Judged) → PermitsJudge f number a → PermitsJudge f number b → a ≡ b
judge_unique f number a b p q = p ∙ sym q

-- A judgement tells its answer: one that is not late is of an acceptance, and has all of it.
told_one : (f : Flow) (a b : Option Accepted) → told f a ≡ told f b → a ≡ b
told_one f (Some a) (Some b) same = ap (λ (j : Judged). Some (record { flow = j.flow; gap = j.gap })) same
told_one f (Some a) None same = absurd (true≢false (sym (ap (λ (j : Judged). j.late) same)))
told_one f None (Some b) same = absurd (true≢false (ap (λ (j : Judged). j.late) same))
told_one f None None same = refl

pub judge_one : (f : Flow) (number : ℕ) (a b : Option Accepted) →
    PermitsJudge f number (told f a) → PermitsJudge f number (told f b) → a ≡ b
judge_one f number a b p q = told_one f a b (judge_unique f number (told f a) (told f b) p q)
