-- A flow's record, and what it makes of a sequence number (document 01, "Opening, closing, listening"). A fresh flow accepts any
-- number, with gap 0. Any other accepts a number that lies less than 32,768 ahead of the one it expects, and reports how far
-- ahead as the gap; the rest are late. Once it has accepted a number, it expects the next one.
use Rattle.std.specs.Prelude.{ℕ, ◌≡◌, Option, Some, None, Bool, true, false, cond, eqb, ltb}
use Rattle.flow.specs.declared.Flow.{Flow}
use Rattle.flow.specs.declared.Accepted.{Accepted}
use Rattle.flow.specs.Numbers.{ahead, next}

-- the longest frame, and so the most bytes that a flow holds
abbrev pub longest : ℕ
longest = 2048

-- half a turn of the numbers: whoever lies this far ahead, or farther, is late
abbrev pub half : ℕ
half = 32768

-- a row has flows 0 to 3
abbrev pub flows : ℕ
flows = 4

abbrev pub top_flow : ℕ
top_flow = 3

-- the mark of a flow that has accepted a number since its session opened
abbrev pub heard_mark : ℕ
heard_mark = 1

-- no number expected and nothing held: the record of zeros
abbrev pub fresh : Flow
fresh = record { heard = 0; expected = 0; held = 0 }

-- Whether a flow is fresh is read off its mark alone, and any mark but 0 counts as heard. (A mark above 1, or the mark 0 with something
-- held or expected, stands in a broken table, which open, close and the data call refuse by 13; `judge` alone refuses nothing.)
abbrev pub is_fresh : Flow → Bool
is_fresh f = eqb f.heard 0

-- the record after it accepted a number; how many bytes it holds is for the join rule to say
abbrev pub expecting : Flow → ℕ → Flow
expecting f number = record { heard = heard_mark; expected = next number; held = f.held }

-- What a record makes of a number: the next record and the gap; or that the number is late.
pub record Judged : Type 0 where
  pub flow : Flow
  pub gap : ℕ
  pub late : Bool

abbrev pub accepted : Flow → ℕ → ℕ → Judged
accepted f number gap = record { flow = expecting f number; gap = gap; late = false }

-- a late number leaves the record as it was
abbrev pub too_late : Flow → Judged
too_late f = record { flow = f; gap = 0; late = true }

abbrev pub judge : Flow → ℕ → Judged
judge f number =
    cond (is_fresh f) (accepted f number 0)
    (cond (ltb (ahead number f.expected) half) (accepted f number (ahead number f.expected))
    (too_late f))

-- a packet without a number, S clear: nothing to judge, gap 0, the record as it was
abbrev pub unnumbered : Flow → Judged
unnumbered f = record { flow = f; gap = 0; late = false }

-- .. as the code says it: of a number that is not accepted, that it is late
abbrev pub judged_as : Accepted → Judged
judged_as a = record { flow = a.flow; gap = a.gap; late = false }

abbrev pub told : Flow → Option Accepted → Judged
told f (Some a) = judged_as a
told f None = too_late f

-- the record of a flow that holds nothing any more, and expects what it expected
abbrev pub emptied : Flow → Flow
emptied f = record { heard = f.heard; expected = f.expected; held = 0 }

-- What the two calls on a record permit, whole.
abbrev pub PermitsFresh : Flow → Type 0
PermitsFresh answer = answer ≡ fresh

abbrev pub PermitsJudge : Flow → ℕ → Judged → Type 0
PermitsJudge f number answer = answer ≡ judge f number
