-- Refusals in order (document 01, "Refusal numbers"). A refusal order is a list of numbers, each with the condition under
-- which it is given; the first one whose condition holds is the answer, and 0 is the answer where none holds. Every order
-- that is built so far stands in specs/ as such a list, with the paper's numerals, to be held against the paper's table line by line; a
-- stretch that several orders share is a list of its own.
use Rattle.std.specs.Prelude.{ℕ, Bool, cond, List, [], ◌∷◌}

pub record Refusal : Type 0 where
  pub number : ℕ
  pub applies : Bool

-- a line of such a list, as in `13 when broken table`
infix 68 ◌when◌
abbrev pub ◌when◌ : ℕ → Bool → Refusal
number when condition = record { number = number; applies = condition }

abbrev pub first : List Refusal → ℕ
first [] = 0
first (r ∷ rest) = cond r.applies r.number (first rest)
