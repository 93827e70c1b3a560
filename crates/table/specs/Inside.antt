-- Inside: what functions promise each other on the way to a result. Nobody has to believe this file: the result is said without it.
-- Here: rule 13 as the code asks it, which looks at each number once; and what the searches for a row answer.
use Rattle.std.specs.Prelude.{ℕ, ◌≡◌, ◌<◌, Bool, cond, not, ◌&&◌, ◌||◌, List, [], ◌∷◌, eqb, ltb, get_or, slice_range}
use Rattle.std.specs.Prelude.{Option, Some, None, Result, Ok, Err}
use Rattle.std.specs.List.{list_any}
use Rattle.refusal.specs.Number.{number_of as number_given}
use Rattle.refusal.specs.declared.Refusal.TheVariants as refusal
use Rattle.refusal.specs.declared.Refusal.{Refusal}
use Rattle.refusal.specs.Refusal.{first, Refusal as Line}
use Rattle.flow.specs.declared.Flow.{Flow}
use Rattle.flow.specs.Flow.{flows, heard_mark}
use Rattle.packet.specs.Check.{kind_unknown}
use Rattle.table.specs.declared.Kind.{Kind}
use Rattle.table.specs.declared.Row.{Row}
use Rattle.table.specs.declared.Table.{Table}
use Rattle.table.specs.Rows.{rows, row_at, flow_at, kind_in}
use Rattle.table.specs.Broken.{not_zero}

-- What no flow of its row may be. One with the mark 1 must be allowed it (`numbered`) and hold at most `most`; one with the mark 0 is all
-- zero; there is no other mark.
abbrev pub flow_unfit : Bool → ℕ → Flow → Bool
flow_unfit numbered most f =
    cond (eqb f.heard heard_mark) (not numbered || ltb most f.held)
    (not_zero f.heard || not_zero f.expected || not_zero f.held)

abbrev pub any_unfit : Bool → Bool → ℕ → Row → Bool
any_unfit first others most row = flow_unfit first most (flow_at row 0) || list_any (flow_unfit others most) (slice_range row.flows 1 flows)

-- the IDs of all rows; whether the ID of row r is not 0 and stands in row r' too
abbrev pub ids_of : Table → List ℕ
ids_of t = (row_at t 0).id ∷ (row_at t 1).id ∷ (row_at t 2).id ∷ (row_at t 3).id ∷ (row_at t 4).id ∷ (row_at t 5).id ∷ []

abbrev pub id_twice : List ℕ → ℕ → ℕ → Bool
id_twice ids r r' = eqb (get_or ids r' 0) (get_or ids r 0) && not_zero (get_or ids r 0)

-- the kind that a number says, or the refusal of a number that says none
abbrev pub kind_of : ℕ → Result Kind Refusal
kind_of number = cond (kind_unknown number) (Err refusal.NumberUnknown) (Ok (kind_in number))

-- A row that was sought, where there is one: `find` and `lowest_free` are 6 where there is none.
abbrev pub row_told : ℕ → Option ℕ
row_told r = cond (ltb r rows) (Some r) None

-- The row that a call changes, where no refusal of its order applies; or the first that does.
abbrev pub Finds : List Line → ℕ → Result ℕ Refusal → Type 0
Finds order r (Ok found) = (first order ≡ 0) × (found ≡ r) × (r < rows)
Finds order r (Err refused) = first order ≡ number_given refused
