-- Opening and closing (document 01, "Opening, closing, listening" and "Refusal numbers"). A session opens as PSP or D-MPT in the lowest
-- free row, with every flow fresh; closing empties its row and reports the bytes held there as dropped. A refusal answers its number,
-- with all counts 0 and the table as it was. Neither call is given the holding slice, so neither touches it.
use Rattle.std.specs.Prelude.{ℕ, zero, suc, ◌≡◌, Bool, cond, not, ◌||◌, List, [], ◌∷◌, eqb, ltb, leb, replicate}
use Rattle.refusal.specs.Refusal.{Refusal, ◌when◌, first}
use Rattle.flow.specs.Flow.{fresh, flows}
use Rattle.packet.specs.Check.{kind_unknown}
use Rattle.table.specs.declared.Kind.{Kind}
use Rattle.table.specs.declared.Request.{Request}
use Rattle.table.specs.declared.Row.{Row}
use Rattle.table.specs.declared.Table.{Table}
use Rattle.table.specs.declared.Opening.{Opening}
use Rattle.table.specs.declared.Closing.{Closing}
use Rattle.table.specs.Rows.{rows, kind_in, number_of, row_at, find, lowest_free, closed_row, held_in, with_row}
use Rattle.table.specs.Broken.{broken}

abbrev pub is_open : Table → ℕ → Bool
is_open t id = ltb (find t id) rows

-- Opening. A session is asked for by its ID, as PSP or as D-MPT.
abbrev pub asking : Kind → ℕ → Request
asking kind id = record { id = id; kind = kind }

abbrev pub open_refusals : Table → Request → List Refusal
open_refusals t q =
    13 when broken t
    ∷ 21 when eqb q.id 0
    ∷ 22 when is_open t q.id
    ∷ 23 when leb rows (lowest_free t)
    ∷ []

abbrev pub fresh_row : Request → Row
fresh_row q = record { id = q.id; kind = number_of q.kind; flows = replicate flows fresh }

-- by the number of the first refusal that applies
abbrev pub opened_by : ℕ → Table → Request → Opening
opened_by zero t q = record { code = 0; table = with_row t (lowest_free t) (fresh_row q) }
opened_by (suc c) t q = record { code = suc c; table = t }

unfoldable pub opened : Table → Request → Opening
opened t q = opened_by (first (open_refusals t q)) t q

-- An open by a kind's number, as C asks for it: 24 where there is no such kind, before all else (ours: docs/DECISIONS.md, 74).
unfoldable pub opened_by_number : Table → ℕ → ℕ → Opening
opened_by_number t id number = cond (kind_unknown number) (record { code = 24; table = t }) (opened t (asking (kind_in number) id))

-- Closing.
abbrev pub close_refusals : Table → ℕ → List Refusal
close_refusals t id =
    13 when broken t
    ∷ 25 when (not (is_open t id) || eqb id 0)
    ∷ []

abbrev pub closed_by : ℕ → Table → ℕ → Closing
closed_by zero t id = record { code = 0; dropped = held_in (row_at t (find t id)); table = with_row t (find t id) closed_row }
closed_by (suc c) t id = record { code = suc c; dropped = 0; table = t }

unfoldable pub closed : Table → ℕ → Closing
closed t id = closed_by (first (close_refusals t id)) t id

-- What the calls permit, whole: the answer, and in it the table.
abbrev pub PermitsOpen : Table → Request → Opening → Type 0
PermitsOpen t q answer = answer ≡ opened t q

abbrev pub PermitsOpenByNumber : Table → ℕ → ℕ → Opening → Type 0
PermitsOpenByNumber t id number answer = answer ≡ opened_by_number t id number

abbrev pub PermitsClose : Table → ℕ → Closing → Type 0
PermitsClose t id answer = answer ≡ closed t id
