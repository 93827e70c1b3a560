-- When a table is broken, refusal 13 (document 01, "Refusal numbers"): an open row has ID 0; an open ID stands in two rows; a closed row
-- is not all zero; a flow holds over 2,048 bytes; a fresh flow has something held or a number expected other than 0; a D-MPT row has
-- bytes held, or a flow 1 to 3 that is not fresh. There the paper's list ends. Ours, since the table is plain numbers (docs/DECISIONS.md,
-- 73): a kind above 2 or a mark above 1, which no call leaves, breaks it too. The rule looks at the whole table and never at the holding
-- slice.
use Rattle.std.specs.Prelude.{ℕ, Bool, not, ◌&&◌, ◌||◌, eqb, ltb}
use Rattle.octets.specs.Count.{any}
use Rattle.flow.specs.declared.Flow.{Flow}
use Rattle.flow.specs.Flow.{longest, flows, heard_mark, is_fresh}
use Rattle.packet.specs.Check.{kind_unknown}
use Rattle.table.specs.declared.Row.{Row}
use Rattle.table.specs.declared.Table.{Table}
use Rattle.table.specs.Rows.{rows, is_closed, kind_in, is_dmpt, row_at, flow_at}

abbrev pub not_zero : ℕ → Bool
not_zero n = not (eqb n 0)

-- flow k of a row that is closed, or D-MPT, or neither
abbrev pub flow_broken : Bool → Bool → ℕ → Flow → Bool
flow_broken closed dmpt k f =
    ltb heard_mark f.heard
    || (closed && (not_zero f.heard || not_zero f.expected || not_zero f.held))
    || ltb longest f.held
    || (is_fresh f && (not_zero f.held || not_zero f.expected))
    || (dmpt && (not_zero f.held || (not_zero k && not (is_fresh f))))

-- a row by itself
abbrev pub id_broken : Row → Bool
id_broken row = (not (is_closed row.kind) && eqb row.id 0) || (is_closed row.kind && not_zero row.id)

abbrev pub kind_broken : Row → Bool
kind_broken row = not (is_closed row.kind) && kind_unknown row.kind

abbrev pub flow_broken_in : Row → ℕ → Bool
flow_broken_in row k = flow_broken (is_closed row.kind) (is_dmpt (kind_in row.kind)) k (flow_at row k)

abbrev pub row_broken : Row → Bool
row_broken row = kind_broken row || id_broken row || any (flow_broken_in row) flows

-- two open rows of one ID
abbrev pub same_open : Row → Row → Bool
same_open a b = not (is_closed a.kind) && not (is_closed b.kind) && eqb a.id b.id

-- the open ID of row r stands in an earlier row too
abbrev pub open_twice : Table → ℕ → Bool
open_twice t r = any (λ r'. same_open (row_at t r) (row_at t r')) r

unfoldable pub broken : Table → Bool
broken t = any (λ r. row_broken (row_at t r) || open_twice t r) rows
