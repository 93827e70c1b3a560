-- The table of sessions (document 01, "The card in numbers"): six rows, one to a session, each with four flows that have a
-- record of their own. Rows and flows are read by number.
--
--     row     ID (32 bits)   kind (32 bits)   flow 0   flow 1   flow 2   flow 3        32 bytes
--     flow    mark (16 bits)   expected (16 bits)   held (16 bits)                      6 bytes
--
-- It is the table that the host program keeps, so all of it is plain numbers, which may be anything. A kind is 0 for a closed row, and 1
-- and 2 as in the packet check; what no call of ours leaves makes the table broken (Broken.antt).
use Rattle.std.specs.Prelude.{ℕ, ◌≡◌, Bool, true, false, cond, not, ◌&&◌, [], eqb, get_or, set, replicate}
use Rattle.octets.specs.Count.{least, sum_to}
use Rattle.flow.specs.declared.Flow.{Flow}
use Rattle.flow.specs.Flow.{fresh, flows, longest}
use Rattle.packet.specs.Check.{kind_psp, kind_dmpt}
use Rattle.table.specs.declared.Kind.{Kind}
use Rattle.table.specs.declared.Kind.TheVariants as kind
use Rattle.table.specs.declared.Row.{Row}
use Rattle.table.specs.declared.Table.{Table}
use Rattle.table.specs.declared.Terms.{Terms}

abbrev pub rows : ℕ
rows = 6

-- The kind number of a row: 0 closed, else the kind of its session. Of 0, and of a number above 2, `kind_in` says PSP, and no answer
-- depends on it: a closed row is held to all zeros, a kind above 2 is broken whatever its flows are, and 13 and 5 come before a packet is
-- read.
abbrev pub closed_kind : ℕ
closed_kind = 0

abbrev pub is_closed : ℕ → Bool
is_closed number = eqb number closed_kind

abbrev pub kind_in : ℕ → Kind
kind_in number = cond (eqb number kind_dmpt) kind.Dmpt kind.Psp

abbrev pub number_of : Kind → ℕ
number_of kind.Psp = kind_psp
number_of kind.Dmpt = kind_dmpt

abbrev pub is_dmpt : Kind → Bool
is_dmpt kind.Psp = false
is_dmpt kind.Dmpt = true

-- Row r of a table, flow k of a row. Past the end of a list stands a closed row, or a fresh flow. No rule is decided by it: where a
-- session has no row, or a packet names a flow that no row has, an earlier rule has refused.
abbrev pub no_row : Row
no_row = record { id = 0; kind = closed_kind; flows = [] }

abbrev pub row_at : Table → ℕ → Row
row_at t r = get_or t.rows r no_row

abbrev pub flow_at : Row → ℕ → Flow
flow_at row k = get_or row.flows k fresh

-- The terms of a session, which decide how its packets are read and joined: every session has the one longest frame so far.
abbrev pub terms_of : Row → Terms
terms_of row = record { kind = kind_in row.kind; longest = longest }

abbrev pub terms_at : Table → ℕ → Terms
terms_at t r = terms_of (row_at t r)

-- the closed row is all zero, and the empty table is six of them
abbrev pub closed_row : Row
closed_row = record { id = 0; kind = closed_kind; flows = replicate flows fresh }

abbrev pub empty : Table
empty = record { rows = replicate rows closed_row }

abbrev pub PermitsEmpty : Table → Type 0
PermitsEmpty answer = answer ≡ empty

-- whether the session is open in row r; the row where it is open, and the lowest free row: 6 where there is none. (A kind above 2 counts as
-- open here; 13 comes first.)
abbrev pub open_in : Table → ℕ → ℕ → Bool
open_in t id r = not (is_closed (row_at t r).kind) && eqb (row_at t r).id id

abbrev pub find : Table → ℕ → ℕ
find t id = least (open_in t id) rows

abbrev pub free_in : Table → ℕ → Bool
free_in t r = is_closed (row_at t r).kind

abbrev pub lowest_free : Table → ℕ
lowest_free t = least (free_in t) rows

-- the bytes that a row holds, all its flows together
abbrev pub held_in : Row → ℕ
held_in row = sum_to (λ k. (flow_at row k).held) flows

-- the table with one row, or one flow of a row, replaced and all else as it was
abbrev pub with_row : Table → ℕ → Row → Table
with_row t r row = record { rows = set t.rows r row }

abbrev pub row_with : Row → ℕ → Flow → Row
row_with row k f = record { id = row.id; kind = row.kind; flows = set row.flows k f }

abbrev pub with_flow : Table → ℕ → ℕ → Flow → Table
with_flow t r k f = with_row t r (row_with (row_at t r) k f)
