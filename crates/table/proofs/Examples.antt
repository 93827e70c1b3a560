-- Opens, closes and broken tables, by computation: the definitions answer what document 01 says. Each line would be refused with
-- another number in it.
use Prim.Native.Nat.{ℕ}
use mathlib.Core.Path.{◌≡◌, refl}
use mathlib.Core.Bool.{true, false}
use mathlib.Core.List.{[], ◌∷◌}
use lib.ListN.{replicate}
use Rattle.octets.specs.Count.{any, least, sum_to}
use Rattle.flow.specs.declared.Flow.{Flow}
use Rattle.flow.specs.Flow.{fresh, flows}
use Rattle.table.specs.declared.Kind.{Kind}
use Rattle.table.specs.declared.Kind.TheVariants as kind
use Rattle.table.specs.declared.Opening.{Opening}
use Rattle.table.specs.declared.Row.{Row}
use Rattle.table.specs.declared.Table.{Table}
use Rattle.table.specs.Rows.{is_dmpt, kind_in, empty, closed_row, row_at, find, with_row, with_flow}
use Rattle.table.specs.Broken.{broken}
use Rattle.table.specs.Calls.{asking, opened, opened_by_number, closed}

abbrev opened_as : Table → ℕ → Kind → Opening
opened_as t id asked = opened t (asking asked id)

abbrev flow_of_lem : ℕ → ℕ → ℕ → Flow
flow_of_lem heard expected held = record { heard = heard; expected = expected; held = held }

-- rows by their numbers: 0 closed, 1 PSP, 2 D-MPT
abbrev row_of : ℕ → ℕ → Row
row_of id kind = record { id = id; kind = kind; flows = replicate flows fresh }

-- a table with session 7 in row 0, and one with 7 to 12 in the six rows, 8 as D-MPT
abbrev one : Table
one = record { rows = row_of 7 1 ∷ closed_row ∷ closed_row ∷ closed_row ∷ closed_row ∷ closed_row ∷ [] }

abbrev six : Table
six = record { rows = row_of 7 1 ∷ row_of 8 2 ∷ row_of 9 1 ∷ row_of 10 1 ∷ row_of 11 1 ∷ row_of 12 1 ∷ [] }

abbrev five : Table
five = with_row six 5 closed_row

opened_so : (opened_as empty 7 kind.Psp ≡ record { code = 0; table = one })
    × (opened_as five 12 kind.Psp ≡ record { code = 0; table = six })
    × (opened_as (with_row one 0 closed_row) 7 kind.Psp ≡ record { code = 0; table = one })
    × (opened_as (with_row six 1 closed_row) 8 kind.Dmpt ≡ record { code = 0; table = six })
unfolding opened broken any least
opened_so = (refl, refl, refl, refl)

-- where a session stands, and what it is
there : (find one 7 ≡ 0) × (find six 12 ≡ 5) × (find six 13 ≡ 6) × (find empty 0 ≡ 6) × (row_at one 0 ≡ row_of 7 1)
    × (row_at six 1 ≡ row_of 8 2)
    × (row_at one 1 ≡ closed_row)
unfolding opened broken any least
there = (refl, refl, refl, refl, refl, refl, refl)

-- opening: ID 0, also in a full table; an open ID, also in a full table and as another kind; a seventh session; a refused open changes
-- nothing
opens-answered : ((opened_as empty 7 kind.Psp).code ≡ 0) × ((opened_as empty 0 kind.Psp).code ≡ 21) × ((opened_as six 0 kind.Psp).code ≡ 21)
    × ((opened_as one 7 kind.Dmpt).code ≡ 22) × ((opened_as six 7 kind.Psp).code ≡ 22) × ((opened_as six 13 kind.Psp).code ≡ 23)
    × ((opened_as six 13 kind.Psp).table ≡ six) × ((opened_as one 7 kind.Dmpt).table ≡ one)
    × ((opened_as empty 4294967295 kind.Dmpt).code ≡ 0)
unfolding opened broken any least
opens-answered = (refl, refl, refl, refl, refl, refl, refl, refl, refl)

-- the lowest free row, after a close in the middle; an ID closed and opened again, which starts fresh
again : (find (opened_as (closed six 9).table 13 kind.Psp).table 13 ≡ 2)
    × (row_at (opened_as (closed (with_flow one 0 1 (flow_of_lem 1 5 2048)) 7).table 7 kind.Dmpt).table 0 ≡ row_of 7 2)
unfolding opened closed broken any least sum_to
again = (refl, refl)

-- closing: what the flows hold is dropped, in one flow and in two; the row is emptied; a session that is not open, and ID 0
closes-answered : ((closed (with_flow one 0 3 (flow_of_lem 1 5 2048)) 7).dropped ≡ 2048)
    × ((closed (with_flow (with_flow one 0 3 (flow_of_lem 1 5 2048)) 0 1 (flow_of_lem 1 5 10)) 7).dropped ≡ 2058)
    × ((closed (with_flow one 0 3 (flow_of_lem 1 5 2048)) 7).code ≡ 0)
    × ((closed (with_flow one 0 3 (flow_of_lem 1 5 2048)) 7).table ≡ empty)
    × ((closed one 7).table ≡ empty) × ((closed one 7).dropped ≡ 0) × ((closed one 8).code ≡ 25) × ((closed one 0).code ≡ 25)
    × ((closed empty 0).code ≡ 25)
    × ((closed (with_flow one 0 3 (flow_of_lem 1 5 10)) 8).dropped ≡ 0)
unfolding opened closed broken any least sum_to
closes-answered = (refl, refl, refl, refl, refl, refl, refl, refl, refl, refl)

-- 13 comes first, and from a row that has nothing to do with the call: row 5 is closed and not all zero
elsewhere : ((opened_as (with_flow one 5 3 (flow_of_lem 1 0 0)) 9 kind.Psp).code ≡ 13)
    × ((opened_as (with_flow one 5 3 (flow_of_lem 1 0 0)) 0 kind.Psp).code ≡ 13)
    × ((closed (with_flow one 5 3 (flow_of_lem 1 0 0)) 7).code ≡ 13)
    × ((closed (with_flow one 5 3 (flow_of_lem 1 0 0)) 7).table ≡ with_flow one 5 3 (flow_of_lem 1 0 0))
unfolding opened closed broken any least sum_to
elsewhere = (refl, refl, refl, refl)

-- An open row with ID 0; an open ID in two rows, neighbours or not, of two kinds; a closed row with an ID, and with each number of a flow
-- not 0
rows-broken : (broken (with_row six 0 (row_of 0 1)) ≡ true) × (broken (with_row six 3 (row_of 0 2)) ≡ true)
    × (broken (with_row six 5 (row_of 7 1)) ≡ true) × (broken (with_row six 2 (row_of 8 1)) ≡ true)
    × (broken (with_row empty 5 (row_of 7 0)) ≡ true) × (broken (with_flow empty 5 3 (flow_of_lem 1 0 0)) ≡ true)
    × (broken (with_flow empty 0 0 (flow_of_lem 0 1 0)) ≡ true) × (broken (with_flow empty 0 0 (flow_of_lem 0 0 1)) ≡ true)
unfolding opened broken any least
rows-broken = (refl, refl, refl, refl, refl, refl, refl, refl)

-- 2,049 bytes held; a fresh flow with a number expected, or with bytes held; D-MPT with a byte held, in flow 0 and in flow 2, and with flow
-- 1 or 3 heard
flows-broken : (broken (with_flow six 0 2 (flow_of_lem 1 0 2049)) ≡ true) × (broken (with_flow six 0 2 (flow_of_lem 0 1 0)) ≡ true)
    × (broken (with_flow six 0 2 (flow_of_lem 0 0 1)) ≡ true) × (broken (with_flow six 1 0 (flow_of_lem 1 0 1)) ≡ true)
    × (broken (with_flow six 1 2 (flow_of_lem 1 0 1)) ≡ true) × (broken (with_flow six 1 1 (flow_of_lem 1 0 0)) ≡ true)
    × (broken (with_flow six 1 3 (flow_of_lem 1 0 0)) ≡ true)
unfolding opened broken any least
flows-broken = (refl, refl, refl, refl, refl, refl, refl)

-- just not broken: 2,048 bytes held in the last flow of the last row, a D-MPT session that has heard a number, the empty table, the full
-- one
not-broken : (broken (with_flow six 5 3 (flow_of_lem 1 65535 2048)) ≡ false) × (broken (with_flow six 1 0 (flow_of_lem 1 9 0)) ≡ false)
    × (broken empty ≡ false) × (broken six ≡ false) × (broken one ≡ false)
unfolding opened broken any least
not-broken = (refl, refl, refl, refl, refl)

-- a closed row has four flows, all zero
four-flows : closed_row
    ≡ record { id = 0; kind = 0; flows = flow_of_lem 0 0 0 ∷ flow_of_lem 0 0 0 ∷ flow_of_lem 0 0 0 ∷ flow_of_lem 0 0 0 ∷ [] }
four-flows = refl

kinds : (is_dmpt kind.Psp ≡ false) × (is_dmpt kind.Dmpt ≡ true) × (kind_in 1 ≡ kind.Psp) × (kind_in 2 ≡ kind.Dmpt)
kinds = (refl, refl, refl, refl)

-- all zeros are the empty table
abbrev zeros : Table
zeros = record { rows = replicate 6 (record { id = 0; kind = 0; flows = replicate 4 (flow_of_lem 0 0 0) }) }

zeros_empty : zeros ≡ empty
zeros_empty = refl

-- numbers that no call of ours leaves: a kind of 3, or of 65,537, in an open row and in one that is zero else; a mark of 2 or of 65,535,
-- in a PSP row, in flow 0 of a D-MPT row, and in a closed row
strange_numbers : (broken (with_row six 0 (row_of 7 3)) ≡ true) × (broken (with_row six 5 (row_of 12 65537)) ≡ true)
    × (broken (with_row empty 4 (row_of 0 3)) ≡ true) × (broken (with_flow six 0 2 (flow_of_lem 2 0 0)) ≡ true)
    × (broken (with_flow six 5 3 (flow_of_lem 65535 5 7)) ≡ true) × (broken (with_flow six 1 0 (flow_of_lem 2 0 0)) ≡ true)
    × (broken (with_flow empty 5 3 (flow_of_lem 2 0 0)) ≡ true)
unfolding broken any
strange_numbers = (refl, refl, refl, refl, refl, refl, refl)

-- from C a kind is asked for by its number: 24 before 13, and before 21
asked_by_number : ((opened_by_number empty 7 1) ≡ record { code = 0; table = one })
    × ((opened_by_number (with_row six 1 closed_row) 8 2) ≡ record { code = 0; table = six })
    × ((opened_by_number empty 7 0) ≡ record { code = 24; table = empty }) × ((opened_by_number six 0 3).code ≡ 24)
    × ((opened_by_number (with_row six 0 (row_of 7 3)) 0 3).code ≡ 24) × ((opened_by_number (with_row six 0 (row_of 7 3)) 0 1).code ≡ 13)
unfolding opened_by_number opened broken any least
asked_by_number = (refl, refl, refl, refl, refl, refl)

-- every flow of the closed row is counted, and of no other row: session 9 stands in row 2, session 7 in row 0
abbrev holding : Table
holding =
    with_flow (with_flow (with_flow (with_flow (with_flow six 2 0 (flow_of_lem 1 5 1)) 2 1 (flow_of_lem 1 5 10)) 2 2 (flow_of_lem 1 5 100))
    2 3
    (flow_of_lem 1 5 1000))
    0 0 (flow_of_lem 1 5 2000)

all_flows : ((closed holding 9).dropped ≡ 1111) × ((closed holding 7).dropped ≡ 2000) × ((closed holding 10).dropped ≡ 0)
unfolding closed broken any least sum_to
all_flows = (refl, refl, refl)

-- 13 before 22 and before 25
first_13 : ((opened_as (with_flow one 5 3 (flow_of_lem 1 0 0)) 7 kind.Psp).code ≡ 13)
    × ((closed (with_flow one 5 3 (flow_of_lem 1 0 0)) 9).code ≡ 13)
    × ((closed (with_flow one 5 3 (flow_of_lem 1 0 0)) 0).code ≡ 13)
unfolding opened closed broken any least sum_to
first_13 = (refl, refl, refl)

-- rule 13 in flows that nothing above looks at
other_flows : (broken (with_flow six 1 2 (flow_of_lem 1 0 0)) ≡ true) × (broken (with_flow empty 2 0 (flow_of_lem 1 0 0)) ≡ true)
    × (broken (with_flow six 5 0 (flow_of_lem 1 0 2049)) ≡ true)
unfolding broken any
other_flows = (refl, refl, refl)
