-- What the flows of a card keep, counted flow by flow: by the bytes in their places, by the table alone, or by how far the two differ. What
-- one call changes of it is told for all three at once: a row replaced by one that holds nothing, or one flow of one row.
use Prim.Native.Nat.{ℕ, ◌+◌, ◌-◌, ◌<◌, ◌≤◌}
use mathlib.Core.Path.{◌≡◌, refl, sym, ap, ◌∙◌}
use mathlib.Core.List.{List}
use native.Mathlib.Omega.{arith}
use lib.ListN.{length, get_or-replicate}
use lib.Seq.{get_or-set_same, get_or-set_other}
use Rattle.octets.specs.Stretch.{part}
use Rattle.octets.specs.Count.{sum_to}
use Rattle.octets.proofs.Stretches.{length_part, part_none}
use Rattle.octets.proofs.Counts.{sum_agree, sum-zero, sum_but_one}
use Rattle.flow.specs.declared.Flow.{Flow}
use Rattle.flow.specs.Flow.{flows, fresh}
use Rattle.table.specs.declared.Row.{Row}
use Rattle.table.specs.Rows.{rows, no_row, row_at, flow_at, closed_row, with_row}
use Rattle.card.specs.Receive.{place_of}
use Rattle.card.specs.History.{Card, empty_card}
use Rattle.card.proofs.Step.{Shaped}
use Rattle.promises.proofs.Measures.{Measure, by_length, by_nothing}

-- How a flow's bytes are counted: by the holding slice, the flow's place in it and the flow's record. Where the slice has the place, it is
-- a measure of the bytes there; nothing held counts 0; and no byte outside counts.
pub record Keeps (m : List ℕ → ℕ) (kept : List ℕ → ℕ → Flow → ℕ) : Type 0 where
  pub measure : Measure m
  pub nothing : (holding : List ℕ) (place : ℕ) (f : Flow) → f.held ≡ 0 → kept holding place f ≡ 0
  pub inside : (holding : List ℕ) (place : ℕ) (f : Flow) → place + f.held ≤ length holding →
      kept holding place f ≡ m (part holding place f.held)
  pub untouched : (old new : List ℕ) (place : ℕ) (f : Flow) → part new place f.held ≡ part old place f.held →
      kept new place f ≡ kept old place f

-- by the bytes themselves
abbrev pub in_places : (List ℕ → ℕ) → List ℕ → ℕ → Flow → ℕ
in_places m holding place f = m (part holding place f.held)

pub places_keep : (m : List ℕ → ℕ) → Measure m → Keeps m (in_places m)
places_keep m is =
    record {
      measure = is;
      nothing = λ holding place f z. ap (λ (n : ℕ). m (part holding place n)) z ∙ ap m (part_none holding place) ∙ is.none;
      inside = λ holding place f room. refl;
      untouched = λ old new place f same. ap m same;
    }

-- by the table
abbrev pub in_table : List ℕ → ℕ → Flow → ℕ
in_table holding place f = f.held

pub table_keeps : Keeps length in_table
table_keeps =
    record {
      measure = by_length;
      nothing = λ holding place f z. z;
      inside = λ holding place f room. sym (length_part holding place f.held room);
      untouched = λ old new place f same. refl;
    }

-- by how many bytes fewer than the table says the place has: none, where the slice has the place
abbrev pub missing : List ℕ → ℕ → Flow → ℕ
missing holding place f = f.held - length (part holding place f.held)

pub missing_keeps : Keeps (λ l. 0) missing
missing_keeps =
    record {
      measure = by_nothing;
      nothing = λ holding place f z. omega arith;
      inside = λ holding place f room. omega (arith, length_part holding place f.held room);
      untouched = λ old new place f same. ap (λ (l : List ℕ). f.held - length l) same;
    }

module _ (kept : List ℕ → ℕ → Flow → ℕ) where
  -- a flow, a row, all rows
  abbrev pub kept_at : Card → ℕ → ℕ → ℕ
  kept_at c r k = kept c.holding (place_of r k) (flow_at (row_at c.table r) k)

  abbrev pub kept_in_row : Card → ℕ → ℕ
  kept_in_row c r = sum_to (kept_at c r) flows

  abbrev pub kept_in_all : Card → ℕ
  kept_in_all c = sum_to (kept_in_row c) rows

  -- one flow of one row replaced: all that was kept, but for that flow
  pub flow_replaced : (c new : Card) (r k : ℕ) → r < rows → k < flows →
      ((r' j : ℕ) → r' < rows → j < flows → (r' ≡ r → j ≡ k → ⊥) → kept_at new r' j ≡ kept_at c r' j) →
      kept_in_all new + kept_at c r k ≡ kept_in_all c + kept_at new r k
  flow_replaced c new r k there inside others =
      omega (
        arith,
        sum_but_one (kept_in_row c) (kept_in_row new) r rows there
            (λ r' l other. sum_agree (kept_at new r') (kept_at c r') flows (λ j o. others r' j l o (λ e d. other e))),
        sum_but_one (kept_at c r) (kept_at new r) k flows inside (λ j o other. others r j there o (λ e d. other d)),
      )

-- no flow of the row holds anything
abbrev pub Bare : Row → Type 0
Bare row = (k : ℕ) → k < flows → (flow_at row k).held ≡ 0

-- so it is of a closed row, and of one that was just opened: their flows are the same
pub fresh-bare : Bare closed_row
fresh-bare k l = ap (λ (f : Flow). f.held) (get_or-replicate flows k fresh fresh l)

module _ {m : List ℕ → ℕ} {kept : List ℕ → ℕ → Flow → ℕ} (w : Keeps m kept) where
  pub bare_row : (c : Card) (r : ℕ) → Bare (row_at c.table r) → kept_in_row kept c r ≡ 0
  bare_row c r bare =
      sum-zero (kept_at kept c r) flows (λ k l. w.nothing c.holding (place_of r k) (flow_at (row_at c.table r) k) (bare k l))

  -- a row replaced by one that holds nothing: all that was kept, but for that row
  pub row_replaced : (c : Card) (r : ℕ) (row : Row) → Shaped c.table → r < rows → Bare row →
      kept_in_all kept (record { table = with_row c.table r row; holding = c.holding }) + kept_in_row kept c r ≡ kept_in_all kept c
  row_replaced c r row shaped there bare =
      let new : Card = record { table = with_row c.table r row; holding = c.holding } in
      let now : row_at new.table r ≡ row = get_or-set_same c.table.rows r row no_row (omega (arith, shaped.six)) in
      let none : kept_in_row kept new r ≡ 0 = bare_row new r (rw now bare) in
      omega (
        arith,
        none,
        sum_but_one (kept_in_row kept c) (kept_in_row kept new) r rows there
            (λ r' l other.
            ap (λ (x : Row). sum_to (λ k. kept c.holding (place_of r' k) (flow_at x k)) flows)
            (get_or-set_other c.table.rows r r' row no_row other)),
      )

-- an empty table keeps nothing
pub empty_keeps : {m : List ℕ → ℕ} {kept : List ℕ → ℕ → Flow → ℕ} → Keeps m kept → (holding : List ℕ) →
    kept_in_all kept (empty_card holding) ≡ 0
empty_keeps {m} {kept} w holding =
    sum-zero (kept_in_row kept (empty_card holding)) rows
    (λ r l.
    bare_row w (empty_card holding) r
    (rw (get_or-replicate rows r closed_row no_row l) fresh-bare))
