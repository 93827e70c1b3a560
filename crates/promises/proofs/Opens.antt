-- Whether an open succeeds depends only on which IDs are open, and on what it asks for. No ID is open in two rows, so that as many rows
-- are open as IDs; and six rows have a free one exactly where fewer than six are open.
use Prim.Native.Nat.{ℕ, zero, suc, ◌<◌, ◌≤◌}
use mathlib.Core.Path.{◌≡◌, refl, sym, ap, ◌∙◌}
use mathlib.Core.Bool.{Bool, true, false, cond, not, ◌&&◌, ◌||◌, or_comm, or-false, or-true, true≢false}
use mathlib.Core.List.{List, [], ◌∷◌}
use native.Mathlib.Omega.{arith}
use lib.Dec.{eqb, ltb, leb, leb-suc-suc}
use lib.ListN.{length}
use borrow.Author.Tests.{lt-ltb}
use Rattle.octets.specs.Count.{any}
use Rattle.octets.proofs.Counts.{least-found, least_missed, none_all}
use Rattle.refusal.specs.Refusal.{first}
use Rattle.table.specs.declared.Request.{Request}
use Rattle.table.specs.declared.Table.{Table}
use Rattle.table.specs.Rows.{rows, is_closed, row_at, open_in, free_in, lowest_free}
use Rattle.table.specs.Broken.{broken}
use Rattle.table.specs.Calls.{is_open, open_refusals, opened}
use Rattle.table.proofs.Keeping.{rows_apart, opened-code}
use Rattle.octets.proofs.Distinct.{has, Distinct, same_length}

-- the IDs of the open rows below row r, the last one first
abbrev pub open_ids : Table → ℕ → List ℕ
open_ids t zero = []
open_ids t (suc r) = cond (free_in t r) (open_ids t r) ((row_at t r).id ∷ open_ids t r)

-- An ID is among them exactly where it is open in one of these rows.
ids_more : (free : Bool) (id i : ℕ) (ids : List ℕ) (before : Bool) → has i ids ≡ before →
    has i (cond free ids (id ∷ ids)) ≡ (before || (not free && eqb id i))
ids_more true id i ids before e = e ∙ sym (or-false before)
ids_more false id i ids before e = ap (λ (b : Bool). eqb id i || b) e ∙ or_comm (eqb id i) before

has_open : (t : Table) (i r : ℕ) → has i (open_ids t r) ≡ any (open_in t i) r
unfolding any
has_open t i zero = refl
has_open t i (suc r) = ids_more (free_in t r) (row_at t r).id i (open_ids t r) (any (open_in t i) r) (has_open t i r)

pub open_has : (t : Table) (i : ℕ) → is_open t i ≡ has i (open_ids t rows)
open_has t i = least-found (open_in t i) rows ∙ sym (has_open t i rows)

-- None stands there twice.
not_twice : (a b e : Bool) → b ≡ false → (not a && not b && e) ≡ false → (not a && e) ≡ false
not_twice true b e live h = refl
not_twice false true e live h = absurd (true≢false live)
not_twice false false e live h = h

new_id : (t : Table) → broken t ≡ false → (r : ℕ) → r < rows → free_in t r ≡ false → has (row_at t r).id (open_ids t r) ≡ false
new_id t whole r l live =
    has_open t (row_at t r).id r
    ∙ none_all (open_in t (row_at t r).id) r
    (λ r' m.
    not_twice (is_closed (row_at t r').kind) (is_closed (row_at t r).kind) (eqb (row_at t r').id (row_at t r).id) live
    (rows_apart t whole r' r (omega arith) l (λ e. omega arith)))

ids_distinct : (t : Table) → broken t ≡ false → (r : ℕ) → r ≤ rows → Distinct (open_ids t r)
ids_distinct t whole zero l = tt
ids_distinct t whole (suc r) l = pick (free_in t r) refl (ids_distinct t whole r (omega arith))
  where
    pick : (free : Bool) → free_in t r ≡ free → Distinct (open_ids t r) →
        Distinct (cond free (open_ids t r) ((row_at t r).id ∷ open_ids t r))
    pick true e below = below
    pick false e below = (new_id t whole r (omega arith) e, below)

-- There is a free row exactly where they are fewer than the rows.
ids_few : (t : Table) (r : ℕ) → length (open_ids t r) ≤ r
ids_few t zero = omega arith
ids_few t (suc r) = pick (free_in t r) (ids_few t r)
  where
    pick : (free : Bool) → length (open_ids t r) ≤ r → length (cond free (open_ids t r) ((row_at t r).id ∷ open_ids t r)) ≤ suc r
    pick true few = omega arith
    pick false few = omega arith

free_count : (t : Table) (r : ℕ) → any (free_in t) r ≡ ltb (length (open_ids t r)) r
unfolding any
free_count t zero = refl
free_count t (suc r) = pick (free_in t r) (free_count t r)
  where
    pick : (free : Bool) → any (free_in t) r ≡ ltb (length (open_ids t r)) r →
        (any (free_in t) r || free) ≡ ltb (length (cond free (open_ids t r) ((row_at t r).id ∷ open_ids t r))) (suc r)
    pick true below = or-true (any (free_in t) r) ∙ sym (lt-ltb (length (open_ids t r)) (suc r) (omega (arith, ids_few t r)))
    pick false below = or-false (any (free_in t) r) ∙ below ∙ sym (leb-suc-suc (suc (length (open_ids t r))) r)

full_count : (t : Table) → leb rows (lowest_free t) ≡ not (ltb (length (open_ids t rows)) rows)
full_count t = least_missed (free_in t) rows ∙ ap not (free_count t rows)

-- Two tables with the same open IDs.
pub full_alike : (t u : Table) → broken t ≡ false → broken u ≡ false → ((id : ℕ) → is_open t id ≡ is_open u id) →
    leb rows (lowest_free t) ≡ leb rows (lowest_free u)
full_alike t u whole whole' same =
    let many : length (open_ids t rows) ≡ length (open_ids u rows) =
    same_length (open_ids t rows) (open_ids u rows) (ids_distinct t whole rows (omega arith)) (ids_distinct u whole' rows (omega arith))
    (λ i. sym (open_has t i) ∙ same i ∙ open_has u i) in
    full_count t ∙ ap (λ (n : ℕ). not (ltb n rows)) many ∙ sym (full_count u)

pub opens_by_ids : (t u : Table) (q : Request) → length t.rows ≡ rows → length u.rows ≡ rows →
    broken t ≡ false → broken u ≡ false → ((id : ℕ) → is_open t id ≡ is_open u id) →
    (opened t q).code ≡ (opened u q).code
opens_by_ids t u q six six' whole whole' same =
    let order : first (open_refusals t q) ≡ first (open_refusals u q) =
    rw (whole, whole', same q.id, full_alike t u whole whole' same) refl in
    opened-code t q ∙ order ∙ sym (opened-code u q)
