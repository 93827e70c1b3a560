-- How one flow of an open session stands on a card: its session's kind, its record, its bytes. An opening begins with fresh flows, and
-- no open, and no close of another session, changes how it stands.
use Prim.Native.Nat.{ℕ, ◌<◌}
use mathlib.Core.Path.{◌≡◌, refl, sym, ap, ◌∙◌}
use mathlib.Core.Bool.{true, false, not, ◌&&◌, true≢false}
use mathlib.Core.Logic.{◌⊎◌, inl, inr}
use mathlib.Core.List.{List, []}
use native.Mathlib.Omega.{arith}
use lib.Dec.{eqb}
use lib.ListN.{length, get_or-replicate}
use lib.Seq.{get_or-set_same, get_or-set_other}
use borrow.Author.Tests.{eqb-true, eqb-false, ne_eqb}
use Rattle.octets.specs.Stretch.{part}
use Rattle.octets.proofs.Counts.{true-or-false, least-same, least_passes, none_at}
use Rattle.octets.proofs.Stretches.{part_none}
use Rattle.refusal.proofs.Laws.{and_right, and-false_by}
use Rattle.flow.specs.declared.Flow.{Flow}
use Rattle.flow.specs.Flow.{fresh, flows}
use Rattle.table.specs.declared.Request.{Request}
use Rattle.table.specs.declared.Terms.{Terms}
use Rattle.table.specs.declared.Row.{Row}
use Rattle.table.specs.declared.Table.{Table}
use Rattle.table.specs.Rows.{rows, is_closed, no_row, terms_of, terms_at, row_at, flow_at, closed_row, open_in, find, free_in}
use Rattle.table.specs.Rows.{lowest_free, with_row}
use Rattle.table.specs.Calls.{fresh_row, opened, closed}
use Rattle.table.proofs.Keeping.{opened-there, opened-table, opened-code, opens, closed-table, closed-code, closes}
use Rattle.card.specs.Receive.{place_of}
use Rattle.card.specs.History.{Card, opens as opens_call, closes as closes_call, answer, after}
use Rattle.promises.proofs.Good.{Good}

-- A flow of an open session: the session's kind, the flow's record, and the bytes that it holds.
pub record Stands (c : Card) (session flow : ℕ) (terms : Terms) (f : Flow) (held : List ℕ) : Type 0 where
  pub is_there : find c.table session < rows
  pub of_terms : terms_at c.table (find c.table session) ≡ terms
  pub its_record : flow_at (row_at c.table (find c.table session)) flow ≡ f
  pub its_bytes : part c.holding (place_of (find c.table session) flow) f.held ≡ held

-- It stands as before where its session is found as before, and its row, record and bytes are as before.
pub stands_by : (c d : Card) (session flow : ℕ) (terms : Terms) (f : Flow) (held : List ℕ) → Stands c session flow terms f held →
    ((r : ℕ) → r < rows → open_in d.table session r ≡ open_in c.table session r) →
    (let r = find c.table session in
    (terms_at d.table r ≡ terms_at c.table r)
    × (flow_at (row_at d.table r) flow ≡ flow_at (row_at c.table r) flow)
    × (part d.holding (place_of r flow) f.held ≡ part c.holding (place_of r flow) f.held)) →
    Stands d session flow terms f held
stands_by c d session flow terms f held s same as_before =
    let found : find d.table session ≡ find c.table session =
    least-same (open_in d.table session) (open_in c.table session) rows same in
    record {
      is_there = rw found s.is_there;
      of_terms = rw found (as_before.0 ∙ s.of_terms);
      its_record = rw found (as_before.1 ∙ s.its_record);
      its_bytes = rw found (as_before.2 ∙ s.its_bytes);
    }

-- the row where a session is found has it open
pub found_open : (t : Table) (session : ℕ) → find t session < rows → open_in t session (find t session) ≡ true
found_open t session l = least_passes (open_in t session) rows l

pub found_id : (t : Table) (session : ℕ) → find t session < rows → (row_at t (find t session)).id ≡ session
found_id t session l =
    eqb-true (row_at t (find t session)).id session
    (and_right (not (is_closed (row_at t (find t session)).kind)) (eqb (row_at t (find t session)).id session) (found_open t session l))

-- a row replaced, seen from another
other_row : (t : Table) (r : ℕ) (row : Row) (r' : ℕ) → (r' ≡ r → ⊥) → row_at (with_row t r row) r' ≡ row_at t r'
other_row t r row r' other = get_or-set_other t.rows r r' row no_row other

-- A row replaced in which the session was not open and is not open now.
module _ (t : Table) (session r : ℕ) (row : Row) (six : length t.rows ≡ rows) (inside : r < rows)
    (was-not : open_in t session r ≡ false) (is-not : (not (is_closed row.kind) && eqb row.id session) ≡ false) where
  same_open : (r' : ℕ) → r' < rows → open_in (with_row t r row) session r' ≡ open_in t session r'
  same_open r' l = by (true-or-false (eqb r' r))
    where
      by : (eqb r' r ≡ true) ⊎ (eqb r' r ≡ false) → open_in (with_row t r row) session r' ≡ open_in t session r'
      by (inl e) =
          rw (eqb-true r' r e, get_or-set_same t.rows r row no_row (omega (arith, six)), was-not) is-not
      by (inr e) = rw (other_row t r row r' (eqb-false r' r e)) refl

  not_its_row : find t session < rows → find t session ≡ r → ⊥
  not_its_row l e = true≢false (sym (found_open t session l) ∙ ap (open_in t session) e ∙ was-not)

  -- so every flow of the session stands as it stood
  row_elsewhere : (holding : List ℕ) (flow : ℕ) (terms : Terms) (f : Flow) (held : List ℕ) →
      Stands (record { table = t; holding = holding }) session flow terms f held →
      Stands (record { table = with_row t r row; holding = holding }) session flow terms f held
  row_elsewhere holding flow terms f held s =
      let there = other_row t r row (find t session) (not_its_row s.is_there) in
      stands_by (record { table = t; holding = holding }) (record { table = with_row t r row; holding = holding }) session flow terms f held
      s same_open
      (ap terms_of there, ap (λ (x : Row). flow_at x flow) there, refl)

-- Opening another session: the fresh row was free.
fresh-not : (q : Request) (session : ℕ) → (q.id ≡ session → ⊥) →
    (not (is_closed (fresh_row q).kind) && eqb (fresh_row q).id session) ≡ false
fresh-not q session other = and-false_by (not (is_closed (fresh_row q).kind)) (eqb q.id session) (ne_eqb q.id session other)

free_not : (t : Table) (session r : ℕ) → free_in t r ≡ true → open_in t session r ≡ false
free_not t session r free = rw free refl

pub open_stays : (c : Card) (q : Request) (session flow : ℕ) (terms : Terms) (f : Flow) (held : List ℕ) → Good c →
    Stands c session flow terms f held →
    (opened c.table q).code ≡ 0 → Stands (after c (opens_call q)) session flow terms f held
unfolding after
open_stays c q session flow terms f held g s z =
    let t = c.table in
    let o = opens t q (sym (opened-code t q) ∙ z) in
    let other : (q.id ≡ session → ⊥) =
    λ e. true≢false (sym (found_open t session s.is_there) ∙ ap (λ (i : ℕ). open_in t i (find t session)) (sym e)
    ∙ none_at (open_in t q.id) rows (find t session) o.absent s.is_there) in
    rw (opened-table t q z)
    (row_elsewhere t session (lowest_free t) (fresh_row q) g.shaped.six o.room
    (free_not t session (lowest_free t) (least_passes (free_in t) rows o.room)) (fresh-not q session other)
    c.holding flow terms f held s)

-- .. and where another session is open, this one is not
in_another : (t : Table) (id session : ℕ) → find t id < rows → (id ≡ session → ⊥) → open_in t session (find t id) ≡ false
in_another t id session l other =
    and-false_by (not (is_closed (row_at t (find t id)).kind)) (eqb (row_at t (find t id)).id session)
    (ne_eqb (row_at t (find t id)).id session (λ e. other (sym (found_id t id l) ∙ e)))

pub close_stays : (c : Card) (id session flow : ℕ) (terms : Terms) (f : Flow) (held : List ℕ) → Good c →
    Stands c session flow terms f held →
    (id ≡ session → ⊥) → (closed c.table id).code ≡ 0 → Stands (after c (closes_call id)) session flow terms f held
unfolding after
close_stays c id session flow terms f held g s other z =
    let t = c.table in
    let d = closes t id (sym (closed-code t id) ∙ z) in
    rw (closed-table t id z)
    (row_elsewhere t session (find t id) closed_row g.shaped.six d.there (in_another t id session d.there other) refl
    c.holding flow terms f held s)

-- An open that is not refused begins with fresh flows.
pub stands-opened : (c : Card) (q : Request) (flow : ℕ) → Good c → flow < flows → (answer c (opens_call q)).code ≡ 0 →
    Stands (after c (opens_call q)) q.id flow (terms_of (fresh_row q)) fresh []
unfolding answer after
stands-opened c q flow g l z =
    let t = c.table in
    let there = opened-there t q g.shaped.six z in
    let o = opens t q (sym (opened-code t q) ∙ z) in
    record {
      is_there = rw there.0 o.room;
      of_terms = rw (there.0, there.1) refl;
      its_record = rw (there.0, there.1) (get_or-replicate flows flow fresh fresh l);
      its_bytes = part_none c.holding (place_of (find (opened t q).table q.id) flow);
    }
