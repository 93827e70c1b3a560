-- Opening, closing and putting a flow back keep a table unbroken: each of them replaces at most one row, the new row is sound by
-- itself, and no other row has its ID open, so rule 13 finds nothing that it had not found before.
use Prim.Native.Nat.{ℕ, zero, suc, ◌<◌, ◌≤◌}
use mathlib.Core.Path.{◌≡◌, refl, sym, ap, ◌∙◌}
use mathlib.Core.Bool.{Bool, true, false, not, ◌&&◌, ◌||◌, and_comm, true≢false}
use mathlib.Core.Logic.{⊎_elim}
use native.Mathlib.Omega.{arith}
use borrow.Author.Tests.{eqb-true, eqb-false, eq-eqb, ne_eqb, ltb-true, ltb-false, leb-false, le-ltb, lt-leb, not-false}
use lib.Dec.{eqb, ltb}
use lib.ListN.{length, length-set}
use lib.Seq.{get_or-set_same}
use Rattle.octets.specs.Count.{any}
use Rattle.octets.proofs.Counts.{true-or-false, or-false-left, or-false-right, any_at, none_at, none_all, none-least}
use Rattle.octets.proofs.Numbers.{eqb-sym}
use Rattle.octets.proofs.Elements.{at_set, at_set_same}
use Rattle.octets.proofs.Counts.{least-none, least_at, least_below, least_passes}
use Rattle.refusal.specs.Refusal.{first}
use Rattle.refusal.proofs.Laws.{none-applies, and-rest}
use Rattle.flow.specs.declared.Flow.{Flow}
use Rattle.flow.specs.Flow.{fresh, flows, longest, heard_mark, is_fresh, emptied}
use Rattle.packet.specs.Check.{kind_unknown}
use Rattle.table.specs.declared.Kind.{Kind}
use Rattle.table.specs.declared.Kind.TheVariants as kind
use Rattle.table.specs.declared.Request.{Request}
use Rattle.table.specs.declared.Row.{Row}
use Rattle.table.specs.declared.Table.{Table}
use Rattle.table.specs.Rows.{rows, is_closed, kind_in, number_of, is_dmpt, row_at, flow_at, closed_row, empty}
use Rattle.table.specs.Rows.{open_in, find, free_in, lowest_free, row_with, with_row, with_flow}
use Rattle.table.specs.Broken.{not_zero, flow_broken, kind_broken, id_broken, flow_broken_in, row_broken, same_open, open_twice, broken}
use Rattle.table.specs.Calls.{is_open, fresh_row, open_refusals, opened_by, opened, close_refusals, closed_by, closed}

-- One row replaced.
after_row : (P : Row → Type 0) (t : Table) (r : ℕ) (row : Row) (r' : ℕ) → (r' ≡ r → P row) → P (row_at t r') →
    P (row_at (with_row t r row) r')
after_row P t r row r' new old = at_set P t.rows r row _ r' new old

-- Rule 13 holds a row against the earlier rows only; a replaced row has later ones too.
same-sym : (a b : Row) → same_open a b ≡ same_open b a
same-sym a b =
    ap (λ (z : Bool). z && eqb a.id b.id) (and_comm (not (is_closed a.kind)) (not (is_closed b.kind)))
    ∙ ap (λ (z : Bool). not (is_closed b.kind) && not (is_closed a.kind) && z) (eqb-sym a.id b.id)

-- What it is not to be broken: every row is sound by itself, and no two rows have one ID open.
row_clear : (t : Table) → broken t ≡ false → (r : ℕ) → r < rows → (row_broken (row_at t r) || open_twice t r) ≡ false
unfolding broken
row_clear t whole r l = none_at (λ r. row_broken (row_at t r) || open_twice t r) rows r whole l

pub rows-sound : (t : Table) → broken t ≡ false → (r : ℕ) → r < rows → row_broken (row_at t r) ≡ false
rows-sound t whole r l = or-false-left (row_broken (row_at t r)) (open_twice t r) (row_clear t whole r l)

apart_below : (t : Table) → broken t ≡ false → (r r' : ℕ) → r < rows → r' < r → same_open (row_at t r) (row_at t r') ≡ false
apart_below t whole r r' l m =
    none_at (λ r'. same_open (row_at t r) (row_at t r')) r r'
    (or-false-right (row_broken (row_at t r)) (open_twice t r) (row_clear t whole r l)) m

pub rows_apart : (t : Table) → broken t ≡ false → (r r' : ℕ) → r < rows → r' < rows → (r' ≡ r → ⊥) →
    same_open (row_at t r) (row_at t r') ≡ false
rows_apart t whole r r' l m other =
    ⊎_elim
    (λ (b : ltb r' r ≡ true). apart_below t whole r r' l (ltb-true r' r b))
    (λ (b : ltb r' r ≡ false). same-sym (row_at t r) (row_at t r') ∙ apart_below t whole r' r m (omega (arith, ltb-false r' r b)))
    (true-or-false (ltb r' r))

-- no session has ID 0
pub zero_unopened : (t : Table) → broken t ≡ false → is_open t 0 ≡ false
zero_unopened t whole =
    let none = least-none (open_in t 0) rows (none_all (open_in t 0) rows (λ r l. closed-zero (row_at t r) (rows-sound t whole r l))) in
    le-ltb (find t 0) rows (omega (arith, none))
  where
    closed-zero : (row : Row) → row_broken row ≡ false → (not (is_closed row.kind) && eqb row.id 0) ≡ false
    closed-zero row sound =
        let heading = or-false-left (kind_broken row || id_broken row) (any (flow_broken_in row) flows) sound in
        or-false-left (not (is_closed row.kind) && eqb row.id 0) (is_closed row.kind && not_zero row.id)
        (or-false-right (kind_broken row) (id_broken row) heading)

pub unbroken : (t : Table) → ((r : ℕ) → r < rows → row_broken (row_at t r) ≡ false) →
    ((r r' : ℕ) → r < rows → r' < rows → (r' ≡ r → ⊥) → same_open (row_at t r) (row_at t r') ≡ false) → broken t ≡ false
unfolding broken
unbroken t sound apart =
    none_all (λ r. row_broken (row_at t r) || open_twice t r) rows
    (λ r l. simp (
      sound r l,
      none_all (λ r'. same_open (row_at t r) (row_at t r')) r (λ r' m. apart r r' l (omega arith) (λ e. omega arith)),
    ))

pub empty-unbroken : broken empty ≡ false
unfolding broken any
empty-unbroken = refl

-- The step that every call takes: one row replaced.
pub row_keeps : (t : Table) (r : ℕ) (row : Row) → broken t ≡ false → row_broken row ≡ false →
    ((r' : ℕ) → r' < rows → (r' ≡ r → ⊥) → same_open row (row_at t r') ≡ false) → broken (with_row t r row) ≡ false
row_keeps t r row whole sound alone =
    unbroken (with_row t r row)
    (λ r' l. after_row (λ x. row_broken x ≡ false) t r row r' (λ e. sound) (rows-sound t whole r' l))
    (λ r' r'' l m other.
    after_row (λ x. same_open x (row_at (with_row t r row) r'') ≡ false) t r row r'
    (λ e. after_row (λ x. same_open row x ≡ false) t r row r'' (λ d. absurd (other (d ∙ sym e))) (alone r'' m (λ d. other (d ∙ sym e))))
    (after_row (λ x. same_open (row_at t r') x ≡ false) t r row r''
    (λ d. same-sym (row_at t r') row ∙ alone r' l (λ e. other (d ∙ sym e)))
    (rows_apart t whole r' r'' l m other)))

-- Opening: the ID is open nowhere, so that the fresh row is alone with it.
pub record Opens (t : Table) (id : ℕ) : Type 0 where
  pub whole : broken t ≡ false
  pub named : eqb id 0 ≡ false
  pub absent : any (open_in t id) rows ≡ false
  pub room : lowest_free t < rows

pub opens : (t : Table) (q : Request) → first (open_refusals t q) ≡ 0 → Opens t q.id
opens t q e =
    let passed = none-applies (open_refusals t q) refl e in
    record {
      whole = passed.0;
      named = passed.1.0;
      absent = none-least (open_in t q.id) rows (ltb-false (find t q.id) rows passed.1.1.0);
      room = leb-false rows (lowest_free t) passed.1.1.1.0;
    }

-- the number of a kind is one, is not that of a closed row, and says that kind
opens-some : (k : Kind) → is_closed (number_of k) ≡ false
opens-some kind.Psp = refl
opens-some kind.Dmpt = refl

some-kind : (k : Kind) → kind_unknown (number_of k) ≡ false
some-kind kind.Psp = refl
some-kind kind.Dmpt = refl

pub kind_back : (k : Kind) → kind_in (number_of k) ≡ k
kind_back kind.Psp = refl
kind_back kind.Dmpt = refl

fresh-sound : (q : Request) → eqb q.id 0 ≡ false → row_broken (fresh_row q) ≡ false
unfolding any
fresh-sound q named = by (is_dmpt (kind_in (number_of q.kind)))
  where
    by : (d : Bool) →
        (kind_broken (fresh_row q) || id_broken (fresh_row q)
        || any (λ k. flow_broken (is_closed (number_of q.kind)) d k (flow_at (fresh_row q) k)) flows)
        ≡ false
    by true = simp (opens-some q.kind, some-kind q.kind, named)
    by false = simp (opens-some q.kind, some-kind q.kind, named)

fresh_alone : (t : Table) (q : Request) → any (open_in t q.id) rows ≡ false → (r : ℕ) → r < rows →
    same_open (fresh_row q) (row_at t r) ≡ false
fresh_alone t q absent r l = simp (opens-some q.kind, eqb-sym q.id (row_at t r).id) (none_at (open_in t q.id) rows r absent l)

fresh_keeps : (t : Table) (q : Request) → Opens t q.id → broken (with_row t (lowest_free t) (fresh_row q)) ≡ false
fresh_keeps t q o =
    row_keeps t (lowest_free t) (fresh_row q) o.whole (fresh-sound q o.named)
    (λ r l other. fresh_alone t q o.absent r l)

opened_by_keeps : (c : ℕ) (t : Table) (q : Request) → first (open_refusals t q) ≡ c → broken t ≡ false →
    broken (opened_by c t q).table ≡ false
opened_by_keeps zero t q e whole = fresh_keeps t q (opens t q e)
opened_by_keeps (suc c) t q e whole = whole

pub opened_keeps : (t : Table) (q : Request) → broken t ≡ false → broken (opened t q).table ≡ false
unfolding opened
opened_keeps t q whole = opened_by_keeps (first (open_refusals t q)) t q refl whole

-- Closing: a closed row is never open with another.
emptied_keeps : (t : Table) (r : ℕ) → broken t ≡ false → broken (with_row t r closed_row) ≡ false
unfolding any
emptied_keeps t r whole = row_keeps t r closed_row whole refl (λ r' l other. refl)

closed_by_keeps : (c : ℕ) (t : Table) (id : ℕ) → broken t ≡ false → broken (closed_by c t id).table ≡ false
closed_by_keeps zero t id whole = emptied_keeps t (find t id) whole
closed_by_keeps (suc c) t id whole = whole

pub closed_keeps : (t : Table) (id : ℕ) → broken t ≡ false → broken (closed t id).table ≡ false
unfolding closed
closed_keeps t id whole = closed_by_keeps (first (close_refusals t id)) t id whole

row_flows : (row : Row) → row_broken row ≡ false → any (flow_broken_in row) flows ≡ false
row_flows row sound = or-false-right (kind_broken row || id_broken row) (any (flow_broken_in row) flows) sound

-- Putting a flow back: the row keeps its ID and its kind, so it is as alone as it was.
flow-sound : (row : Row) (k : ℕ) (f : Flow) → row_broken row ≡ false →
    flow_broken (is_closed row.kind) (is_dmpt (kind_in row.kind)) k f ≡ false → row_broken (row_with row k f) ≡ false
flow-sound row k f sound good =
    simp (
      or-false-left (kind_broken row || id_broken row) (any (flow_broken_in row) flows) sound,
      none_all (flow_broken_in (row_with row k f)) flows each,
    )
  where
    each : (j : ℕ) → j < flows → flow_broken_in (row_with row k f) j ≡ false
    each j l =
        at_set (λ g. flow_broken (is_closed row.kind) (is_dmpt (kind_in row.kind)) j g ≡ false) row.flows k f fresh j
        (λ e. rw e good)
        (none_at (flow_broken_in row) flows j (row_flows row sound) l)

pub flow_keeps : (t : Table) (r k : ℕ) (f : Flow) → broken t ≡ false → r < rows →
    flow_broken (is_closed (row_at t r).kind) (is_dmpt (kind_in (row_at t r).kind)) k f ≡ false → broken (with_flow t r k f) ≡ false
flow_keeps t r k f whole l good =
    row_keeps t r (row_with (row_at t r) k f) whole
    (flow-sound (row_at t r) k f (rows-sound t whole r l) good) (λ r' m other. rows_apart t whole r r' l m other)

-- the clauses of rule 13 for a flow, none of which holds
none_of_five : (a b c d e : Bool) → (a || b || c || d || e) ≡ false →
    (a ≡ false) × (b ≡ false) × (c ≡ false) × (d ≡ false) × (e ≡ false)
none_of_five a b c d e h =
    let abcd = or-false-left (a || b || c || d) e h in
    let abc = or-false-left (a || b || c) d abcd in
    let ab = or-false-left (a || b) c abc in (
      or-false-left a b ab,
      or-false-right a b ab,
      or-false-right (a || b) c abc,
      or-false-right (a || b || c) d abcd,
      or-false-right (a || b || c || d) e h,
    )

accepted-sound : (dmpt : Bool) (k : ℕ) (f : Flow) → f.heard ≡ heard_mark → f.held ≤ longest →
    (dmpt ≡ true → (k ≡ 0) × (f.held ≡ 0)) → flow_broken false dmpt k f ≡ false
accepted-sound false k f heard fits bare = simp (heard, le-ltb longest f.held fits)
accepted-sound true k f heard fits bare =
    simp (heard, le-ltb longest f.held fits, eq-eqb k 0 (bare refl).0, eq-eqb f.held 0 (bare refl).1)

-- what a flow that accepted a number is put back as
pub accepted_keeps : (t : Table) (r k : ℕ) (f : Flow) → broken t ≡ false → r < rows → is_closed (row_at t r).kind ≡ false →
    f.heard ≡ heard_mark → f.held ≤ longest → (is_dmpt (kind_in (row_at t r).kind) ≡ true → (k ≡ 0) × (f.held ≡ 0)) →
    broken (with_flow t r k f) ≡ false
accepted_keeps t r k f whole l live heard fits bare =
    flow_keeps t r k f whole l (rw live (accepted-sound (is_dmpt (kind_in (row_at t r).kind)) k f heard fits bare))

-- what a flow that heard a packet without a number is put back as: it holds nothing, and is else as it was
and_less : (a b c : Bool) → (a && (b || c)) ≡ false → (a && (false || c)) ≡ false
and_less true b c h = or-false-right b c h
and_less false b c h = refl

and_less_last : (a b c : Bool) → (a && (b || c)) ≡ false → (a && (b || false)) ≡ false
and_less_last true b c h = rw (or-false-left b c h) refl
and_less_last false b c h = refl

emptied-sound : (closed dmpt : Bool) (k : ℕ) (f : Flow) → flow_broken closed dmpt k f ≡ false →
    flow_broken closed dmpt k (emptied f) ≡ false
emptied-sound closed dmpt k f whole =
    let kept = not_zero f.heard || not_zero f.expected in
    let astray = not_zero k && not (is_fresh f) in
    let lines = none_of_five (ltb heard_mark f.heard) (closed && (kept || not_zero f.held)) (ltb longest f.held)
    (is_fresh f && (not_zero f.held || not_zero f.expected)) (dmpt && (not_zero f.held || astray)) whole in
    simp (
      lines.0,
      and_less_last closed kept (not_zero f.held) lines.1,
      and_less (is_fresh f) (not_zero f.held) (not_zero f.expected) lines.3,
      and_less dmpt (not_zero f.held) astray lines.4,
    )

pub emptied-flow_keeps : (t : Table) (r k : ℕ) → broken t ≡ false → r < rows → k < flows →
    broken (with_flow t r k (emptied (flow_at (row_at t r) k))) ≡ false
emptied-flow_keeps t r k whole l m =
    let row = row_at t r in
    flow_keeps t r k (emptied (flow_at row k)) whole l
    (emptied-sound (is_closed row.kind) (is_dmpt (kind_in row.kind)) k (flow_at row k)
    (none_at (flow_broken_in row) flows k (row_flows row (rows-sound t whole r l)) m))

-- A call that is refused leaves the table as it was, and drops nothing.
pub opened_by-some : (c : ℕ) (t : Table) (q : Request) → (c ≡ 0 → ⊥) → opened_by c t q ≡ record { code = c; table = t }
opened_by-some zero t q some = absurd (some refl)
opened_by-some (suc c) t q some = refl

opened_by-refused : (c : ℕ) (t : Table) (q : Request) → ((opened_by c t q).code ≡ 0 → ⊥) →
    (opened_by c t q).table ≡ t
opened_by-refused zero t q refused = absurd (refused refl)
opened_by-refused (suc c) t q refused = refl

pub refused_keeps : (t : Table) (q : Request) → ((opened t q).code ≡ 0 → ⊥) → (opened t q).table ≡ t
unfolding opened
refused_keeps t q refused = opened_by-refused (first (open_refusals t q)) t q refused

pub closed_by-some : (c : ℕ) (t : Table) (id : ℕ) → (c ≡ 0 → ⊥) → closed_by c t id ≡ record { code = c; dropped = 0; table = t }
closed_by-some zero t id some = absurd (some refl)
closed_by-some (suc c) t id some = refl

closed_by-refused : (c : ℕ) (t : Table) (id : ℕ) → ((closed_by c t id).code ≡ 0 → ⊥) →
    ((closed_by c t id).table ≡ t) × ((closed_by c t id).dropped ≡ 0)
closed_by-refused zero t id refused = absurd (refused refl)
closed_by-refused (suc c) t id refused = (refl, refl)

pub refused_close_keeps : (t : Table) (id : ℕ) → ((closed t id).code ≡ 0 → ⊥) →
    ((closed t id).table ≡ t) × ((closed t id).dropped ≡ 0)
unfolding closed
refused_close_keeps t id refused = closed_by-refused (first (close_refusals t id)) t id refused

-- The answered number is that of the order, and 0 comes with the replaced row.
opened_by-code : (c : ℕ) (t : Table) (q : Request) → (opened_by c t q).code ≡ c
opened_by-code zero t q = refl
opened_by-code (suc c) t q = refl

pub opened-code : (t : Table) (q : Request) → (opened t q).code ≡ first (open_refusals t q)
unfolding opened
opened-code t q = opened_by-code (first (open_refusals t q)) t q

abbrev pub after_open : Table → Request → Table
after_open t q = with_row t (lowest_free t) (fresh_row q)

pub opened-table : (t : Table) (q : Request) → (opened t q).code ≡ 0 → (opened t q).table ≡ after_open t q
unfolding opened
opened-table t q z = rw (sym (opened_by-code (first (open_refusals t q)) t q) ∙ z)

closed_by-code : (c : ℕ) (t : Table) (id : ℕ) → (closed_by c t id).code ≡ c
closed_by-code zero t id = refl
closed_by-code (suc c) t id = refl

pub closed-code : (t : Table) (id : ℕ) → (closed t id).code ≡ first (close_refusals t id)
unfolding closed
closed-code t id = closed_by-code (first (close_refusals t id)) t id

abbrev pub after_close : Table → ℕ → Table
after_close t id = with_row t (find t id) closed_row

pub closed-table : (t : Table) (id : ℕ) → (closed t id).code ≡ 0 → (closed t id).table ≡ after_close t id
unfolding closed
closed-table t id z = rw (sym (closed_by-code (first (close_refusals t id)) t id) ∙ z)

-- Where an opened session is found: in its fresh row, for it was open nowhere else. Here the length counts, since in a shorter
-- table the lowest free row may lie past the end.
abbrev opens_as : ℕ → Row → Bool
opens_as id row = not (is_closed row.kind) && eqb row.id id

fresh_open : (q : Request) → opens_as q.id (fresh_row q) ≡ true
fresh_open q = simp (opens-some q.kind) (eq-eqb q.id q.id refl)

fresh_at : (t : Table) (q : Request) → length t.rows ≡ rows → Opens t q.id →
    row_at (after_open t q) (lowest_free t) ≡ fresh_row q
fresh_at t q six o = get_or-set_same t.rows (lowest_free t) (fresh_row q) _ (omega (arith, o.room))

fresh-first : (t : Table) (q : Request) → Opens t q.id → any (open_in (after_open t q) q.id) (lowest_free t) ≡ false
fresh-first t q o =
    none_all (open_in (after_open t q) q.id) (lowest_free t)
    (λ r l.
    after_row (λ row. opens_as q.id row ≡ false) t (lowest_free t) (fresh_row q) r
    (λ e. absurd (below r l e))
    (none_at (open_in t q.id) rows r o.absent (omega (arith, o.room))))
  where
    below : (r : ℕ) → r < lowest_free t → r ≡ lowest_free t → ⊥
    below r l e = omega arith

fresh-found : (t : Table) (q : Request) → length t.rows ≡ rows → Opens t q.id →
    find (after_open t q) q.id ≡ lowest_free t
fresh-found t q six o =
    least_at (open_in (after_open t q) q.id) rows (lowest_free t) (fresh-first t q o)
    (ap (opens_as q.id) (fresh_at t q six o) ∙ fresh_open q) o.room

pub opened-there : (t : Table) (q : Request) → length t.rows ≡ rows → (opened t q).code ≡ 0 →
    (find (opened t q).table q.id ≡ lowest_free t) × (row_at (opened t q).table (lowest_free t) ≡ fresh_row q)
opened-there t q six z =
    let o = opens t q (sym (opened-code t q) ∙ z) in
    rw (opened-table t q z) (fresh-found t q six o, fresh_at t q six o)

-- A closed session can be opened again: the unbroken table had it open in one row only, and that row is free now.
pub record Closes (t : Table) (id : ℕ) : Type 0 where
  pub whole : broken t ≡ false
  pub named : eqb id 0 ≡ false
  pub there : find t id < rows

pub closes : (t : Table) (id : ℕ) → first (close_refusals t id) ≡ 0 → Closes t id
closes t id e =
    let passed = none-applies (close_refusals t id) refl e in
    record {
      whole = passed.0;
      named = or-false-right (not (is_open t id)) (eqb id 0) passed.1.0;
      there = ltb-true (find t id) rows (not-false (is_open t id) (or-false-left (not (is_open t id)) (eqb id 0) passed.1.0));
    }

not_both : (a b : Bool) (m n id : ℕ) → (a && eqb m id) ≡ true → (a && b && eqb m n) ≡ false → (b && eqb n id) ≡ false
not_both true b m n id p q = rw (eqb-sym n id, ← eqb-true m id p) q
not_both false b m n id p q = absurd (true≢false (sym p))

pub only_there : (t : Table) (id : ℕ) → Closes t id → (r : ℕ) → r < rows → (r ≡ find t id → ⊥) → open_in t id r ≡ false
only_there t id c r l other =
    not_both (not (is_closed (row_at t (find t id)).kind)) (not (is_closed (row_at t r).kind)) (row_at t (find t id)).id (row_at t r).id id
    (least_passes (open_in t id) rows c.there) (rows_apart t c.whole (find t id) r c.there l other)

closed_absent : (t : Table) (id : ℕ) → Closes t id → any (open_in (after_close t id) id) rows ≡ false
closed_absent t id c =
    none_all (open_in (after_close t id) id) rows
    (λ r l.
    ⊎_elim
    (λ (h : eqb r (find t id) ≡ true).
    rw (eqb-true r (find t id) h) (at_set_same (λ row. opens_as id row ≡ false) t.rows (find t id) closed_row _ refl refl))
    (λ (h : eqb r (find t id) ≡ false).
    after_row (λ row. opens_as id row ≡ false) t (find t id) closed_row r (λ e. refl) (only_there t id c r l (eqb-false r (find t id) h)))
    (true-or-false (eqb r (find t id))))

closed-room : (t : Table) (id : ℕ) → Closes t id → lowest_free (after_close t id) < rows
closed-room t id c =
    least_below (free_in (after_close t id)) rows
    (any_at (free_in (after_close t id)) rows (find t id)
    (at_set_same (λ row. is_closed row.kind ≡ true) t.rows (find t id) closed_row _ refl refl) c.there)

closed-opens : (t : Table) (id : ℕ) → Closes t id → Opens (after_close t id) id
closed-opens t id c =
    record {
      whole = emptied_keeps t (find t id) c.whole;
      named = c.named;
      absent = closed_absent t id c;
      room = closed-room t id c;
    }

none_given : (t : Table) (q : Request) → Opens t q.id → first (open_refusals t q) ≡ 0
none_given t q o =
    let nowhere : find t q.id ≡ rows = least-none (open_in t q.id) rows o.absent in
    simp (o.whole, o.named, le-ltb (find t q.id) rows (omega arith), lt-leb rows (lowest_free t) o.room)

pub reopens : (t : Table) (q : Request) → (closed t q.id).code ≡ 0 → (opened (closed t q.id).table q).code ≡ 0
reopens t q z =
    let c = closes t q.id (sym (closed-code t q.id) ∙ z) in
    rw (closed-table t q.id z) (opened-code (after_close t q.id) q ∙ none_given (after_close t q.id) q (closed-opens t q.id c))

closed-length : (t : Table) (id : ℕ) → (closed t id).code ≡ 0 → length (closed t id).table.rows ≡ length t.rows
closed-length t id z = rw (closed-table t id z) (length-set t.rows (find t id) closed_row)

-- .. and it starts fresh
pub reopens_fresh : (t : Table) (q : Request) → length t.rows ≡ rows → (closed t q.id).code ≡ 0 →
    let after = (opened (closed t q.id).table q).table in
    row_at after (find after q.id) ≡ fresh_row q
reopens_fresh t q six z =
    let there = opened-there (closed t q.id).table q (closed-length t q.id z ∙ six) (reopens t q z) in
    rw there.0 there.1

-- What a flow that does not break its row is known to have: rule 13 overlooks nothing.
pub record FlowWhole (closed dmpt : Bool) (k : ℕ) (f : Flow) : Type 0 where
  pub marked : f.heard ≤ heard_mark
  pub bare : closed ≡ true → (f.heard ≡ 0) × (f.expected ≡ 0) × (f.held ≡ 0)
  pub fits : f.held ≤ longest
  pub unheard : f.heard ≡ 0 → (f.held ≡ 0) × (f.expected ≡ 0)
  pub holds_none : dmpt ≡ true → f.held ≡ 0
  pub one_flow : dmpt ≡ true → (k ≡ 0 → ⊥) → f.heard ≡ 0

is_zero : (n : ℕ) → not_zero n ≡ false → n ≡ 0
is_zero n h = eqb-true n 0 (not-false (eqb n 0) h)

bare_of : (f : Flow) → (not_zero f.heard || not_zero f.expected || not_zero f.held) ≡ false →
    (f.heard ≡ 0) × (f.expected ≡ 0) × (f.held ≡ 0)
bare_of f h =
    let two = or-false-left (not_zero f.heard || not_zero f.expected) (not_zero f.held) h in (
      is_zero f.heard (or-false-left (not_zero f.heard) (not_zero f.expected) two),
      is_zero f.expected (or-false-right (not_zero f.heard) (not_zero f.expected) two),
      is_zero f.held (or-false-right (not_zero f.heard || not_zero f.expected) (not_zero f.held) h),
    )

module _ (closed dmpt : Bool) (k : ℕ) (f : Flow) (whole : flow_broken closed dmpt k f ≡ false) where
  -- the clauses of `flow_broken`, without the test before each
  abbrev some : Bool
  some = not_zero f.heard || not_zero f.expected || not_zero f.held

  abbrev waits : Bool
  waits = not_zero f.held || not_zero f.expected

  abbrev astray : Bool
  astray = not_zero f.held || (not_zero k && not (is_fresh f))

  lines : (ltb heard_mark f.heard ≡ false)
      × ((closed && some) ≡ false)
      × (ltb longest f.held ≡ false)
      × ((is_fresh f && waits) ≡ false)
      × ((dmpt && astray) ≡ false)
  lines = none_of_five (ltb heard_mark f.heard) (closed && some) (ltb longest f.held) (is_fresh f && waits) (dmpt && astray) whole

  zeros : f.heard ≡ 0 → waits ≡ false
  zeros e = and-rest (is_fresh f) waits lines.3 (eq-eqb f.heard 0 e)

  plain : dmpt ≡ true → astray ≡ false
  plain e = and-rest dmpt astray lines.4 e

  pub flow-whole : FlowWhole closed dmpt k f
  flow-whole =
      record {
        marked = ltb-false heard_mark f.heard lines.0;
        bare = λ e. bare_of f (and-rest closed some lines.1 e);
        fits = ltb-false longest f.held lines.2;
        unheard = λ e. (
          is_zero f.held (or-false-left (not_zero f.held) (not_zero f.expected) (zeros e)),
          is_zero f.expected (or-false-right (not_zero f.held) (not_zero f.expected) (zeros e)),
        );
        holds_none = λ e. is_zero f.held (or-false-left (not_zero f.held) (not_zero k && not (is_fresh f)) (plain e));
        one_flow = λ e other.
            let strayed = or-false-right (not_zero f.held) (not_zero k && not (is_fresh f)) (plain e) in
            is_zero f.heard (and-rest (not_zero k) (not (is_fresh f)) strayed (ap not (ne_eqb k 0 other)));
      }

-- .. and so each flow of a row, and of a table, that is not broken
pub row_whole : (row : Row) → row_broken row ≡ false → (k : ℕ) → k < flows →
    FlowWhole (is_closed row.kind) (is_dmpt (kind_in row.kind)) k (flow_at row k)
row_whole row sound k m =
    flow-whole (is_closed row.kind) (is_dmpt (kind_in row.kind)) k (flow_at row k)
    (none_at (flow_broken_in row) flows k (row_flows row sound) m)

pub flows-whole : (t : Table) → broken t ≡ false → (r k : ℕ) → r < rows → k < flows →
    FlowWhole (is_closed (row_at t r).kind) (is_dmpt (kind_in (row_at t r).kind)) k (flow_at (row_at t r) k)
flows-whole t whole r k l m = row_whole (row_at t r) (rows-sound t whole r l) k m
