-- Rule 13 as the code asks it (specs/Inside.antt) is rule 13 as defined: a flow that heard a packet is held to what its row's kind allows,
-- and any other to zeros. Where no row is broken by itself the open rows are those whose ID is not 0, so that IDs alone tell whether a
-- session is open twice, and where it is open.
use Prim.Native.Nat.{ℕ, zero, suc, ◌<◌, ◌≤◌}
use mathlib.Core.Path.{◌≡◌, refl, sym, ap, ◌∙◌}
use mathlib.Core.Bool.{Bool, true, false, not, ◌&&◌, ◌||◌, or-true, or-false, and-true, and-false, cond, true≢false}
use mathlib.Core.List.{List, [], ◌∷◌}
use mathlib.Core.Logic.{◌⊎◌, inl, inr, ⊎_elim}
use native.Mathlib.Omega.{arith}
use borrow.Author.Tests.{eqb-true, eqb-false, eq-eqb, ne_eqb, lt-ltb, le-ltb, not-false}
use lib.Dec.{eqb, ltb}
use lib.ListN.{get_or, length, take}
use Rattle.std.specs.Prelude.{Ok, Err}
use Rattle.std.specs.List.{list_any, position}
use Rattle.octets.specs.Count.{any}
use Rattle.octets.proofs.Counts.{true-or-false, or-false-left, or-false-right, none_at, none_all, any_same, least-same}
use Rattle.flow.specs.declared.Flow.{Flow}
use Rattle.flow.specs.Flow.{flows, longest, heard_mark}
use Rattle.refusal.specs.declared.Refusal.{Refusal}
use Rattle.refusal.specs.declared.Refusal.TheVariants as refusal
use Rattle.packet.specs.Check.{kind_psp, kind_dmpt, kind_unknown}
use Rattle.table.specs.declared.Kind.{Kind}
use Rattle.table.specs.declared.Row.{Row}
use Rattle.table.specs.declared.Table.{Table}
use Rattle.table.specs.Rows.{rows, is_closed, is_dmpt, kind_in, no_row, row_at, flow_at, open_in, find, lowest_free}
use Rattle.table.specs.Broken.{not_zero, flow_broken, id_broken, kind_broken, flow_broken_in, row_broken, same_open, open_twice, broken}
use Rattle.table.specs.Inside.{flow_unfit, any_unfit, ids_of, id_twice, kind_of, row_told}
use Rattle.table.proofs.Keeping.{rows-sound}
use Rattle.octets.proofs.Listed.{any_front, any_listed, position_listed}

-- A flow, by its mark. One that heard nothing is all zero in any row, and one with a mark that there is not is in none.
abbrev flow_of_lem : ℕ → ℕ → ℕ → Flow
flow_of_lem heard expected held = record { heard = heard; expected = expected; held = held }

none_over : (d : ℕ) → not_zero d ≡ false → ltb longest d ≡ false
none_over d none = le-ltb longest d (omega (arith, eqb-true d 0 (not-false (eqb d 0) none)))

silent : (closed dmpt other over e d : Bool) → (d ≡ false → over ≡ false) →
    ((closed && (e || d)) || over || (d || e) || (dmpt && (d || (other && false)))) ≡ (e || d)
silent closed dmpt other over true d within = simp or-true
silent closed dmpt other over false true within = simp or-true
silent closed dmpt other over false false within = rw (within refl) (simp (and-false, or-false))

marks : (h : ℕ) → (h ≡ 0) ⊎ ((h ≡ heard_mark) ⊎ (heard_mark < h))
marks zero = inl refl
marks (suc zero) = inr (inl refl)
marks (suc (suc h)) = inr (inr (omega arith))

module _ (closed dmpt : Bool) (k : ℕ) (numbered : Bool) (most : ℕ) where
  by_mark : ((e d : ℕ) → flow_broken closed dmpt k (flow_of_lem heard_mark e d) ≡ flow_unfit numbered most (flow_of_lem heard_mark e d)) →
      (f : Flow) → flow_broken closed dmpt k f ≡ flow_unfit numbered most f
  by_mark heard f =
      ⊎_elim
      (λ (m : f.heard ≡ 0).
      rw m (silent closed dmpt (not_zero k) (ltb longest f.held) (not_zero f.expected) (not_zero f.held) (none_over f.held)))
      (⊎_elim
      (λ (m : f.heard ≡ heard_mark). rw m (heard f.expected f.held))
      (λ (m : heard_mark < f.heard).
      rw (lt-ltb heard_mark f.heard m, ne_eqb f.heard heard_mark (λ e. omega arith), ne_eqb f.heard 0 (λ e. omega arith)) refl))
      (marks f.heard)

-- The flows of a PSP row, of a D-MPT row and of a closed one: whether flow k may have heard a packet, and how much it may then hold.
psp_flow : (k : ℕ) (f : Flow) → flow_broken false false k f ≡ flow_unfit true longest f
psp_flow k f = by_mark false false k true longest (λ e d. simp or-false) f

closed-flow : (k : ℕ) (f : Flow) → flow_broken true false k f ≡ flow_unfit false 0 f
closed-flow k f = by_mark true false k false 0 (λ e d. refl) f

holds_some : (over d : Bool) → (d ≡ false → over ≡ false) → (over || false || (d || false)) ≡ d
holds_some over true within = simp or-true
holds_some over false within = rw (within refl) refl

some-held : (d : ℕ) → ltb 0 d ≡ not_zero d
some-held zero = refl
some-held (suc d) = rw (lt-ltb 0 (suc d) (omega arith), ne_eqb (suc d) 0 (λ e. omega arith)) refl

-- whether flow k may have heard a packet
abbrev hearing : Bool → Bool → ℕ → Bool
hearing first others zero = first
hearing first others (suc k) = others

dmpt_flow : (k : ℕ) (f : Flow) → flow_broken false true k f ≡ flow_unfit (hearing true false k) 0 f
dmpt_flow zero f =
    by_mark false true 0 true 0 (λ e d. rw (some-held d) (holds_some (ltb longest d) (not_zero d) (none_over d))) f
dmpt_flow (suc k) f = by_mark false true (suc k) false 0 (λ e d. simp (ne_eqb (suc k) 0 (λ z. omega arith), or-true)) f

alike : (b : Bool) (k : ℕ) → hearing b b k ≡ b
alike b zero = refl
alike b (suc k) = refl

-- A row by itself, in each branch of `row_broken`.
left_to_right : (a b c d : Bool) → (a || b || c || d) ≡ (a || (b || (c || (d || false))))
left_to_right true b c d = refl
left_to_right false true c d = refl
left_to_right false false true d = refl
left_to_right false false false true = refl
left_to_right false false false false = refl

-- (A row of a call has four flows; of any other list the code's way says the same, since a flow that is not there is fresh.)
flow_0_and_others : (first others : Bool) (most : ℕ) (row : Row) (fs : List Flow) → row.flows ≡ fs →
    any (λ k. flow_unfit (hearing first others k) most (flow_at row k)) flows ≡ any_unfit first others most row
unfolding any
flow_0_and_others first others most row [] e = rw e refl
flow_0_and_others first others most row (a ∷ []) e = rw e (left_to_right (flow_unfit first most a) false false false)
flow_0_and_others first others most row (a ∷ b ∷ []) e =
    rw e (left_to_right (flow_unfit first most a) (flow_unfit others most b) false false)
flow_0_and_others first others most row (a ∷ b ∷ c ∷ []) e =
    rw e (left_to_right (flow_unfit first most a) (flow_unfit others most b) (flow_unfit others most c) false)
flow_0_and_others first others most row (a ∷ b ∷ c ∷ d ∷ more) e =
    rw e
    (left_to_right (flow_unfit first most a) (flow_unfit others most b) (flow_unfit others most c) (flow_unfit others most d))

module _ (row : Row) where
  flows_asked : (first others : Bool) (most : ℕ) →
      ((k : ℕ) (f : Flow) →
      flow_broken (is_closed row.kind) (is_dmpt (kind_in row.kind)) k f ≡ flow_unfit (hearing first others k) most f) →
      any (flow_broken_in row) flows ≡ any_unfit first others most row
  flows_asked first others most same =
      any_same (flow_broken_in row) (λ k. flow_unfit (hearing first others k) most (flow_at row k)) flows (λ k l. same k (flow_at row k))
      ∙ flow_0_and_others first others most row row.flows refl

  pub psp_asked : row.kind ≡ kind_psp → row_broken row ≡ (eqb row.id 0 || any_unfit true true longest row)
  psp_asked kind =
      rw (flows_asked true true longest (λ k f. rw (kind, alike true k) (psp_flow k f)), kind, or-false) refl

  pub dmpt_asked : row.kind ≡ kind_dmpt → row_broken row ≡ (eqb row.id 0 || any_unfit true false 0 row)
  dmpt_asked kind = rw (flows_asked true false 0 (λ k f. rw kind (dmpt_flow k f)), kind, or-false) refl

  pub closed_asked : row.kind ≡ 0 → row_broken row ≡ (not_zero row.id || any_unfit false false 0 row)
  closed_asked kind = rw (flows_asked false false 0 (λ k f. rw (kind, alike false k) (closed-flow k f)), kind) refl

  pub other_asked : (row.kind ≡ kind_psp → ⊥) → (row.kind ≡ kind_dmpt → ⊥) →
      row_broken row ≡ (not_zero row.kind || not_zero row.id || any_unfit false false 0 row)
  other_asked psp dmpt =
      ⊎_elim
      (λ (z : eqb row.kind 0 ≡ true). closed_asked (eqb-true row.kind 0 z) ∙ rw z refl)
      (λ (z : eqb row.kind 0 ≡ false). rw (z, ne_eqb row.kind kind_psp psp, ne_eqb row.kind kind_dmpt dmpt) refl)
      (true-or-false (eqb row.kind 0))

-- A row that is not broken by itself is closed exactly where its ID is 0.
agree : (c z : Bool) → ((not c && z) || (c && not z)) ≡ false → c ≡ z
agree true true h = refl
agree true false h = absurd (true≢false h)
agree false true h = absurd (true≢false h)
agree false false h = refl

closed_by_id : (row : Row) → row_broken row ≡ false → is_closed row.kind ≡ eqb row.id 0
closed_by_id row sound =
    agree (is_closed row.kind) (eqb row.id 0)
    (or-false-right (kind_broken row) (id_broken row)
    (or-false-left (kind_broken row || id_broken row) (any (flow_broken_in row) flows) sound))

-- So two of them have one ID open exactly where their IDs are the same and not 0.
same_ids : (a b : ℕ) → (not (eqb a 0) && not (eqb b 0) && eqb a b) ≡ (eqb b a && not_zero a)
same_ids a b =
    ⊎_elim
    (λ (same : eqb a b ≡ true).
    rw (eqb-true a b same, eq-eqb b b refl)
    (⊎_elim (λ (z : eqb b 0 ≡ true). rw z refl) (λ (z : eqb b 0 ≡ false). rw z refl) (true-or-false (eqb b 0))))
    (λ (other : eqb a b ≡ false).
    rw (other, ne_eqb b a (λ e. eqb-false a b other (sym e))) (and-false (not (eqb a 0) && not (eqb b 0))))
    (true-or-false (eqb a b))

id_at : (t : Table) (r : ℕ) → r < rows → get_or (ids_of t) r 0 ≡ (row_at t r).id
id_at t zero l = refl
id_at t (suc zero) l = refl
id_at t (suc (suc zero)) l = refl
id_at t (suc (suc (suc zero))) l = refl
id_at t (suc (suc (suc (suc zero)))) l = refl
id_at t (suc (suc (suc (suc (suc zero))))) l = refl
id_at t (suc (suc (suc (suc (suc (suc r)))))) l = absurd (omega arith)

-- All rows.
module _ (t : Table) where
  abbrev any_row : Bool
  any_row = any (λ r. row_broken (row_at t r)) rows

  abbrev any_twice : Bool
  any_twice = any (λ r. any (id_twice (ids_of t) r) r) rows

  -- the ways out of `is_broken`: at a row, or by the IDs
  pub row_breaks : any_row ≡ true → broken t ≡ true
  row_breaks found =
      ⊎_elim
      (λ (b : broken t ≡ true). b)
      (λ (b : broken t ≡ false). absurd (true≢false (sym found ∙ none_all (λ r. row_broken (row_at t r)) rows (rows-sound t b))))
      (true-or-false (broken t))

  module _ (sound : any_row ≡ false) where
    closed_at : (r : ℕ) → r < rows → is_closed (row_at t r).kind ≡ eqb (row_at t r).id 0
    closed_at r l = closed_by_id (row_at t r) (none_at (λ r. row_broken (row_at t r)) rows r sound l)

    same_asked : (r r' : ℕ) → r < rows → r' < rows → same_open (row_at t r) (row_at t r') ≡ id_twice (ids_of t) r r'
    same_asked r r' l m =
        rw (id_at t r l, id_at t r' m, closed_at r l, closed_at r' m) (same_ids (row_at t r).id (row_at t r').id)

    twice_asked : (r : ℕ) → r < rows → open_twice t r ≡ any (id_twice (ids_of t) r) r
    twice_asked r l =
        any_same (λ r'. same_open (row_at t r) (row_at t r')) (id_twice (ids_of t) r) r (λ r' m. same_asked r r' l (omega arith))

    pub ids_break : broken t ≡ any_twice
    unfolding broken
    ids_break =
        any_same (λ r. row_broken (row_at t r) || open_twice t r) (λ r. any (id_twice (ids_of t) r) r) rows
        (λ r l. rw (none_at (λ r. row_broken (row_at t r)) rows r sound l) (twice_asked r l))

-- A session is looked for by its ID alone, which is not 0: no closed row has it.
pub found_by_id : (t : Table) (id r : ℕ) → broken t ≡ false → (id ≡ 0 → ⊥) → r < rows → open_in t id r ≡ eqb (row_at t r).id id
found_by_id t id r whole named l =
    ⊎_elim
    (λ (same : eqb (row_at t r).id id ≡ true).
    rw (closed_by_id (row_at t r) (rows-sound t whole r l), eqb-true (row_at t r).id id same, ne_eqb id 0 named) refl)
    (λ (other : eqb (row_at t r).id id ≡ false). rw other (and-false (not (is_closed (row_at t r).kind))))
    (true-or-false (eqb (row_at t r).id id))

-- What the searches answer, which go through the rows in order.
pub found-by_id : (t : Table) (id : ℕ) → length t.rows ≡ rows → broken t ≡ false → (id ≡ 0 → ⊥) →
    position (λ (row : Row). eqb row.id id) t.rows ≡ row_told (find t id)
found-by_id t id six whole named =
    position_listed (λ (row : Row). eqb row.id id) t.rows no_row
    ∙ rw six
    (ap row_told
    (least-same (λ r. eqb (row_at t r).id id) (open_in t id) rows (λ r l. sym (found_by_id t id r whole named l))))

pub free-told : (t : Table) → length t.rows ≡ rows → position (λ (row : Row). is_closed row.kind) t.rows ≡ row_told (lowest_free t)
free-told t six = position_listed (λ (row : Row). is_closed row.kind) t.rows no_row ∙ rw six refl

-- The rows one after another are the rows by number.
pub rows-asked : (t : Table) → length t.rows ≡ rows → list_any row_broken t.rows ≡ any (λ r. row_broken (row_at t r)) rows
rows-asked t six = any_listed row_broken t.rows no_row ∙ rw six refl

-- An ID that is not 0 is sought among those before it; 0 is not asked for.
id_sought : (ids : List ℕ) (i : ℕ) → i ≤ length ids → (get_or ids i 0 ≡ 0 → ⊥) →
    list_any (λ id. eqb id (get_or ids i 0)) (take i ids) ≡ any (id_twice ids i) i
id_sought ids i within named =
    any_front (λ id. eqb id (get_or ids i 0)) ids 0 i within
    ∙ any_same (λ j. eqb (get_or ids j 0) (get_or ids i 0)) (id_twice ids i) i
    (λ j l. rw (ne_eqb (get_or ids i 0) 0 named) (sym (and-true (eqb (get_or ids j 0) (get_or ids i 0)))))

id_none : (ids : List ℕ) (i : ℕ) → get_or ids i 0 ≡ 0 → any (id_twice ids i) i ≡ false
id_none ids i none =
    none_all (id_twice ids i) i (λ j l. rw (none, and-false (eqb (get_or ids j 0) 0)) refl)

pub id_asked : (ids : List ℕ) (i : ℕ) → i ≤ length ids →
    (not_zero (get_or ids i 0) && list_any (λ id. eqb id (get_or ids i 0)) (take i ids)) ≡ any (id_twice ids i) i
id_asked ids i within =
    ⊎_elim
    (λ (z : eqb (get_or ids i 0) 0 ≡ true). rw z (sym (id_none ids i (eqb-true (get_or ids i 0) 0 z))))
    (λ (z : eqb (get_or ids i 0) 0 ≡ false). rw z (id_sought ids i within (eqb-false (get_or ids i 0) 0 z)))
    (true-or-false (eqb (get_or ids i 0) 0))

-- A number that says a kind, and one that says none.
told_kind : (unknown : Bool) (kind told : Kind) → cond unknown (Err refusal.NumberUnknown) (Ok kind) ≡ Ok told →
    (unknown ≡ false) × (kind ≡ told)
told_kind true kind told e = cc
told_kind false kind told e = (refl, cc)

pub known_kind : (number : ℕ) (told : Kind) → kind_of number ≡ Ok told → (kind_unknown number ≡ false) × (kind_in number ≡ told)
known_kind number told e = told_kind (kind_unknown number) (kind_in number) told e

told_none : (unknown : Bool) (kind : Kind) (r : Refusal) → cond unknown (Err refusal.NumberUnknown) (Ok kind) ≡ Err r →
    (unknown ≡ true) × (refusal.NumberUnknown ≡ r)
told_none true kind r e = (refl, cc)
told_none false kind r e = cc

pub unknown_kind : (number : ℕ) (r : Refusal) → kind_of number ≡ Err r → (kind_unknown number ≡ true) × (refusal.NumberUnknown ≡ r)
unknown_kind number r e = told_none (kind_unknown number) (kind_in number) r e
