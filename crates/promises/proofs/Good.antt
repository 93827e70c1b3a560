-- What holds of every card that calls from an empty table can have come to, whatever was called: it has six rows of four flows, and it is
-- not broken. Nor does any call change the length of the holding slice; and one that is refused changes nothing at all.
use Prim.Native.Nat.{ℕ, zero, suc, ◌<◌}
use mathlib.Core.Path.{◌≡◌, refl, ap, ◌∙◌}
use mathlib.Core.Bool.{true, false}
use mathlib.Core.Logic.{◌⊎◌, inl, inr}
use mathlib.Core.List.{List, [], ◌∷◌}
use native.Mathlib.Omega.{arith}
use lib.Dec.{eqb}
use lib.ListN.{length, length-set, get_or-replicate}
use lib.Seq.{get_or-set_same, get_or-set_other}
use borrow.Author.Tests.{eqb-true, eqb-false}
use Rattle.octets.proofs.Counts.{true-or-false}
use Rattle.flow.specs.Flow.{flows}
use Rattle.packet.specs.Header.{Packet}
use Rattle.table.specs.declared.Request.{Request}
use Rattle.table.specs.declared.Row.{Row}
use Rattle.table.specs.declared.Table.{Table}
use Rattle.table.specs.Rows.{rows, no_row, row_at, closed_row, find, lowest_free, with_row}
use Rattle.table.specs.Broken.{broken}
use Rattle.table.specs.Calls.{fresh_row, opened_by, opened, closed_by, closed, open_refusals, close_refusals}
use Rattle.table.proofs.Keeping.{empty-unbroken, opened_keeps, closed_keeps, refused_keeps, refused_close_keeps}
use Rattle.refusal.specs.Refusal.{first}
use Rattle.join.specs.Slices.{Slices}
use Rattle.card.specs.Receive.{refused, received}
use Rattle.card.specs.History.{Card, Arrival, Call, opens, closes, hands, lent_with, handed, answer, after, after_all, empty_card}
use Rattle.card.proofs.Accepted.{received-refused}
use Rattle.card.proofs.Keeping.{received_keeps}
use Rattle.card.proofs.Step.{Shaped, one_flow_step}

pub record Good (c : Card) : Type 0 where
  pub shaped : Shaped c.table
  pub whole : broken c.table ≡ false

-- a row of four flows put into a table of six rows
row_shaped : (t : Table) (r : ℕ) (row : Row) → Shaped t → length row.flows ≡ flows → Shaped (with_row t r row)
row_shaped t r row s four =
    record {
      six = length-set t.rows r row ∙ s.six;
      four = λ r' l. at r' l (true-or-false (eqb r' r));
    }
  where
    at : (r' : ℕ) → r' < rows → (eqb r' r ≡ true) ⊎ (eqb r' r ≡ false) → length (row_at (with_row t r row) r').flows ≡ flows
    at r' l (inl e) =
        let here = eqb-true r' r e in
        let there : r < length t.rows = omega (arith, s.six) in
        rw (here, get_or-set_same t.rows r row no_row there) four
    at r' l (inr e) = rw (get_or-set_other t.rows r r' row no_row (eqb-false r' r e)) (s.four r' l)

-- The table, call by call.
opened_shaped : (c : ℕ) (t : Table) (q : Request) → Shaped t → Shaped (opened_by c t q).table
opened_shaped zero t q s = row_shaped t (lowest_free t) (fresh_row q) s refl
opened_shaped (suc c) t q s = s

closed_shaped : (c : ℕ) (t : Table) (id : ℕ) → Shaped t → Shaped (closed_by c t id).table
closed_shaped zero t id s = row_shaped t (find t id) closed_row s refl
closed_shaped (suc c) t id s = s

-- a data call, by its number
module _ (t : Table) (packet : Packet) (s : Slices) (shaped : Shaped t) where
  received_shaped : (c : ℕ) → (received t packet s).answer.code ≡ c → Shaped (received t packet s).answer.table
  unfolding refused
  received_shaped zero e = (one_flow_step t packet s shaped e).same_shape
  received_shaped (suc c) e = rw (received-refused t packet s c e) shaped

  received-holding : (c : ℕ) → (received t packet s).answer.code ≡ c → length (received t packet s).slices.holding ≡ length s.holding
  unfolding refused
  received-holding zero e = (one_flow_step t packet s shaped e).same-lengths.0
  received-holding (suc c) e = rw (received-refused t packet s c e) refl

pub good-empty : (holding : List ℕ) → Good (empty_card holding)
good-empty holding =
    record {
      shaped = record { six = refl; four = λ r l. ap (λ (row : Row). length row.flows) (get_or-replicate rows r closed_row no_row l) };
      whole = empty-unbroken;
    }

pub good-after : (c : Card) (x : Call) → Good c → Good (after c x)
unfolding after opened closed
good-after c (opens q) g =
    record {
      shaped = opened_shaped (first (open_refusals c.table q)) c.table q g.shaped;
      whole = opened_keeps c.table q g.whole;
    }
good-after c (closes id) g =
    record {
      shaped = closed_shaped (first (close_refusals c.table id)) c.table id g.shaped;
      whole = closed_keeps c.table id g.whole;
    }
good-after c (hands a) g =
    record {
      shaped = received_shaped c.table a.packet (lent_with c a) g.shaped (handed c a).answer.code refl;
      whole = received_keeps c.table a.packet (lent_with c a) g.whole;
    }

pub good_all : (c : Card) (calls : List Call) → Good c → Good (after_all c calls)
unfolding after_all
good_all c [] g = g
good_all c (x ∷ more) g = good_all (after c x) more (good-after c x g)

-- No call changes the length of the holding slice.
pub holding-kept : (c : Card) (x : Call) → Good c → length (after c x).holding ≡ length c.holding
unfolding after
holding-kept c (opens q) g = refl
holding-kept c (closes id) g = refl
holding-kept c (hands a) g = received-holding c.table a.packet (lent_with c a) g.shaped (handed c a).answer.code refl

pub holding-kept_all : (c : Card) (calls : List Call) → Good c → length (after_all c calls).holding ≡ length c.holding
unfolding after_all
holding-kept_all c [] g = refl
holding-kept_all c (x ∷ more) g = holding-kept_all (after c x) more (good-after c x g) ∙ holding-kept c x g

-- A call that is refused leaves the card as it was.
data_stays : (c : Card) (a : Arrival) (code : ℕ) → (answer c (hands a)).code ≡ code → (code ≡ 0 → ⊥) → after c (hands a) ≡ c
unfolding answer after refused
data_stays c a zero e some = absurd (some refl)
data_stays c a (suc code) e some = rw (received-refused c.table a.packet (lent_with c a) code e) refl

pub refused_stays : (c : Card) (x : Call) → ((answer c x).code ≡ 0 → ⊥) → after c x ≡ c
unfolding answer after
refused_stays c (opens q) refused = ap (λ (t : Table). record { table = t; holding = c.holding }) (refused_keeps c.table q refused)
refused_stays c (closes id) refused =
    ap (λ (t : Table). record { table = t; holding = c.holding }) (refused_close_keeps c.table id refused).0
refused_stays c (hands a) refused = data_stays c a (answer c (hands a)).code refl refused
