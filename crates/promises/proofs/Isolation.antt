-- Isolation: what a session is told in answer to its own calls is what the session by itself would be told, a list that is made without any
-- table. So two histories with the same own calls, opened the same way and with a holding slice of the same length, tell it the same.
use Prim.Native.Nat.{ℕ}
use mathlib.Core.Path.{◌≡◌, refl, sym, ap, ◌∙◌}
use mathlib.Core.Bool.{Bool, true, false, cond}
use mathlib.Core.List.{List, [], ◌∷◌}
use native.Mathlib.Omega.{arith}
use lib.Dec.{eqb, ltb}
use lib.ListN.{length}
use borrow.Author.Tests.{eqb-true, lt-ltb}
use Rattle.octets.proofs.Stretches.{part_none}
use Rattle.octets.proofs.Counts.{sum_agree}
use Rattle.refusal.specs.Refusal.{first}
use Rattle.flow.specs.declared.Flow.{Flow}
use Rattle.flow.specs.Flow.{flows}
use Rattle.packet.specs.Header.{sub}
use Rattle.table.specs.declared.Request.{Request}
use Rattle.table.specs.Rows.{rows, row_at, find, held_in}
use Rattle.table.specs.Calls.{close_refusals, closed}
use Rattle.table.proofs.Keeping as table
use Rattle.card.specs.History.{Card, Call, opens, closes, hands, answer, after, empty_card}
use Rattle.promises.specs.Words.{of_session}
use Rattle.promises.specs.Isolation.{own, gets, ends, Told, told_by, told, card_after, Isolation, OpenByIds}
use Rattle.promises.proofs.Good.{Good, good-empty, good-after, good_all, holding-kept, holding-kept_all}
use Rattle.promises.proofs.Opens.{opens_by_ids}
use Rattle.promises.proofs.Session.{Session, begun, refusal, told_only, session_at, held_by_session, told_alone}
use Rattle.promises.proofs.Showing.{Shows, shown_begun, shown_still, code_alone, told_at_lem, shown_at}

module _ (session : ℕ) (named : eqb session 0 ≡ false) where
  -- The close of an open session is not refused, and drops what its flows hold.
  close_told : (c : Card) (a : Session) → Good c → Shows c session a → told_by (answer c (closes session)) ≡ told_only 0 (held_by_session a)
  unfolding answer closed
  close_told c a g v =
      let t = c.table in
      let live : ltb (find t session) rows ≡ true = lt-ltb (find t session) rows (v 0 (omega arith)).is_there in
      let none : first (close_refusals t session) ≡ 0 = rw (g.whole, live, named) refl in
      let holds : held_in (row_at t (find t session)) ≡ held_by_session a =
      sum_agree _ _ flows (λ k l. ap (λ (f : Flow). f.held) (v k l).its_record) in
      rw (none, holds, part_none [] 0) refl

  -- Call by call, what it is told comes from its own calls and not from the card.
  told_by_itself : (calls : List Call) (c : Card) (a : Session) (size : ℕ) → length c.holding ≡ size → Good c → Shows c session a →
      told session c calls ≡ told_alone size a (own session calls)
  unfolding told own told_alone
  told_by_itself [] c a size long g v = refl
  told_by_itself (opens q ∷ more) c a size long g v =
      let x = opens q in
      told_by_itself more (after c x) a size (holding-kept c x g ∙ long) (good-after c x g) (shown_still c x session a g v (λ k. refl) refl)
  told_by_itself (closes id ∷ more) c a size long g v =
      pick (λ d long' g' v'. told_by_itself more d a size long' g' v') (eqb id session) refl
    where
      pick : ((d : Card) → length d.holding ≡ size → Good d → Shows d session a →
          told session d more ≡ told_alone size a (own session more)) →
          (b : Bool) → eqb id session ≡ b →
          cond b (told_by (answer c (closes id)) ∷ []) (told session (after c (closes id)) more)
          ≡ told_alone size a (cond b (ends ∷ []) (own session more))
      pick later true e = rw (eqb-true id session e) (ap (λ (x : Told). x ∷ []) (close_told c a g v))
      pick later false e =
          let x = closes id in
          later (after c x) (holding-kept c x g ∙ long) (good-after c x g) (shown_still c x session a g v (λ k. refl) e)
  told_by_itself (hands y ∷ more) c a size long g v =
      pick (λ d b long' g' v'. told_by_itself more d b size long' g' v') (of_session session y.packet) refl
    where
      pick : ((d : Card) (b : Session) → length d.holding ≡ size → Good d → Shows d session b →
          told session d more ≡ told_alone size b (own session more)) →
          (b : Bool) → of_session session y.packet ≡ b →
          cond b (told_by (answer c (hands y)) ∷ told session (after c (hands y)) more)
          (told session (after c (hands y)) more)
          ≡ told_alone size a (cond b (gets y.packet (length y.output) (length y.lengths) ∷ own session more) (own session more))
      pick later true e =
          let x = hands y in
          let n = refusal size a y.packet (length y.output) (length y.lengths) in
          let code : (answer c x).code ≡ n =
          code_alone c y session a g v e ∙ ap (λ (m : ℕ). refusal m a y.packet (length y.output) (length y.lengths)) long in
          let rest : told session (after c x) more ≡ told_alone size (session_at n a (sub y.packet)) (own session more) =
          later (after c x) (session_at n a (sub y.packet)) (holding-kept c x g ∙ long) (good-after c x g)
          (shown_at c y session a g v e n code) in
          rw (told_at_lem c y session a g v e n code, rest) refl
      pick later false e =
          let x = hands y in
          later (after c x) a (holding-kept c x g ∙ long) (good-after c x g) (shown_still c x session a g v (λ k. rw e refl) refl)

-- From the open on: the session begins the same way in any card.
module _ (q : Request) (holding : List ℕ) (before : List Call)
    (z : (answer (card_after holding before) (opens q)).code ≡ 0) where
  good : Good (card_after holding before)
  good = good_all (empty_card holding) before (good-empty holding)

  named : eqb q.id 0 ≡ false
  unfolding answer
  named = (table.opens (card_after holding before).table q (sym (table.opened-code (card_after holding before).table q) ∙ z)).named

  told_since : (calls : List Call) →
      told q.id (after (card_after holding before) (opens q)) calls ≡ told_alone (length holding) (begun q) (own q.id calls)
  told_since calls =
      let x = opens q in
      told_by_itself q.id named calls (after (card_after holding before) x) (begun q) (length holding)
      (holding-kept (card_after holding before) x good ∙ holding-kept_all (empty_card holding) before (good-empty holding))
      (good-after (card_after holding before) x good) (shown_begun (card_after holding before) q good z)

pub isolation : Isolation
isolation q holding holding' before before' calls calls' long z z' same =
    let since : told_alone (length holding) (begun q) (own q.id calls) ≡ told_alone (length holding') (begun q) (own q.id calls') =
    rw (long, same) refl in
    told_since q holding before z calls ∙ since ∙ sym (told_since q holding' before' z' calls')

-- An open: no card that calls can have come to is broken, and so the open IDs decide.
pub open_by_ids : OpenByIds
unfolding answer
open_by_ids q holding holding' before before' same =
    let g = good_all (empty_card holding) before (good-empty holding) in
    let g' = good_all (empty_card holding') before' (good-empty holding') in
    opens_by_ids (card_after holding before).table (card_after holding' before').table q
    g.shaped.six g'.shaped.six g.whole g'.whole same
