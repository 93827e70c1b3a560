-- The account of one call, by any measure: what it takes in and what was kept before is delivered, dropped or kept afterwards.
use Prim.Native.Nat.{ℕ, zero, suc, ◌+◌, ◌<◌}
use mathlib.Core.Path.{◌≡◌, refl, ap, ◌∙◌}
use mathlib.Core.Bool.{cond, not}
use mathlib.Core.List.{List, []}
use native.Mathlib.Omega.{arith}
use lib.Dec.{eqb}
use borrow.Author.Tests.{ltb-true, not-false}
use Rattle.refusal.specs.Refusal.{first}
use Rattle.refusal.proofs.Laws.{none-applies, when_accepted, when_refused}
use Rattle.octets.specs.Stretch.{joined}
use Rattle.octets.proofs.Stretches.{joined-none, cut-part-none}
use Rattle.octets.proofs.Counts.{or-false-left, least_passes}
use Rattle.flow.specs.declared.Flow.{Flow}
use Rattle.packet.specs.Header.{Packet, sub}
use Rattle.table.specs.declared.Request.{Request}
use Rattle.table.specs.Rows.{rows, find, free_in, lowest_free, closed_row, terms_at}
use Rattle.table.specs.Calls.{is_open, fresh_row, open_refusals, opened_by, opened, close_refusals, closed_by, closed}
use Rattle.table.proofs.Keeping.{flows-whole, opens as opens-there}
use Rattle.join.specs.Join.{Fate}
use Rattle.card.specs.Receive.{Outcome, row_of, heard_by, frames_found, refused}
use Rattle.card.specs.History.{Card, Arrival, Call, opens, closes, hands, lent_with, handed, answer, after}
use Rattle.card.proofs.Accepted.{received-refused}
use Rattle.card.proofs.Step.{frames_in}
use Rattle.promises.specs.Account.{taken_by, delivered_by, dropped_by, packet_body}
use Rattle.promises.proofs.Good.{Good}
use Rattle.promises.proofs.Holdings.{Keeps, kept_in_row, kept_in_all, fresh-bare, bare_row, row_replaced}
use Rattle.promises.proofs.OnePacket.{packet_balances}

-- what a call drops: a close all that its row keeps, a packet what the rules say
abbrev pub dropped_in : (List ℕ → ℕ) → (List ℕ → ℕ → Flow → ℕ) → Card → Call → ℕ
dropped_in m kept c (opens q) = 0
dropped_in m kept c (closes id) = cond (eqb (answer c (closes id)).code 0) (kept_in_row kept c (find c.table id)) 0
dropped_in m kept c (hands a) = m (dropped_by c (hands a))

abbrev pub Balances : (List ℕ → ℕ) → (List ℕ → ℕ → Flow → ℕ) → Card → Call → Type 0
Balances m kept c x = m (taken_by c x) + kept_in_all kept c ≡ m (delivered_by c x) + dropped_in m kept c x + kept_in_all kept (after c x)

-- where no frame is reported, none is found
pub no_frames : (lengths out : List ℕ) → joined (frames_found 0 lengths out) ≡ []
no_frames lengths out = ap joined (cut-part-none lengths out) ∙ joined-none

module _ {m : List ℕ → ℕ} {kept : List ℕ → ℕ → Flow → ℕ} (w : Keeps m kept) (c : Card) (good : Good c) where
  -- Opening takes a free row, and a free row of a table that is not broken holds nothing.
  opens_by : (n : ℕ) (q : Request) → first (open_refusals c.table q) ≡ n →
      kept_in_all kept (record { table = (opened_by n c.table q).table; holding = c.holding }) ≡ kept_in_all kept c
  opens_by zero q e =
      let r = lowest_free c.table in
      let there : r < rows = (opens-there c.table q e).room in
      let free = least_passes (free_in c.table) rows there in
      omega (
        arith,
        row_replaced w c r (fresh_row q) good.shaped there fresh-bare,
        bare_row w c r (λ k l. ((flows-whole c.table good.whole r k there l).bare free).2),
      )
  opens_by (suc n) q e = refl

  -- Closing drops what its row keeps.
  closes_by : (n : ℕ) (id : ℕ) → first (close_refusals c.table id) ≡ n →
      kept_in_all kept (record { table = (closed_by n c.table id).table; holding = c.holding })
      + cond (eqb (closed_by n c.table id).code 0) (kept_in_row kept c (find c.table id)) 0
      ≡ kept_in_all kept c
  closes_by zero id e =
      let r = find c.table id in
      let passed = none-applies (close_refusals c.table id) refl e in
      let there : r < rows =
      ltb-true r rows (not-false (is_open c.table id) (or-false-left (not (is_open c.table id)) (eqb id 0) passed.1.0)) in
      row_replaced w c r closed_row good.shaped there fresh-bare
  closes_by (suc n) id e = omega (arith, when_refused (suc n) (λ d. omega arith) (kept_in_row kept c (find c.table id)) 0)

  -- A packet.
  module _ (a : Arrival) where
    abbrev packet : Packet
    packet = a.packet

    abbrev outcome : Outcome
    outcome = handed c a

    abbrev r : ℕ
    r = row_of c.table packet

    abbrev body : List ℕ
    body = packet_body (terms_at c.table r).kind (sub packet)

    abbrev fate : Fate
    fate = (heard_by c.table r (sub packet) (lent_with c a)).fate

    hands_by : (n : ℕ) → outcome.answer.code ≡ n → Balances m kept c (hands a)
    unfolding answer after refused
    hands_by zero e =
        omega (
          arith,
          packet_balances w c good a e,
          ap m (when_accepted outcome.answer.code e body []),
          ap m (when_accepted outcome.answer.code e fate.dropped []),
        )
    hands_by (suc n) e =
        let same = received-refused c.table packet (lent_with c a) n e in
        let some : outcome.answer.code ≡ 0 → ⊥ = λ z. omega arith in
        omega (
          arith,
          ap m (no_frames a.lengths a.output),
          w.measure.none,
          ap m (when_refused outcome.answer.code some body []),
          ap m (when_refused outcome.answer.code some fate.dropped []),
          ap (λ (o : Outcome). m (joined (frames_in o))) same,
          ap (λ (o : Outcome). kept_in_all kept (record { table = o.answer.table; holding = o.slices.holding })) same,
        )

  pub call_balances : (x : Call) → Balances m kept c x
  unfolding answer after opened closed
  call_balances (opens q) =
      omega (arith, opens_by (first (open_refusals c.table q)) q refl, ap m (no_frames [] []), w.measure.none)
  call_balances (closes id) =
      omega (arith, closes_by (first (close_refusals c.table id)) id refl, ap m (no_frames [] []), w.measure.none)
  call_balances (hands a) = hands_by a (handed c a).answer.code refl
