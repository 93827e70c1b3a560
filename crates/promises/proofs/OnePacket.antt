-- The account of an accepted packet, by any measure: its body and what all flows kept before is delivered, dropped or kept afterwards. Only
-- the packet's own flow keeps anything else than before.
use Prim.Native.Nat.{ℕ, ◌+◌, ◌<◌}
use mathlib.Core.Path.{◌≡◌, ap, ◌∙◌}
use mathlib.Core.Bool.{true, false}
use mathlib.Core.Logic.{◌⊎◌, inl, inr}
use mathlib.Core.List.{List}
use native.Mathlib.Omega.{arith}
use lib.Dec.{eqb}
use borrow.Author.Tests.{eqb-true, eqb-false}
use Rattle.octets.specs.Stretch.{joined}
use Rattle.octets.proofs.Counts.{true-or-false}
use Rattle.flow.specs.declared.Flow.{Flow}
use Rattle.flow.specs.Flow.{flows}
use Rattle.packet.specs.Header.{Packet, sub}
use Rattle.table.specs.declared.Row.{Row}
use Rattle.table.specs.Rows.{rows, row_at, flow_at, terms_at}
use Rattle.table.proofs.Keeping.{flows-whole}
use Rattle.join.specs.Slices.{Slices}
use Rattle.card.specs.Hear.{Heard, record_after}
use Rattle.card.specs.Receive.{Outcome, place_of, row_of, flow_to, flow_of, held_by, heard_by, received}
use Rattle.card.specs.History.{Card, Arrival, lent_with}
use Rattle.card.proofs.Taking.{large-enough}
use Rattle.card.proofs.Accepted.{Accepted, accepted, flow-there}
use Rattle.card.proofs.Limits.{accepted_bounded}
use Rattle.card.proofs.Step.{frames_in, StepOf, one_flow_step}
use Rattle.promises.specs.Account.{packet_body}
use Rattle.promises.proofs.Good.{Good}
use Rattle.promises.proofs.Fates.{tells, heard_tells}
use Rattle.promises.proofs.Holdings.{Keeps, kept_at, kept_in_all, flow_replaced}

module _ {m : List ℕ → ℕ} {kept : List ℕ → ℕ → Flow → ℕ} (w : Keeps m kept) (c : Card) (good : Good c) (a : Arrival) where
  abbrev packet : Packet
  packet = a.packet

  abbrev slices : Slices
  slices = lent_with c a

  abbrev outcome : Outcome
  outcome = received c.table packet slices

  abbrev afterwards : Card
  afterwards = record { table = outcome.answer.table; holding = outcome.slices.holding }

  abbrev behind : List ℕ
  behind = sub packet

  abbrev r : ℕ
  r = row_of c.table packet

  abbrev flow : ℕ
  flow = flow_to c.table r behind

  abbrev held : List ℕ
  held = held_by c.table r behind slices

  abbrev heard : Heard
  heard = heard_by c.table r behind slices

  module _ (z : outcome.answer.code ≡ 0) where
    passed : Accepted c.table packet slices
    passed = accepted c.table packet slices z

    step : StepOf r flow heard c.table slices outcome
    step = one_flow_step c.table packet slices good.shaped z

    inside : flow < flows
    inside = flow-there c.table packet slices passed

    -- every other flow keeps what it kept
    record_stays : (r' j : ℕ) → (r' ≡ r → j ≡ flow → ⊥) → (eqb r' r ≡ true) ⊎ (eqb r' r ≡ false) →
        flow_at (row_at outcome.answer.table r') j ≡ flow_at (row_at c.table r') j
    record_stays r' j other (inl e) = let here = eqb-true r' r e in rw here (step.other_flows j (other here))
    record_stays r' j other (inr e) = ap (λ (row : Row). flow_at row j) (step.other_rows r' (eqb-false r' r e))

    others_stay : (r' j : ℕ) → r' < rows → j < flows → (r' ≡ r → j ≡ flow → ⊥) → kept_at kept afterwards r' j ≡ kept_at kept c r' j
    others_stay r' j l o other =
        let f = flow_at (row_at c.table r') j in
        ap (kept outcome.slices.holding (place_of r' j)) (record_stays r' j other (true-or-false (eqb r' r)))
        ∙ w.untouched c.holding outcome.slices.holding (place_of r' j) f
        (step.other_places r' j f.held l o other (flows-whole c.table good.whole r' j l o).fits)

    -- what its own flow keeps, before and afterwards
    kept-before : kept_at kept c r flow ≡ m held
    kept-before =
        w.inside c.holding (place_of r flow) (flow_of c.table r behind)
        (omega (
          arith,
          (large-enough slices passed.large).holding-enough,
          passed.found,
          inside,
          (flows-whole c.table good.whole r flow passed.found inside).fits,
        ))

    kept_now : kept_at kept afterwards r flow ≡ m heard.fate.held
    kept_now =
        ap (kept outcome.slices.holding (place_of r flow)) step.its_record
        ∙ w.inside outcome.slices.holding (place_of r flow) (record_after heard)
        (omega (
          arith,
          (large-enough slices passed.large).holding-enough,
          step.same-lengths.0,
          passed.found,
          inside,
          (accepted_bounded c.table packet slices passed).held-few,
        ))
        ∙ ap m step.its_place

    told : tells m heard.fate ≡ m held + m (packet_body (terms_at c.table r).kind behind)
    told =
        heard_tells m w.measure (terms_at c.table r) (flow_of c.table r behind) held behind

    pub packet_balances : m (packet_body (terms_at c.table r).kind behind) + kept_in_all kept c
        ≡ m (joined (frames_in outcome)) + m heard.fate.dropped + kept_in_all kept afterwards
    packet_balances =
        omega (
          arith,
          ap (λ (l : List (List ℕ)). m (joined l)) step.frames_found_lem,
          flow_replaced kept c afterwards r flow passed.found inside others_stay,
          kept-before,
          kept_now,
          told,
        )
