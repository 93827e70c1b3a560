-- The account of one packet, by any measure: what a flow holds before and what the packet brings is delivered, dropped or held
-- afterwards. Each rule gives every byte that it is given exactly one fate, so no count of any sort is lost.
use Prim.Native.Nat.{ℕ, zero, suc, ◌+◌}
use mathlib.Core.Path.{◌≡◌, refl, ap, ◌∙◌}
use mathlib.Core.Bool.{Bool, true, false, cond}
use mathlib.Core.List.{List, [], ◌∷◌, ◌++◌, map, map-id}
use native.Mathlib.Omega.{arith}
use lib.Dec.{eqb, ltb}
use lib.ListN.{length}
use borrow.Author.Tests.{eqb-true}
use Rattle.octets.specs.Stretch.{joined}
use Rattle.octets.proofs.Elements.{length_none}
use Rattle.octets.proofs.Stretches.{joined-none, joined-cons, joined_one}
use Rattle.flow.specs.declared.Flow.{Flow}
use Rattle.packet.specs.Segments.{Segment, segments}
use Rattle.packet.specs.Header.{s_set}
use Rattle.packet.specs.Dmpt.{mpegs}
use Rattle.table.specs.declared.Terms.{Terms}
use Rattle.table.specs.Rows.{is_dmpt}
use Rattle.join.specs.Join.{Fate, dropping, and_then, settled_by, settled, fate_by, fate, at_gap, in_order, psp_fate}
use Rattle.pass.specs.Pass.{passed_on, pass_all, whole_within, body_of, unnumbered_fate, carries_some, as_it_is, dmpt_fate}
use Rattle.card.specs.Hear.{width_in, judged_of, segments_fate, hear}
use Rattle.promises.specs.Account.{packet_body}
use Rattle.promises.proofs.Measures.{Measure, measure_joined}

-- what a fate tells of, measured
abbrev pub tells : (List ℕ → ℕ) → Fate → ℕ
tells m f = m (joined f.delivered) + m f.dropped + m f.held

module _ (m : List ℕ → ℕ) (is : Measure m) where
  -- The rules, one by one.
  settled_by_lem : (long ends : Bool) (bytes : List ℕ) → tells m (settled_by long ends bytes) ≡ m bytes
  unfolding settled_by
  settled_by_lem true ends bytes = omega (arith, is.none, ap m joined-none)
  settled_by_lem false true bytes = omega (arith, is.none, ap m (joined_one bytes))
  settled_by_lem false false bytes = omega (arith, is.none, ap m joined-none)

  settled_tells : (most : ℕ) (ends : Bool) (bytes : List ℕ) → tells m (settled most ends bytes) ≡ m bytes
  unfolding settled
  settled_tells most ends bytes = settled_by_lem (ltb most (length bytes)) ends bytes

  fate_by_lem : (begins none : Bool) (most : ℕ) (held : List ℕ) (s : Segment) → eqb (length held) 0 ≡ none →
      tells m (fate_by begins none most held s) ≡ m held + m s.body
  unfolding fate_by
  fate_by_lem true none most held s e =
      omega (arith, settled_tells most s.ends s.body, is.both held (settled most s.ends s.body).dropped)
  fate_by_lem false true most held s e =
      omega (arith, is.none, ap m joined-none, ap m (length_none held (eqb-true (length held) 0 e)))
  fate_by_lem false false most held s e = settled_tells most s.ends (held ++ s.body) ∙ is.both held s.body

  fate_tells : (most : ℕ) (held : List ℕ) (s : Segment) → tells m (fate most held s) ≡ m held + m s.body
  unfolding fate
  fate_tells most held s = fate_by_lem s.begins (eqb (length held) 0) most held s refl

  gap_tells : (gap : ℕ) (held : List ℕ) → tells m (at_gap gap held) ≡ m held
  unfolding at_gap
  gap_tells zero held = omega (arith, is.none, ap m joined-none)
  gap_tells (suc gap) held = omega (arith, is.none, ap m joined-none)

  passed_tells : (goes : Bool) (bytes : List ℕ) → (tells m (passed_on goes bytes) ≡ m bytes) × ((passed_on goes bytes).held ≡ [])
  passed_tells true bytes = (omega (arith, is.none, ap m (joined_one bytes)), refl)
  passed_tells false bytes = (omega (arith, is.none, ap m joined-none), refl)

  -- Pieces in order. `Fine` is what the rule asks of what is held, and leaves so.
  module _ {X : Type 0} (rule : List ℕ → X → Fate) (body : X → List ℕ) (Fine : List ℕ → Type 0)
      (each : (held : List ℕ) (x : X) → Fine held → (tells m (rule held x) ≡ m held + m (body x)) × Fine (rule held x).held) where
    in_order_tells : (f : Fate) (xs : List X) → Fine f.held → tells m (in_order rule f xs) ≡ tells m f + m (joined (map body xs))
    unfolding in_order
    in_order_tells f [] fine = omega (arith, is.none, ap m joined-none)
    in_order_tells f (x ∷ xs) fine =
        let g = rule f.held x in
        let one = each f.held x fine in
        omega (
          arith,
          in_order_tells (and_then f g) xs one.1,
          one.0,
          measure_joined m is f.delivered g.delivered,
          is.both f.dropped g.dropped,
          ap m (joined-cons (body x) (map body xs)),
          is.both (body x) (joined (map body xs)),
        )

  psp_tells : (most gap : ℕ) (held : List ℕ) (segs : List Segment) →
      tells m (psp_fate most gap held segs) ≡ m held + m (joined (map (λ (s : Segment). s.body) segs))
  unfolding psp_fate
  psp_tells most gap held segs =
      in_order_tells (fate most) (λ (s : Segment). s.body) (λ held. Unit {0}) (λ held s fine. (fate_tells most held s, tt))
      (at_gap gap held) segs tt
      ∙ ap (λ (n : ℕ). n + m (joined (map (λ (s : Segment). s.body) segs))) (gap_tells gap held)

  -- pieces that are passed on or dropped: nothing is held behind what was held, and that is dropped
  module _ {X : Type 0} (goes : X → Bool) (body : X → List ℕ) where
    pass_tells : (held : List ℕ) (xs : List X) → tells m (pass_all goes body held xs) ≡ m held + m (joined (map body xs))
    unfolding pass_all
    pass_tells held xs =
        let all = in_order_tells (λ before x. passed_on (goes x) (body x)) body (λ before. before ≡ []) each (dropping held) xs refl in
        omega (arith, all, is.none, ap m joined-none)
      where
        each : (before : List ℕ) (x : X) → before ≡ [] →
            (tells m (passed_on (goes x) (body x)) ≡ m before + m (body x)) × ((passed_on (goes x) (body x)).held ≡ [])
        each before x none =
            let one = passed_tells (goes x) (body x) in
            (omega (arith, one.0, is.none, ap m none), one.1)

  dmpt_tells : (held : List ℕ) (packets : List (List ℕ)) → tells m (dmpt_fate held packets) ≡ m held + m (joined packets)
  unfolding dmpt_fate
  dmpt_tells held packets =
      pass_tells carries_some as_it_is held packets ∙ ap (λ (l : List (List ℕ)). m held + m (joined l)) (map-id packets)

  -- a PSP packet, with a number and without
  segments_tell : (set : Bool) (most gap : ℕ) (held : List ℕ) (segs : List Segment) →
      tells m (segments_fate set most gap held segs) ≡ m held + m (joined (map (λ (s : Segment). s.body) segs))
  unfolding unnumbered_fate
  segments_tell true most gap held segs = psp_tells most gap held segs
  segments_tell false most gap held segs = pass_tells (whole_within most) body_of held segs

  -- The packet.
  told_by : (d set : Bool) (most width gap : ℕ) (held sub : List ℕ) →
      tells m (cond d (dmpt_fate held (mpegs sub)) (segments_fate set most gap held (segments width sub)))
      ≡ m held + m (cond d (joined (mpegs sub)) (joined (map (λ (s : Segment). s.body) (segments width sub))))
  told_by true set most width gap held sub = dmpt_tells held (mpegs sub)
  told_by false set most width gap held sub = segments_tell set most gap held (segments width sub)

  pub heard_tells : (terms : Terms) (f : Flow) (held sub : List ℕ) →
      tells m (hear terms f held sub).fate ≡ m held + m (packet_body terms.kind sub)
  unfolding hear
  heard_tells terms f held sub =
      told_by (is_dmpt terms.kind) (s_set sub) terms.longest (width_in terms.kind) (judged_of f sub).gap held sub
