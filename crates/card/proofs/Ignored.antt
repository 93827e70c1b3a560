-- For the data call too, two packets that are the same in all that is read are one packet: the same answer, table and slices.
use Prim.Native.Nat.{ℕ, zero, suc}
use mathlib.Core.Path.{◌≡◌, refl, ap, ◌∙◌}
use mathlib.Core.Bool.{Bool, true, false, cond, not}
use mathlib.Core.List.{List, [], ◌∷◌, ◌++◌}
use Rattle.refusal.specs.Refusal.{Refusal, ◌when◌, first}
use Rattle.octets.specs.Stretch.{part}
use Rattle.packet.specs.Header.{Packet, s_set, number, sub, session_id, before_session}
use Rattle.packet.specs.Segments.{segments}
use Rattle.packet.specs.Psp.{psp_refusals}
use Rattle.packet.specs.Dmpt.{dmpt_refusals, mpegs}
use Rattle.packet.specs.Ignored.{SameRead, SameCount}
use Rattle.packet.proofs.Ignored.{subs_long, early_alike, dmpt_alike, psp_alike, same-numbered, same_number, same-mpegs, same-segments}
use Rattle.flow.specs.declared.Flow.{Flow}
use Rattle.flow.specs.Flow.{Judged}
use Rattle.table.specs.declared.Table.{Table}
use Rattle.table.specs.declared.Row.{Row}
use Rattle.table.specs.declared.Terms.{Terms}
use Rattle.table.specs.Rows.{is_dmpt, row_at, flow_at, find, terms_of, terms_at}
use Rattle.table.specs.Broken.{broken}
use Rattle.table.specs.Calls.{is_open}
use Rattle.join.specs.Join.{Fate}
use Rattle.join.specs.Slices.{Slices}
use Rattle.pass.specs.Pass.{dmpt_fate}
use Rattle.card.specs.Hear.{width_in, judged_by, judged_of, segments_fate, fate_of, Heard, hear}
use Rattle.card.specs.Receive.{row_of, flow_for, held_for, heard_in, packet_refusals, row_refusals, flow_refusals, too_small}
use Rattle.card.specs.Receive.{place_of, data_refusals, carried_out, received_by, received, flow_to, heard_by}

module _ (p p' : Packet) (same : SameRead p p') where
  abbrev here : List ℕ
  here = sub p

  abbrev there : List ℕ
  there = sub p'

  -- its number is judged the same
  judged_alike : (f : Flow) → judged_of f here ≡ judged_of f there
  judged_alike f =
      ap (λ (s : Bool). judged_by s f (number here))
      (same-numbered here there (subs_long p p' same) same.above_x same.below_x same.from-number)
      ∙ ap (judged_by (s_set there) f)
      (same_number here there (subs_long p p' same) same.above_x same.below_x same.from-number)

  -- by the terms of the session: what refuses it, and what becomes of its bytes
  module _ (terms : Terms) (count : is_dmpt terms.kind ≡ false → SameCount p p') where
    refusals_by : (dmpt : Bool) → (dmpt ≡ false → SameCount p p') →
        cond dmpt (dmpt_refusals here) (psp_refusals (width_in terms.kind) here)
        ≡ cond dmpt (dmpt_refusals there) (psp_refusals (width_in terms.kind) there)
    refusals_by true c = dmpt_alike p p' same
    refusals_by false c = psp_alike p p' same (c refl) (width_in terms.kind)

    refusals_alike : packet_refusals terms here ≡ packet_refusals terms there
    refusals_alike = refusals_by (is_dmpt terms.kind) count

    fate_by_lem : (dmpt : Bool) → (dmpt ≡ false → SameCount p p') → (gap : ℕ) (held : List ℕ) →
        cond dmpt (dmpt_fate held (mpegs here)) (segments_fate (s_set here) terms.longest gap held (segments (width_in terms.kind) here))
        ≡ cond dmpt (dmpt_fate held (mpegs there))
        (segments_fate (s_set there) terms.longest gap held (segments (width_in terms.kind) there))
    fate_by_lem true c gap held =
        ap (dmpt_fate held) (same-mpegs here there (subs_long p p' same) same.above_x same.below_x same.from-number)
    fate_by_lem false c gap held =
        ap (λ (s : Bool). segments_fate s terms.longest gap held (segments (width_in terms.kind) here))
        (same-numbered here there (subs_long p p' same) same.above_x same.below_x same.from-number)
        ∙ ap (segments_fate (s_set there) terms.longest gap held)
        (same-segments here there (subs_long p p' same) same.above_x same.below_x same.from-number (c refl)
        (width_in terms.kind))

    hear_alike : (f : Flow) (held : List ℕ) → hear terms f held here ≡ hear terms f held there
    unfolding hear
    hear_alike f held =
        ap (λ (j : Judged). record { judged = j; fate = fate_of terms j.gap held here }) (judged_alike f)
        ∙ ap (λ (fate : Fate). record { judged = judged_of f there; fate = fate })
        (fate_by_lem (is_dmpt terms.kind) count (judged_of f there).gap held)

  -- in its row
  module _ (row : Row) (count : is_dmpt (terms_of row).kind ≡ false → SameCount p p') where
    row_alike : row_refusals row here ≡ row_refusals row there
    row_alike =
        ap (λ (k : ℕ). packet_refusals (terms_of row) here ++ (12 when (judged_of (flow_at row k) here).late ∷ [])) same.below_x
        ∙ ap (λ (j : Judged). packet_refusals (terms_of row) here ++ (12 when j.late ∷ [])) (judged_alike (flow_for row there))
        ∙ ap (λ (rs : List Refusal). rs ++ (12 when (judged_of (flow_for row there) there).late ∷ [])) (refusals_alike (terms_of row) count)

    heard_alike : (r : ℕ) (s : Slices) → heard_in row r here s ≡ heard_in row r there s
    heard_alike r s =
        hear_alike (terms_of row) count (flow_for row here) (held_for row r here s)
        ∙ ap (λ (k : ℕ). hear (terms_of row) (flow_at row k) (part s.holding (place_of r k) (flow_at row k).held) there) same.below_x

  module _ (t : Table) (s : Slices) (count : is_dmpt (terms_at t (row_of t p)).kind ≡ false → SameCount p p') where
    abbrev r : ℕ
    r = row_of t p

    numbers_alike : first (data_refusals t p s) ≡ first (data_refusals t p' s)
    numbers_alike =
        let order : List Refusal → ℕ → List Refusal → ℕ =
        λ early session behind.
        first (1 when too_small s ∷ (13 when broken t ∷ early) ++ (5 when not (is_open t session) ∷ []) ++ behind) in
        ap (λ (early : List Refusal). order early (session_id p) (flow_refusals t r here)) (early_alike p p' same)
        ∙ ap (λ (behind : List Refusal). order (before_session p') (session_id p) behind) (row_alike (row_at t r) count)
        ∙ ap (λ (id : ℕ). order (before_session p') id (flow_refusals t (find t id) there)) same.sessions

    by_number : (n : ℕ) → received_by n t r here s ≡ received_by n t r there s
    unfolding received_by
    by_number zero =
        ap (λ (h : Heard). carried_out r (flow_to t r here) h t s) (heard_alike (row_at t r) count r s)
        ∙ ap (λ (k : ℕ). carried_out r k (heard_by t r there s) t s) same.below_x
    by_number (suc n) = refl

    pub received_alike : received t p s ≡ received t p' s
    unfolding received
    received_alike =
        by_number (first (data_refusals t p s))
        ∙ ap (λ (n : ℕ). received_by n t r there s) numbers_alike
        ∙ ap (λ (id : ℕ). received_by (first (data_refusals t p' s)) t (find t id) there s) same.sessions
