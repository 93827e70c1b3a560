-- What an accepted PSP packet without a number delivers: each of its segments is a frame by itself, or it is dropped (`Pieces`); and what
-- was held before is dropped, however it came there. And that two numbers are not given: no order that a call goes through has 8, and
-- where S is clear nothing is late.
use Prim.Native.Nat.{ℕ, ◌+◌}
use mathlib.Core.Path.{◌≡◌, refl, sym, ap, ◌∙◌}
use mathlib.Core.Bool.{Bool, true, false, cond, not}
use mathlib.Core.List.{List, [], ◌∷◌, ◌++◌}
use native.Mathlib.Omega.{arith}
use lib.Dec.{eqb, leb}
use lib.ListN.{length, length-append}
use Rattle.refusal.specs.Refusal.{Refusal, ◌when◌, first}
use Rattle.refusal.proofs.Laws.{lacks, lacks_both, first_lacks, first-idle, first-skips}
use Rattle.octets.specs.Stretch.{joined}
use Rattle.flow.specs.Flow.{longest}
use Rattle.packet.specs.Header.{Packet, sub, s_set, session_id, before_session, segment_count}
use Rattle.packet.specs.Segments.{entry_width, segments}
use Rattle.packet.specs.Psp.{psp_refusals}
use Rattle.packet.specs.Dmpt.{dmpt_refusals}
use Rattle.packet.specs.Check.{kind_psp, kind_unknown, check_refusals, check, cause_refusals, segment_cause}
use Rattle.table.specs.declared.Request.{Request}
use Rattle.table.specs.declared.Table.{Table}
use Rattle.table.specs.Rows.{kind_in, is_dmpt, terms_at}
use Rattle.table.specs.Broken.{broken}
use Rattle.table.specs.Calls.{is_open, asking, open_refusals, opened, opened_by_number, close_refusals}
use Rattle.table.proofs.Keeping.{opened-code, closed-code}
use Rattle.join.specs.Join.{Fate}
use Rattle.join.specs.Slices.{Slices}
use Rattle.pass.specs.Pass.{whole_within, body_of, unnumbered_fate}
use Rattle.pass.proofs.Carrying.{unnumbered_holds_none}
use Rattle.card.specs.Hear.{judged_of, hear}
use Rattle.card.specs.Receive.{row_of, flow_of, held_by, heard_by, early_refusals, packet_refusals, data_refusals, too_small}
use Rattle.card.specs.Receive.{received}
use Rattle.card.specs.History.{Card, Call, opens, closes, hands, lent_with, answer, after}
use Rattle.card.proofs.Accepted.{accepted, received-code}
use Rattle.card.proofs.Keeping.{clear_empties}
use Rattle.card.proofs.Limits.{held-length}
use Rattle.promises.specs.Unnumbered.{whole_ones, others, UnnumberedAccepted, UnnumberedDelivers, NeverGiven}
use Rattle.promises.proofs.Pieces.{pass_gives, pass_drops, found_are, bytes_is, dropped_is, places_stay, no_gap}

module _ (t : Table) (p : Packet) (s : Slices) (d : is_dmpt (terms_at t (row_of t p)).kind ≡ false) (clear : s_set (sub p) ≡ false)
    (z : (received t p s).answer.code ≡ 0) where
  abbrev held : List ℕ
  held = held_by t (row_of t p) (sub p) s

  -- what becomes of it
  becomes : (heard_by t (row_of t p) (sub p) s).fate ≡ unnumbered_fate longest held (segments entry_width (sub p))
  unfolding hear
  becomes = rw (d, clear) refl

  pub comes_out : (heard_by t (row_of t p) (sub p) s).fate.delivered ≡ whole_ones (segments entry_width (sub p))
  unfolding unnumbered_fate
  comes_out = ap (λ (f : Fate). f.delivered) becomes ∙ pass_gives (whole_within longest) body_of held (segments entry_width (sub p))

  pub is_dropped : length (heard_by t (row_of t p) (sub p) s).fate.dropped
      ≡ (flow_of t (row_of t p) (sub p)).held + length (joined (others (segments entry_width (sub p))))
  unfolding unnumbered_fate
  is_dropped =
      let rest = joined (others (segments entry_width (sub p))) in
      ap (λ (f : Fate). length f.dropped) becomes
      ∙ ap length (pass_drops (whole_within longest) body_of held (segments entry_width (sub p)))
      ∙ length-append held rest
      ∙ ap (λ (n : ℕ). n + length rest) (held-length t p s (accepted t p s z))

  pub none_left : (heard_by t (row_of t p) (sub p) s).fate.held ≡ []
  none_left = ap (λ (f : Fate). f.held) becomes ∙ unnumbered_holds_none longest held (segments entry_width (sub p))

pub unnumbered_delivers : UnnumberedDelivers
unfolding answer after
unnumbered_delivers c a d clear z =
    let t = c.table in
    let p = a.packet in
    let s = lent_with c a in
    record {
      frames_are = found_are t p s z ∙ comes_out t p s d clear z;
      bytes_are = bytes_is t p s z ∙ ap (λ (l : List (List ℕ)). length (joined l)) (comes_out t p s d clear z);
      dropped_are = dropped_is t p s z ∙ is_dropped t p s d clear z;
      no_gap = no_gap t p s z clear;
      places_stay = places_stay t p s z (none_left t p s d clear z);
      only_emptied = clear_empties t p s z clear;
    }

-- No order has 8: by the kind of the session first, and then the whole.
lacks_by : (which : Bool) (n : ℕ) (one other : List Refusal) → lacks n one ≡ true → lacks n other ≡ true →
    lacks n (cond which one other) ≡ true
lacks_by true n one other l m = l
lacks_by false n one other l m = m

check_lacks : (kind : ℕ) (p : Packet) → lacks 8 (check_refusals kind p) ≡ true
unfolding check_refusals
check_lacks kind p = lacks_by (eqb kind kind_psp) 8 (psp_refusals entry_width (sub p)) (dmpt_refusals (sub p)) refl refl

-- what comes before the session's row, the row's, and 12
data_lacks : (t : Table) (p : Packet) (s : Slices) → lacks 8 (data_refusals t p s) ≡ true
data_lacks t p s =
    lacks_both 8 (packet_refusals (terms_at t (row_of t p)) (sub p))
    (12 when (judged_of (flow_of t (row_of t p) (sub p)) (sub p)).late ∷ [])
    (lacks_by (is_dmpt (terms_at t (row_of t p)).kind) 8 (dmpt_refusals (sub p)) (psp_refusals entry_width (sub p)) refl refl) refl

opens_lack : (t : Table) (q : Request) → (opened t q).code ≡ 8 → ⊥
opens_lack t q e = first_lacks 8 (open_refusals t q) refl refl (sym (opened-code t q) ∙ e)

-- by the number of a kind: 24, or as an open is answered
by_number_lacks : (unknown : Bool) (t : Table) (q : Request) → (cond unknown (record { code = 24; table = t }) (opened t q)).code ≡ 8 → ⊥
by_number_lacks true t q e = omega (arith, e)
by_number_lacks false t q e = opens_lack t q e

no_eight : (c : Card) (x : Call) → (answer c x).code ≡ 8 → ⊥
unfolding answer
no_eight c (opens q) e = opens_lack c.table q e
no_eight c (closes id) e = first_lacks 8 (close_refusals c.table id) refl refl (sym (closed-code c.table id) ∙ e)
no_eight c (hands a) e =
    let s = lent_with c a in
    first_lacks 8 (data_refusals c.table a.packet s) refl (data_lacks c.table a.packet s)
    (sym (received-code c.table a.packet s) ∙ e)

-- With S clear the last line of the order, 12, does not apply, and no other gives it. What is left, where the session is open as PSP, is
-- the check's order.
module _ (t : Table) (p : Packet) (s : Slices) (clear : s_set (sub p) ≡ false) where
  abbrev before-12 : List Refusal
  before-12 =
      1 when too_small s ∷ early_refusals t p
      ++ (5 when not (is_open t (session_id p)) ∷ [])
      ++ packet_refusals (terms_at t (row_of t p)) (sub p)

  before_lacks : lacks 12 before-12 ≡ true
  before_lacks = lacks_by (is_dmpt (terms_at t (row_of t p)).kind) 12 (dmpt_refusals (sub p)) (psp_refusals entry_width (sub p)) refl refl

  its_order : first (data_refusals t p s) ≡ first before-12
  its_order = rw clear (first-idle 12 before-12)

  pub no_twelve : (received t p s).answer.code ≡ 12 → ⊥
  no_twelve e = first_lacks 12 before-12 refl before_lacks (sym its_order ∙ sym (received-code t p s) ∙ e)

  -- the order of the check
  check_is : check kind_psp p ≡ first (before_session p ++ psp_refusals entry_width (sub p))
  unfolding check check_refusals
  check_is = refl

  pub as_checked : too_small s ≡ false → broken t ≡ false → is_open t (session_id p) ≡ true →
      is_dmpt (terms_at t (row_of t p)).kind ≡ false →
      (received t p s).answer.code ≡ check kind_psp p
  as_checked large whole live d =
      received-code t p s
      ∙ its_order
      ∙ rw (large, whole, live, d) (first-skips (before_session p) 5 (psp_refusals entry_width (sub p)))
      ∙ sym check_is

pub unnumbered-accepted : UnnumberedAccepted
unfolding answer
unnumbered-accepted c a large whole live d clear = as_checked c.table a.packet (lent_with c a) clear large whole live d

pub never_given : NeverGiven
unfolding answer opened_by_number check segment_cause cause_refusals
never_given =
    record {
      eight_by_call = no_eight;
      eight_by_number = λ t id kind e. by_number_lacks (kind_unknown kind) t (asking (kind_in kind) id) e;
      eight_by_check = λ kind p e. first_lacks 8 (check_refusals kind p) refl (check_lacks kind p) e;
      eight_by_request = λ kind p k e.
          first_lacks 8 (cause_refusals kind p k) refl
          (lacks_both 8 (check_refusals kind p) (14 when leb (segment_count (sub p)) k ∷ []) (check_lacks kind p) refl) e;
      twelve_unnumbered = λ c a clear e. no_twelve c.table a.packet (lent_with c a) clear e;
    }
