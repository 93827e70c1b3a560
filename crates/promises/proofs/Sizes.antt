-- Every frame that an accepted packet has delivered has 1 to 2,048 bytes: both rules of PSP drop what is longer, no segment of an
-- accepted packet is empty, and an MPEG packet has 188 bytes. The flow, what it holds and its table may be any.
use Prim.Native.Nat.{ℕ, zero, suc, ◌≤◌, ◌<◌}
use mathlib.Core.Path.{◌≡◌, refl}
use mathlib.Core.Bool.{Bool, true, false, cond, ◌&&◌}
use mathlib.Core.List.{List, ◌++◌}
use native.Mathlib.Omega.{arith}
use lib.Dec.{eqb, ltb, leb}
use lib.ListN.{length, length-append}
use borrow.Author.Tests.{ltb-false, leb-true}
use Rattle.refusal.specs.Refusal.{first}
use Rattle.refusal.proofs.Laws.{and_right}
use Rattle.octets.specs.Each.{Each}
use Rattle.octets.specs.Count.{up_to}
use Rattle.octets.proofs.Stretches.{length_part}
use Rattle.octets.proofs.Elements.{each_both}
use Rattle.flow.specs.Flow.{longest}
use Rattle.packet.specs.Segments.{Segment, length_at, body_at, segment_at, segments}
use Rattle.packet.specs.Header.{s_set, segment_count}
use Rattle.packet.specs.Psp.{psp_refusals}
use Rattle.packet.specs.Dmpt.{mpeg_count, mpeg_at, mpegs, dmpt_refusals}
use Rattle.packet.proofs.Passing.{SegmentsPassed, psp_passed, body-inside, body-some, mpeg_inside}
use Rattle.table.specs.declared.Terms.{Terms}
use Rattle.table.specs.Rows.{is_dmpt}
use Rattle.join.specs.Join.{Fate, dropping, settled_by, settled, fate_by, fate, at_gap, in_order, psp_fate}
use Rattle.join.proofs.Account.{in_order-next}
use Rattle.pass.specs.Pass.{passed_on, pass_all, whole_within, body_of, unnumbered_fate, carries_some, as_it_is, dmpt_fate}
use Rattle.pass.proofs.Loads.{mpeg_length_lem, dmpt_header}
use Rattle.card.specs.Hear.{width_in, segments_fate, fate_of}
use Rattle.card.specs.Receive.{packet_refusals}

-- 1 to 2,048 bytes
abbrev pub Sized : List ℕ → Type 0
Sized f = (1 ≤ length f) × (length f ≤ longest)

abbrev pub FramesSized : Fate → Type 0
FramesSized f = Each Sized f.delivered

-- Each rule, with a longest frame of at most that.
settled_by_lem : (most : ℕ) → most ≤ longest → (long ends : Bool) (bytes : List ℕ) → ltb most (length bytes) ≡ long → 1 ≤ length bytes →
    FramesSized (settled_by long ends bytes)
unfolding settled_by
settled_by_lem most small true ends bytes h some = tt
settled_by_lem most small false true bytes h some = ((some, omega (arith, ltb-false most (length bytes) h)), tt)
settled_by_lem most small false false bytes h some = tt

settled-sized : (most : ℕ) → most ≤ longest → (ends : Bool) (bytes : List ℕ) → 1 ≤ length bytes → FramesSized (settled most ends bytes)
unfolding settled
settled-sized most small ends bytes some = settled_by_lem most small (ltb most (length bytes)) ends bytes refl some

fate_by_lem : (most : ℕ) → most ≤ longest → (begins none : Bool) (held : List ℕ) (s : Segment) → 1 ≤ length s.body →
    FramesSized (fate_by begins none most held s)
unfolding fate_by
fate_by_lem most small true none held s some = settled-sized most small s.ends s.body some
fate_by_lem most small false true held s some = tt
fate_by_lem most small false false held s some =
    settled-sized most small s.ends (held ++ s.body) (omega (arith, length-append held s.body))

pub fate-sized : (most : ℕ) → most ≤ longest → (held : List ℕ) (s : Segment) → 1 ≤ length s.body → FramesSized (fate most held s)
unfolding fate
fate-sized most small held s some = fate_by_lem most small s.begins (eqb (length held) 0) held s some

pub gap-sized : (gap : ℕ) (held : List ℕ) → FramesSized (at_gap gap held)
unfolding at_gap
gap-sized zero held = tt
gap-sized (suc gap) held = tt

pub passed-sized : (goes : Bool) (bytes : List ℕ) → (goes ≡ true → Sized bytes) → FramesSized (passed_on goes bytes)
passed-sized true bytes sized = (sized refl, tt)
passed-sized false bytes sized = tt

-- Pieces in order: where each rule's frames are, all are.
module _ {X : Type 0} (rule : List ℕ → X → Fate) (f : Fate) (piece : ℕ → X) (n : ℕ) (begin : FramesSized f)
    (each : (held : List ℕ) (k : ℕ) → k < n → FramesSized (rule held (piece k))) where
  pub in_order-sized : (k : ℕ) → k ≤ n → FramesSized (in_order rule f (up_to piece k))
  unfolding in_order up_to
  in_order-sized zero l = begin
  in_order-sized (suc k) l =
      let so_far = in_order rule f (up_to piece k) in
      rw (in_order-next rule f piece k)
      (each_both Sized so_far.delivered (rule so_far.held (piece k)).delivered (in_order-sized k (omega arith))
      (each so_far.held k (omega arith)))

-- What becomes of a packet that is not refused, PSP and D-MPT.
body-sized : (width : ℕ) (sub : List ℕ) → SegmentsPassed width sub → (k : ℕ) → k < segment_count sub →
    1 ≤ length (segment_at width sub k).body
unfolding segment_at
body-sized width sub p k there =
    let some = body-some width sub p k there in
    let whole = length_part sub (body_at width sub k) (length_at width sub k) (body-inside width sub p k there) in
    omega (arith, some, whole)

psp_sized : (most width gap : ℕ) (held sub : List ℕ) → most ≤ longest → SegmentsPassed width sub →
    FramesSized (psp_fate most gap held (segments width sub))
unfolding psp_fate segments
psp_sized most width gap held sub small p =
    in_order-sized (fate most) (at_gap gap held) (segment_at width sub) (segment_count sub) (gap-sized gap held)
    (λ before k there. fate-sized most small before (segment_at width sub k) (body-sized width sub p k there))
    (segment_count sub) (omega arith)

-- where each piece that goes on is, all are
pass_sized : {X : Type 0} (goes : X → Bool) (body : X → List ℕ) (held : List ℕ) (piece : ℕ → X) (n : ℕ) →
    ((k : ℕ) → k < n → goes (piece k) ≡ true → Sized (body (piece k))) → FramesSized (pass_all goes body held (up_to piece n))
unfolding pass_all
pass_sized goes body held piece n each =
    in_order-sized (λ before x. passed_on (goes x) (body x)) (dropping held) piece n tt
    (λ before k there. passed-sized (goes (piece k)) (body (piece k)) (each k there)) n (omega arith)

-- a whole frame is not too long
whole-short : (most : ℕ) (s : Segment) → whole_within most s ≡ true → length s.body ≤ most
whole-short most s goes = leb-true (length s.body) most (and_right (s.begins && s.ends) (leb (length s.body) most) goes)

unnumbered-sized : (most width : ℕ) (held sub : List ℕ) → most ≤ longest → SegmentsPassed width sub →
    FramesSized (unnumbered_fate most held (segments width sub))
unfolding unnumbered_fate segments
unnumbered-sized most width held sub small p =
    pass_sized (whole_within most) body_of held (segment_at width sub) (segment_count sub)
    (λ k there goes. (body-sized width sub p k there, omega (arith, whole-short most (segment_at width sub k) goes)))

dmpt_sized : (held sub : List ℕ) → first (dmpt_refusals sub) ≡ 0 → FramesSized (dmpt_fate held (mpegs sub))
unfolding dmpt_fate mpegs
dmpt_sized held sub z =
    pass_sized carries_some as_it_is held (mpeg_at sub) (mpeg_count sub)
    (λ k there goes.
    let whole = mpeg_length_lem sub k (mpeg_inside sub k (dmpt_header sub z) there) in
    (omega arith, omega arith))

sized_by : (d set : Bool) (most width gap : ℕ) (held sub : List ℕ) → most ≤ longest →
    first (cond d (dmpt_refusals sub) (psp_refusals width sub)) ≡ 0 →
    FramesSized (cond d (dmpt_fate held (mpegs sub)) (segments_fate set most gap held (segments width sub)))
sized_by true set most width gap held sub small z = dmpt_sized held sub z
sized_by false true most width gap held sub small z = psp_sized most width gap held sub small (psp_passed width sub z).segments
sized_by false false most width gap held sub small z = unnumbered-sized most width held sub small (psp_passed width sub z).segments

pub packet-sized : (terms : Terms) (gap : ℕ) (held sub : List ℕ) → terms.longest ≤ longest → first (packet_refusals terms sub) ≡ 0 →
    FramesSized (fate_of terms gap held sub)
packet-sized terms gap held sub small z =
    sized_by (is_dmpt terms.kind) (s_set sub) terms.longest (width_in terms.kind) gap held sub small z
