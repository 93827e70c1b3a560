-- What one call can come to: its byte account, at most 127 frames and 6,144 bytes delivered, and a gap of 32,767 at most. None of these is
-- asked for by the definition; they follow from the refusals and the segment rules.
use Prim.Native.Nat.{ℕ, zero, suc, ◌+◌, ◌<◌, ◌≤◌}
use mathlib.Core.Path.{◌≡◌, refl, sym, ap, ◌∙◌}
use mathlib.Core.Bool.{Bool, true, false, cond}
use mathlib.Core.List.{List, []}
use native.Mathlib.Omega.{arith}
use lib.ListN.{length}
use Rattle.refusal.specs.Refusal.{first}
use Rattle.octets.specs.Bytes.{byte_at}
use Rattle.octets.specs.Stretch.{part, put, lengths_of}
use Rattle.octets.specs.Count.{sum_to, up_to}
use Rattle.octets.proofs.Counts.{sum-none, sum_same}
use Rattle.octets.proofs.Stretches.{length_part, part_none, length-put, part-put, length-lengths_of, total, total-part, total-lengths_of}
use Rattle.flow.specs.declared.Flow.{Flow}
use Rattle.flow.specs.Flow.{longest, half}
use Rattle.flow.proofs.Judging.{judge-sound}
use Rattle.ts.specs.Packet.{mpeg_length}
use Rattle.packet.specs.Header.{Packet, id_length, s_set, number, segment_count, longest_packet, sub}
use Rattle.packet.specs.Segments.{length_at, segments}
use Rattle.packet.specs.Psp.{psp_refusals}
use Rattle.packet.specs.Dmpt.{carried, mpeg_count, mpegs, dmpt_refusals}
use Rattle.packet.proofs.Passing.{SegmentsPassed, psp_passed, dmpt_passed, mpegs_fill}
use Rattle.table.specs.declared.Kind.{Kind}
use Rattle.table.specs.declared.Table.{Table}
use Rattle.table.specs.declared.Terms.{Terms}
use Rattle.table.specs.Rows.{is_dmpt, terms_at}
use Rattle.join.specs.Join.{Fate, psp_fate}
use Rattle.join.specs.Slices.{most_frames, most_bytes, Slices}
use Rattle.join.proofs.Account.{told}
use Rattle.join.proofs.Walking.{so_far_accounts, all_few}
use Rattle.pass.specs.Pass.{pass_all, unnumbered_fate, dmpt_fate}
use Rattle.pass.proofs.Carrying.{Load, Fitting, fate_accounts}
use Rattle.pass.proofs.Loads.{dmpt_header, mpeg_load, mpegs_fit, segment_load, segments_fit}
use Rattle.card.specs.Hear.{width_in, judged_by, judged_of, segments_fate, fate_of, hear}
use Rattle.card.specs.Receive.{place_of, row_of, flow_to, flow_of, held_by, heard_by, packet_refusals, carried_out, refused, received}
use Rattle.card.proofs.Taking.{large-enough, place_roomy, held_fits, dmpt_bare}
use Rattle.card.proofs.Accepted as call

-- how many body bytes a packet brings: the segment bodies, or everything behind the header
abbrev pub body_bytes : Kind → List ℕ → ℕ
body_bytes kind sub = cond (is_dmpt kind) (carried sub) (sum_to (length_at (width_in kind) sub) (segment_count sub))

-- One packet on one flow: what is held before and what comes is held, delivered or dropped afterwards.
pub record Bounded (most bytes : ℕ) (f : Fate) : Type 0 where
  pub all : told f ≡ bytes
  pub bytes-few : bytes ≤ most_bytes
  pub frames-few : length f.delivered ≤ most_frames
  pub held-few : length f.held ≤ most

psp_bounded : (most width gap : ℕ) (held sub : List ℕ) → SegmentsPassed width sub → length held ≤ most → most ≤ longest →
    id_length + length sub ≤ longest_packet →
    Bounded most (length held + sum_to (length_at width sub) (segment_count sub)) (psp_fate most gap held (segments width sub))
unfolding psp_fate segments
psp_bounded most width gap held sub p few small short =
    let a = so_far_accounts most width gap held sub p few small (segment_count sub) (omega arith) in
    record {
      all = a.all;
      bytes-few = all_few most width gap held sub p few small short (segment_count sub) (omega arith);
      frames-few = omega (arith, a.frames-few);
      held-few = a.held-few;
    }

pass_bounded : {X : Type 0} (most : ℕ) (l : Load X) → Fitting l →
    Bounded most (length l.held + sum_to l.size l.count) (pass_all l.goes l.body l.held (up_to l.piece l.count))
unfolding pass_all
pass_bounded most l fitting =
    let a = fate_accounts l fitting l.count (omega arith) in
    record {
      all = a.all;
      bytes-few = fitting.bytes-few;
      frames-few = omega (arith, a.frames-few, fitting.frames-few);
      held-few = omega (arith, a.held-few);
    }

unnumbered_bounded : (most width : ℕ) (held sub : List ℕ) → SegmentsPassed width sub → length held ≤ longest →
    id_length + length sub ≤ longest_packet →
    Bounded most (length held + sum_to (length_at width sub) (segment_count sub)) (unnumbered_fate most held (segments width sub))
unfolding unnumbered_fate segments
unnumbered_bounded most width held sub p few short =
    pass_bounded most (segment_load most width held sub) (segments_fit most width held sub p few short)

dmpt_bounded : (most : ℕ) (sub : List ℕ) → first (dmpt_refusals sub) ≡ 0 → id_length + length sub ≤ longest_packet →
    Bounded most (0 + carried sub) (dmpt_fate [] (mpegs sub))
unfolding dmpt_fate mpegs
dmpt_bounded most sub z short =
    let header = dmpt_header sub z in
    let b = pass_bounded most (mpeg_load sub) (mpegs_fit sub header short) in
    let fills = mpegs_fill sub header (dmpt_passed sub z) in
    record {
      all = omega (arith, b.all, fills, sum_same mpeg_length (mpeg_count sub));
      bytes-few = omega arith;
      frames-few = b.frames-few;
      held-few = b.held-few;
    }

bounded_by : (d set : Bool) (most width gap : ℕ) (held sub : List ℕ) → first (cond d (dmpt_refusals sub) (psp_refusals width sub)) ≡ 0 →
    length held ≤ most → most ≤ longest → (d ≡ true → held ≡ []) → id_length + length sub ≤ longest_packet →
    Bounded most (length held + cond d (carried sub) (sum_to (length_at width sub) (segment_count sub)))
    (cond d (dmpt_fate held (mpegs sub)) (segments_fate set most gap held (segments width sub)))
bounded_by true set most width gap held sub z few small bare short = rw (bare refl) (dmpt_bounded most sub z short)
bounded_by false true most width gap held sub z few small bare short =
    psp_bounded most width gap held sub (psp_passed width sub z).segments few small short
bounded_by false false most width gap held sub z few small bare short =
    unnumbered_bounded most width held sub (psp_passed width sub z).segments (omega arith) short

pub fate_bounded : (terms : Terms) (gap : ℕ) (held sub : List ℕ) → first (packet_refusals terms sub) ≡ 0 → length held ≤ terms.longest →
    terms.longest ≤ longest → (is_dmpt terms.kind ≡ true → held ≡ []) → id_length + length sub ≤ longest_packet →
    Bounded terms.longest (length held + body_bytes terms.kind sub) (fate_of terms gap held sub)
fate_bounded terms gap held sub z few small bare short =
    bounded_by (is_dmpt terms.kind) (s_set sub) terms.longest (width_in terms.kind) gap held sub z few small bare short

-- An accepted call: its flow's bytes and the packet's.
module _ (t : Table) (p : Packet) (s : Slices) (a : call.Accepted t p s) where
  abbrev r : ℕ
  r = row_of t p

  abbrev after : List ℕ
  after = sub p

  pub held-length : length (held_by t r after s) ≡ (flow_of t r after).held
  held-length =
      let k = call.flow-there t p s a in
      let roomy = place_roomy s r (flow_to t r after) a.large a.found k in
      length_part s.holding (place_of r (flow_to t r after)) (flow_of t r after).held
      (omega (arith, roomy.place_inside, held_fits t r (flow_to t r after) a.whole a.found k))

  pub held_none : is_dmpt (terms_at t r).kind ≡ true → held_by t r after s ≡ []
  held_none d =
      ap (part s.holding (place_of r (flow_to t r after)))
      (dmpt_bare t r (flow_to t r after) a.whole a.found (call.flow-there t p s a) d)
      ∙ part_none s.holding (place_of r (flow_to t r after))

  pub accepted_bounded : Bounded (terms_at t r).longest ((flow_of t r after).held + body_bytes (terms_at t r).kind after)
      (heard_by t r after s).fate
  unfolding hear
  accepted_bounded =
      let k = call.flow-there t p s a in
      let few = held_fits t r (flow_to t r after) a.whole a.found k in
      let b = fate_bounded (terms_at t r) (judged_of (flow_of t r after) after).gap (held_by t r after s) after a.passed
      (omega (arith, held-length, few)) (omega arith) held_none (call.sub-short t p s a) in
      record {
        all = omega (arith, b.all, held-length);
        bytes-few = omega (arith, b.bytes-few, held-length);
        frames-few = b.frames-few;
        held-few = b.held-few;
      }

-- Every call.
gap_by : (set : Bool) (f : Flow) (n : ℕ) → (judged_by set f n).gap < half
gap_by true f n = (judge-sound f n).gap-small
gap_by false f n = omega arith

pub record Limits (frames bytes gap : ℕ) : Type 0 where
  pub most_frames_lem : frames ≤ most_frames
  pub most_bytes_lem : bytes ≤ most_bytes
  pub most-gap : gap < half

limits_by : (c : ℕ) (t : Table) (p : Packet) (s : Slices) → (received t p s).answer.code ≡ c →
    Limits (received t p s).answer.frames (received t p s).answer.bytes (received t p s).answer.gap
unfolding carried_out refused hear
limits_by zero t p s e =
    let a = call.accepted t p s e in
    let b = accepted_bounded t p s a in
    let r = row_of t p in
    rw (call.received-accepted t p s e)
    (record {
      most_frames_lem = b.frames-few;
      most_bytes_lem = omega (arith, b.all, b.bytes-few);
      most-gap = gap_by (s_set (sub p)) (flow_of t r (sub p)) (number (sub p));
    })
limits_by (suc c) t p s e =
    rw (call.received-refused t p s c e) (record { most_frames_lem = omega arith; most_bytes_lem = omega arith; most-gap = omega arith })

pub within_limits : (t : Table) (p : Packet) (s : Slices) →
    Limits (received t p s).answer.frames (received t p s).answer.bytes (received t p s).answer.gap
within_limits t p s = limits_by (received t p s).answer.code t p s refl

-- The lengths that a call leaves, as many as it delivered frames, add up to the bytes that it delivered.
lengths_by : (c : ℕ) (t : Table) (p : Packet) (s : Slices) → (received t p s).answer.code ≡ c →
    sum_to (byte_at (received t p s).slices.lengths) (received t p s).answer.frames ≡ (received t p s).answer.bytes
unfolding carried_out refused
lengths_by zero t p s e =
    let a = call.accepted t p s e in
    let b = accepted_bounded t p s a in
    let frames = (heard_by t (row_of t p) (sub p) s).fate.delivered in
    let few : length (lengths_of frames) ≤ length s.lengths =
    omega (arith, length-lengths_of frames, b.frames-few, (large-enough s a.large).lengths-enough) in
    let kept = length-put s.lengths 0 (lengths_of frames) (omega (arith, few)) in
    rw (call.received-accepted t p s e)
    (sym (total-part (put s.lengths 0 (lengths_of frames)) (length frames) (omega (arith, few, kept, length-lengths_of frames)))
    ∙ ap (λ (n : ℕ). total (part (put s.lengths 0 (lengths_of frames)) 0 n)) (sym (length-lengths_of frames))
    ∙ ap total (part-put s.lengths 0 (lengths_of frames) (omega (arith, few)))
    ∙ total-lengths_of frames)
lengths_by (suc c) t p s e = rw (call.received-refused t p s c e) (sum-none (byte_at s.lengths))

pub lengths-add_up : (t : Table) (p : Packet) (s : Slices) →
    sum_to (byte_at (received t p s).slices.lengths) (received t p s).answer.frames ≡ (received t p s).answer.bytes
lengths-add_up t p s = lengths_by (received t p s).answer.code t p s refl
