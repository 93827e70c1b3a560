-- `sklyapina_segment_copy` is right since `packet::segment` gives the segment's bytes, and what is copied of them, all or as many as there
-- is room for, is what fits.
use Rattle.std.proofs.Common.{◌≡◌, ◌≤◌, ℕ, List, length, refl, sym, ap, ◌∙◌, arith}
use Rattle.octets.specs.Stretch.{part, put}
use Rattle.octets.proofs.Stretches.{part_all, part_past}
use Rattle.packet.specs.Header.{Packet, packet_by}
use Rattle.packet.specs.Check.{segment_given, segment_copied, PermitsSegmentCopy}
use Rattle.sklyapina.proofs.sklyapina_segment_copy.Goals as goal

-- a segment that there is room for is copied whole
whole : (segment output : List ℕ) → length segment ≤ length output → part segment 0 (length segment) ≡ part segment 0 (length output)
whole segment output room = part_all segment ∙ sym (part_past segment (length output) room)

copied : (kind : ℕ) (p : Packet) (k : ℕ) (segment output left : List ℕ) → segment ≡ segment_given kind p k →
    left ≡ put output 0 (part segment 0 (length output)) →
    PermitsSegmentCopy kind p k output (record { answer = length segment; output = left })
unfolding segment_copied
copied kind p k segment output left given is-left = rw (is-left, given) refl

pub returns-then-room-length : goal.returns-then-room-length
returns-then-room-length c =
    let a = c.args in
    copied a.kind (packet_by a.transport a.packet.now) a.k c.segment-segment.result.now a.output.now _ c.segment-segment.ensures.its_bytes
    c.copy.ensures

pub returns : goal.returns
returns c =
    let a = c.args in
    let segment = c.segment-segment.result.now in
    copied a.kind (packet_by a.transport a.packet.now) a.k segment a.output.now _ c.segment-segment.ensures.its_bytes
    (c.copy-2.ensures ∙ ap (put a.output.now 0) (whole segment a.output.now (omega (arith, c.if-room-length.false))))
