-- The two loads: the MPEG packets of a D-MPT packet, and the segments of a PSP packet without a number. Both are few enough, since the
-- packet was not refused.
use Prim.Native.Nat.{ℕ, ◌+◌, ◌*◌, ◌<◌, ◌≤◌}
use mathlib.Core.Path.{◌≡◌, refl}
use mathlib.Core.Bool.{Bool, ◌&&◌}
use mathlib.Core.List.{List, []}
use native.Mathlib.Omega.{arith}
use lib.Dec.{leb}
use lib.ListN.{length}
use Rattle.refusal.specs.Refusal.{first}
use Rattle.octets.specs.Stretch.{part}
use Rattle.octets.proofs.Counts.{sum_same, sum_more}
use Rattle.octets.proofs.Stretches.{length_part}
use Rattle.flow.specs.Flow.{longest}
use Rattle.ts.specs.Packet.{mpeg_length}
use Rattle.packet.specs.Header.{id_length, header_length, segment_count, longest_packet}
use Rattle.packet.specs.Segments.{Segment, entry_at, begins_in, ends_in, length_in, length_at, body_at, segment_at}
use Rattle.packet.specs.Psp.{wanted}
use Rattle.packet.specs.Dmpt.{mpeg_count, mpeg_at, dmpt_refusals}
use Rattle.packet.proofs.Passing.{SegmentsPassed, body-inside, dmpt_passed, mpeg_inside}
use Rattle.pass.specs.Pass.{passed_on, whole_within, body_of, carries_some, as_it_is}
use Rattle.pass.proofs.Carrying.{Load, Fitting}

-- a D-MPT packet that passed the check has a whole header, and each of its MPEG packets 188 bytes
pub dmpt_header : (sub : List ℕ) → first (dmpt_refusals sub) ≡ 0 → header_length ≤ length sub
dmpt_header sub z = let some = (dmpt_passed sub z).some in omega (arith, some)

pub mpeg_length_lem : (sub : List ℕ) (k : ℕ) → header_length + mpeg_length * k + mpeg_length ≤ length sub →
    length (mpeg_at sub k) ≡ mpeg_length
unfolding mpeg_at
mpeg_length_lem sub k inside = length_part sub (header_length + mpeg_length * k) mpeg_length inside

abbrev pub mpeg_load : List ℕ → Load (List ℕ)
mpeg_load sub =
    record {
      goes = carries_some;
      body = as_it_is;
      held = [];
      piece = mpeg_at sub;
      size = λ k. mpeg_length;
      count = mpeg_count sub;
    }

pub mpegs_fit : (sub : List ℕ) → header_length ≤ length sub → id_length + length sub ≤ longest_packet → Fitting (mpeg_load sub)
mpegs_fit sub header short =
    record {
      sized = λ k there. mpeg_length_lem sub k (mpeg_inside sub k header there);
      bytes-few = omega (arith, sum_same mpeg_length (mpeg_count sub));
      frames-few = omega arith;
    }

-- a segment is as long as its entry says
pub segment_length : (width : ℕ) (sub : List ℕ) → SegmentsPassed width sub → (k : ℕ) → k < segment_count sub →
    length (segment_at width sub k).body ≡ length_at width sub k
unfolding segment_at
segment_length width sub passed k there =
    length_part sub (body_at width sub k) (length_at width sub k) (body-inside width sub passed k there)

abbrev pub segment_load : ℕ → ℕ → List ℕ → List ℕ → Load Segment
segment_load most width held sub =
    record {
      goes = whole_within most;
      body = body_of;
      held = held;
      piece = segment_at width sub;
      size = length_at width sub;
      count = segment_count sub;
    }

pub segments_fit : (most width : ℕ) (held sub : List ℕ) → SegmentsPassed width sub → length held ≤ longest →
    id_length + length sub ≤ longest_packet → Fitting (segment_load most width held sub)
unfolding wanted body_at
segments_fit most width held sub passed few short =
    record {
      sized = segment_length width sub passed;
      bytes-few = omega (arith, passed.fills);
      frames-few = omega arith;
    }

-- a segment as the code has read it is segment k
pub segment_read : (most width : ℕ) (sub : List ℕ) → SegmentsPassed width sub → (k : ℕ) → k < segment_count sub →
    (from entry size : ℕ) (begins ends : Bool) → from ≡ body_at width sub k → entry ≡ entry_at width sub k →
    size ≡ length_in entry → begins ≡ begins_in entry → ends ≡ ends_in entry →
    passed_on (begins && ends && leb size most) (part sub from size)
    ≡ passed_on (whole_within most (segment_at width sub k)) (segment_at width sub k).body
unfolding segment_at
segment_read most width sub passed k there from entry size begins ends at e z b f =
    rw (segment_length width sub passed k there, at, z, b, f, e) refl

-- .. and the next one stands behind it
pub body-next : (width : ℕ) (sub : List ℕ) (k from size : ℕ) → from ≡ body_at width sub k → size ≡ length_at width sub k →
    from + size ≡ body_at width sub (k + 1)
unfolding body_at
body-next width sub k from size at z = rw (at, z, sum_more (length_at width sub) k) (omega arith)
