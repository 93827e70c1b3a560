-- `pass::unnumbered::walk` is right since after k turns counts and slices show what became of the bytes by the first k segments
-- (`Carrying`, of `segment_load`), whatever the bytes were that the flow held.
use Rattle.std.proofs.Common.{◌≡◌, ℕ, List, length}
use Rattle.packet.specs.Segments.{body_at}
use Rattle.join.specs.Slices.{SameSlices}
use Rattle.pass.proofs.Carrying.{Carrying}
use Rattle.pass.proofs.Loads.{segment_load}
use Rattle.pass.proofs.unnumbered.walk.Given as goal

abbrev pub invariant-loop-k : goal.invariant-loop-k
invariant-loop-k l =
    record {
      same_slices : SameSlices l.fn.output l.output;
      at : l.from ≡ body_at l.table.width l.table.sub.bytes.now l.k;
      carrying :
          (bytes : List ℕ) → length bytes ≡ l.held →
          Carrying (segment_load l.most l.table.width bytes l.table.sub.bytes.now) l.fn.output.bytes.now l.fn.output.lengths.now
          l.output.bytes.now l.output.lengths.now l.tally l.k;
    }
