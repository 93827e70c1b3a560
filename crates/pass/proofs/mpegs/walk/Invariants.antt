-- `pass::mpegs::walk` is right since after k turns counts and slices show what became of the bytes by the first k MPEG packets
-- (`Carrying`, of `mpeg_load`).
use Rattle.join.specs.Slices.{SameSlices}
use Rattle.pass.proofs.Carrying.{Carrying}
use Rattle.pass.proofs.Loads.{mpeg_load}
use Rattle.pass.proofs.mpegs.walk.Given as goal

abbrev pub invariant-loop-k : goal.invariant-loop-k
invariant-loop-k l =
    record {
      same_slices : SameSlices l.fn.output l.output;
      carrying :
          Carrying (mpeg_load l.sub.bytes.now) l.fn.output.bytes.now l.fn.output.lengths.now
          l.output.bytes.now l.output.lengths.now l.tally l.k;
    }
