-- `join::walk` is right since counts and slices show what became of the bytes by the first k segments (`Walking`).
use Rattle.std.proofs.Common.{◌≡◌, ◌-◌}
use Rattle.packet.specs.Header.{segment_count}
use Rattle.join.specs.Slices.{with_output, SameSlices}
use Rattle.join.proofs.Walking.{Ready, Walking, task}
use Rattle.join.proofs.walk.Given as goal

abbrev pub invariant-loop-k : goal.invariant-loop-k
invariant-loop-k l =
    record {
      counted : l.count ≡ segment_count l.table.sub.bytes.now;
      same_slices : SameSlices l.fn.output l.output;
      ready : Ready (task l.most l.table.width l.gap l.held l.place l.table.sub.bytes.now (with_output l.fn.holding l.fn.output));
      walking :
          Walking (task l.most l.table.width l.gap l.held l.place l.table.sub.bytes.now (with_output l.fn.holding l.fn.output))
          (with_output l.holding l.output) l.tally l.from l.k;
    }

abbrev pub decreases-loop-k : goal.decreases-loop-k
decreases-loop-k l = l.count - l.k
