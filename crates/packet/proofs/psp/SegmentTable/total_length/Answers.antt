use Rattle.packet.proofs.Entries.{sum-begin, sum_turn}
use Rattle.packet.proofs.psp.SegmentTable.total_length.Goals as goal

pub loop-k-init : goal.loop-k-init
loop-k-init c = sum-begin _ _ _

pub loop-k-preserved : goal.loop-k-preserved
loop-k-preserved c = sum_turn c.loop-k.invariant c.loop-k-test.true c.entry.ensures c.length_of-total.ensures.0
