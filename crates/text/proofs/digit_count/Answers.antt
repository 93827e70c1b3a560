use Rattle.std.proofs.Common.{arith}
use Rattle.text.proofs.Writing.{counting_turn, counting_end}
use Rattle.text.proofs.digit_count.Goals as goal

pub loop-left-preserved : goal.loop-left-preserved
loop-left-preserved c = counting_turn (omega arith) c.loop-left.invariant c.loop-left-test.true

pub returns : goal.returns
returns c = counting_end c.loop-left.invariant c.loop-left-test.false
