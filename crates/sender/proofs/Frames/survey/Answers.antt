use Rattle.std.proofs.Common.{arith}
use Rattle.sender.proofs.Judging.{survey_begin, survey_turn}
use Rattle.sender.proofs.Frames.survey.Goals as goal

pub loop-length-init : goal.loop-length-init
loop-length-init c = survey_begin _ _

pub loop-length-preserved : goal.loop-length-preserved
loop-length-preserved c =
    survey_turn c.loop-length.invariant c.loop-length-test.true c.from-length.ensures (omega arith) c.bad_length-bad.ensures
