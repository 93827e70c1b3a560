use Rattle.std.proofs.Common.{length}
use Rattle.sender.proofs.Judging.{Surveying}
use Rattle.sender.proofs.Frames.survey.Given as goal

abbrev pub invariant-loop-length : goal.invariant-loop-length
invariant-loop-length l = Surveying l.self.lengths.now (length l.self.lengths.now) l.total l.bad l.length-index
