-- `capture::reader::survey` stands after k turns where body k starts, and has found no wrong entry (`Surveying`).
use Rattle.capture.proofs.Checking.{Surveying}
use Rattle.capture.proofs.reader.survey.Given as goal

abbrev pub invariant-loop-k : goal.invariant-loop-k
invariant-loop-k l = Surveying l.file l.end l.k
