-- `trace::frames::write_frames`: after i turns the lines of the first i frames are written (`Framing`).
use Rattle.trace.proofs.Tracing.{Framing}
use Rattle.trace.proofs.frames.write_frames.Given as goal

abbrev pub invariant-loop-length : goal.invariant-loop-length
invariant-loop-length l = Framing l.lent.output.now l.lent.lengths.now l.count l.initial.text l.text l.from l.length-index
