-- After k turns of `frames::pack` the first k frames are written (`Packing`).
use Rattle.frames.proofs.Packing.{Packing}
use Rattle.frames.proofs.pack.Given as goal

abbrev pub invariant-loop-size : goal.invariant-loop-size
invariant-loop-size l = Packing l.fn.file l.file l.bytes l.lengths l.from l.at l.size-index
