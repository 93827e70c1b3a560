-- After k turns of `mpeg::reader::write_lengths` the lengths of k frames are written, and `from` is where the next frame starts.
use Rattle.mpeg.proofs.Lengths.{Telling}
use Rattle.mpeg.proofs.reader.write_lengths.Given as goal

abbrev pub invariant-loop-k : goal.invariant-loop-k
invariant-loop-k l = Telling l.output l.fn.lengths l.count l.lengths l.from l.k
