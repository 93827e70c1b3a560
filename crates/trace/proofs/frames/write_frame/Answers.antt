-- `trace::frames::write_frame` writes a word, the frame's bytes and the end of the line.
use Rattle.trace.proofs.Tracing.{frame-written}
use Rattle.trace.proofs.frames.write_frame.Goals as goal

pub returns-clause-wrote : goal.returns-clause-wrote
returns-clause-wrote c = frame-written c.args.frame.now c.words.ensures.wrote c.hex.ensures.wrote c.byte.ensures.wrote
