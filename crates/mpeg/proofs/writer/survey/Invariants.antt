-- After k turns of `mpeg::writer::survey` k frames are sound and counted, and it knows where the last of them ends that starts before the
-- place.
use Rattle.std.proofs.Common.{◌≡◌}
use Rattle.mpeg.proofs.Surveying.{Surveying}
use Rattle.mpeg.proofs.writer.survey.Given as goal

abbrev pub invariant-loop-length : goal.invariant-loop-length
invariant-loop-length l = Surveying l.frames l.lengths l.place l.begun l.start l.length-index × (l.passed ≡ l.length-index)
