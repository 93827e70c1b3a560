-- Before each turn of `mpeg::reader::frames_in` what it has counted, with what `found` gives on the rest, is what `found` gives on the
-- whole. A turn goes on by the length that the frame says, which is at least 6.
use Rattle.std.proofs.Common.{◌-◌, length}
use Rattle.mpeg.proofs.Finding.{Finding}
use Rattle.mpeg.proofs.reader.frames_in.Given as goal

abbrev pub invariant-loop-from : goal.invariant-loop-from
invariant-loop-from l = Finding l.packed l.standing l.frames l.bytes l.from

abbrev pub decreases-loop-from : goal.decreases-loop-from
decreases-loop-from l = length l.packed - l.from
