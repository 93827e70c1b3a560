-- After each turn of `frames::unpack` the frames so far stand at the front of the slices (`Unpacking`).
use Rattle.std.proofs.Common.{◌-◌, length}
use Rattle.frames.proofs.Unpacking.{Unpacking}
use Rattle.frames.proofs.unpack.Given as goal

abbrev pub invariant-loop-count : goal.invariant-loop-count
invariant-loop-count l = Unpacking l.file l.fn.bytes l.fn.lengths l.bytes l.lengths l.count l.total l.at

abbrev pub decreases-loop-count : goal.decreases-loop-count
decreases-loop-count l = length l.initial.lengths - l.count
