-- `join::write_lengths` is right since after some turns so many lengths are written (`Running`).
use Rattle.join.proofs.Running.{Running}
use Rattle.join.proofs.write_lengths.Given as goal

abbrev pub invariant-loop-frames : goal.invariant-loop-frames
invariant-loop-frames l = Running l.most l.table.width l.table.sub.bytes.now l.k l.count l.at l.fn.lengths l.lengths l.frames l.bytes
