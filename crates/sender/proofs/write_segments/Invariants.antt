use Rattle.std.proofs.Common.{length, ◌-◌}
use Rattle.sender.specs.Send.{most_segments}
use Rattle.sender.specs.Inside.{Ready}
use Rattle.sender.proofs.Writing.{Writing}
use Rattle.sender.proofs.write_segments.Given as goal

abbrev pub invariant-loop-output : goal.invariant-loop-output
invariant-loop-output l =
    (ready : Ready (length l.frames.bytes.now) l.frames.lengths.now l.position l.room (length l.initial.output))
    × Writing l.frames.bytes.now l.frames.lengths.now l.room l.position l.initial.output ready l.output l.progress

abbrev pub decreases-loop-output : goal.decreases-loop-output
decreases-loop-output l = most_segments - l.progress.count
