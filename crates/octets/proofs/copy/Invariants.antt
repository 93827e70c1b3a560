-- After each turn of `octets::copy` the first `done` bytes are copied.
use Rattle.std.proofs.Common.{◌≡◌, ◌-◌, ◌≤◌, length}
use Rattle.octets.specs.Stretch.{part, put}
use Rattle.octets.proofs.copy.Given as goal

abbrev pub invariant-loop-done : goal.invariant-loop-done
invariant-loop-done l =
    (l.done ≤ l.count) × (length l.target ≡ length l.initial.target) × (l.target ≡ put l.initial.target l.at (part l.source l.from l.done))

abbrev pub decreases-loop-done : goal.decreases-loop-done
decreases-loop-done l = l.count - l.done
