use Rattle.std.proofs.Common.{◌≡◌, ◌≤◌, ◌*◌}
use Rattle.octets.specs.Count.{sum_to}
use Rattle.sender.specs.Cut.{frame_length}
use Rattle.sender.proofs.Frames.index_of.Given as goal

abbrev pub invariant-loop-length : goal.invariant-loop-length
invariant-loop-length l = record {
  sum : l.start ≡ sum_to (frame_length l.self.lengths.now) l.length-index;
  small : l.start ≤ 65535 * l.length-index;
}
