-- The first k lengths have been added up.
use Rattle.packet.proofs.Entries.{Summing}
use Rattle.packet.proofs.psp.SegmentTable.total_length.Given as goal

abbrev pub invariant-loop-k : goal.invariant-loop-k
invariant-loop-k l = Summing l.self.width l.self.sub.bytes.now l.n l.total l.k
