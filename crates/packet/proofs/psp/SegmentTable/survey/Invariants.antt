-- The first k entries have been surveyed.
use Rattle.packet.proofs.Entries.{Surveying}
use Rattle.packet.proofs.psp.SegmentTable.survey.Given as goal

abbrev pub invariant-loop-k : goal.invariant-loop-k
invariant-loop-k l = Surveying l.self.width l.self.sub.bytes.now l.count l.total l.bad l.k
