-- `pcap::export::measure`: after k turns the first k entries are counted (`Measuring`).
use Rattle.pcap.proofs.Measuring.{Measuring}
use Rattle.pcap.proofs.export.measure.Given as goal

abbrev pub invariant-loop-k : goal.invariant-loop-k
invariant-loop-k l = Measuring l.file l.measured l.k
