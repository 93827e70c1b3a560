-- `pcap::export::write_file`: after k turns the records of the first k entries stand behind the header (`Exporting`).
use Rattle.pcap.proofs.Exporting.{Exporting}
use Rattle.pcap.proofs.export.write_file.Given as goal

abbrev pub invariant-loop-k : goal.invariant-loop-k
invariant-loop-k l = Exporting l.addresses l.file l.initial.output l.output l.at l.start l.k
