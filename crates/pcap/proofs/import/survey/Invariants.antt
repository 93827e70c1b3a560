-- `pcap::import::survey`: what it has counted, and what is still to come, is all (`Surveying`).
use Rattle.std.proofs.Common.{◌≡◌, ◌-◌, length}
use Rattle.pcap.proofs.Counting.{Surveying}
use Rattle.pcap.proofs.import.survey.Given as goal

abbrev pub invariant-loop-packet : goal.invariant-loop-packet
invariant-loop-packet l = (l.walk.file.now ≡ l.file) × Surveying l.walk.file.now l.walk.little l.walk.at l.tally

abbrev pub decreases-loop-packet : goal.decreases-loop-packet
decreases-loop-packet l = length l.walk.file.now - l.walk.at
