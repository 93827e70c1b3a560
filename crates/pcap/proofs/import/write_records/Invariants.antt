-- `pcap::import::write_records`: what it lays of the records still to come stands behind what it has laid (`Laying`).
use Rattle.std.proofs.Common.{◌≡◌, ◌-◌, length}
use Rattle.capture.specs.Adding.{SameFile}
use Rattle.pcap.specs.File.{records_from, records}
use Rattle.pcap.specs.Import.{entries_of}
use Rattle.pcap.proofs.Laying.{Laying}
use Rattle.pcap.proofs.import.write_records.Given as goal

abbrev pub invariant-loop-packet : goal.invariant-loop-packet
invariant-loop-packet l =
    record {
      its_file : l.walk.file.now ≡ l.file;
      laying : Laying (entries_of (records l.file)) l.fn.capture.count l.fn.capture.file.now l.fn.capture.writer
          (entries_of (records_from (length l.walk.file.now) l.walk.file.now l.walk.at l.walk.little)) l.capture.file.now l.capture.writer;
      same_file : SameFile l.fn.capture l.capture;
    }

abbrev pub decreases-loop-packet : goal.decreases-loop-packet
decreases-loop-packet l = length l.walk.file.now - l.walk.at
