-- `pcap::import::write_opens`: what it lays of the sessions still to come stands behind what it has laid (`Laying`).
use Rattle.std.proofs.Common.{map}
use Rattle.octets.specs.Stretch.{rest}
use Rattle.capture.specs.File.{opening}
use Rattle.capture.specs.Adding.{SameFile}
use Rattle.pcap.proofs.Laying.{Laying}
use Rattle.pcap.proofs.import.write_opens.Given as goal

abbrev pub invariant-loop-session : goal.invariant-loop-session
invariant-loop-session l =
    record {
      laying : Laying (map opening l.sessions) l.fn.capture.count l.fn.capture.file.now l.fn.capture.writer
          (map opening (rest l.sessions l.session-index)) l.capture.file.now l.capture.writer;
      same_file : SameFile l.fn.capture l.capture;
    }
