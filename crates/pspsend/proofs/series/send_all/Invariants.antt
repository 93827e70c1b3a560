-- `pspsend::series::send_all`: after each turn what it has written is what the series has sent so far (`Going`).
use Rattle.std.proofs.Common.{◌≤◌, ◌-◌, length}
use Rattle.capture.specs.Adding.{SameSlices}
use Rattle.pspsend.specs.Inside.{packet_room, job_of}
use Rattle.pspsend.proofs.Making.{Going}
use Rattle.pspsend.proofs.series.send_all.Given as goal

abbrev pub invariant-loop-turn : goal.invariant-loop-turn
invariant-loop-turn l =
    record {
      scratch_long : packet_room ≤ length l.scratch;
      same_slices : SameSlices l.fn.capture l.capture;
      going : Going (job_of l.sending l.frames) l.sending.limit l.sending.number l.fn.capture l.capture.contents.now l.capture.bodies.now
          l.capture.writer l.series.position l.series.number (length l.frames.bytes.now - l._turn);
    }
