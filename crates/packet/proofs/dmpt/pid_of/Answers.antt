-- `packet::dmpt::pid_of` reads the PID of the packet that it borrows.
use Rattle.std.proofs.Common.{◌+◌, ◌*◌, ap, ◌∙◌, arith}
use Rattle.octets.proofs.Stretches.{sliced_part}
use Rattle.ts.specs.Packet.{mpeg_length, pid}
use Rattle.packet.specs.Header.{header_length}
use Rattle.packet.specs.Dmpt.{mpeg_at}
use Rattle.packet.proofs.dmpt.pid_of.Goals as goal

pub returns : goal.returns
unfolding mpeg_at
returns c =
    let at = header_length + mpeg_length * c.args.k in
    c.pid.ensures ∙ ap pid (sliced_part c.args.sub.bytes.now at (at + mpeg_length) mpeg_length (omega arith))
