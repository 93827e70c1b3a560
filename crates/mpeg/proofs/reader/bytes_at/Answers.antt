-- `mpeg::reader::bytes_at` is right since byte 1 of a packet without the flag is the PID's high byte alone.
use Rattle.mpeg.proofs.Passes.{bytes_at-header, bytes_at-pointer}
use Rattle.mpeg.proofs.reader.bytes_at.Goals as goal

pub returns-then-packet-eq-FRAMES_PID_HIGH : goal.returns-then-packet-eq-FRAMES_PID_HIGH
returns-then-packet-eq-FRAMES_PID_HIGH c = bytes_at-header c.args.packet.now c.if-packet-eq-FRAMES_PID_HIGH.true

pub returns-else-packet-eq-FRAMES_PID_HIGH : goal.returns-else-packet-eq-FRAMES_PID_HIGH
returns-else-packet-eq-FRAMES_PID_HIGH c = bytes_at-pointer c.args.packet.now c.if-packet-eq-FRAMES_PID_HIGH.false
