use Rattle.std.proofs.Common.{◌+◌, ◌*◌, arith}
use Rattle.ts.specs.Packet.{mpeg_length}
use Rattle.octets.proofs.Stretches.{sliced_part}
use Rattle.mpeg.proofs.reader.packet_at.Goals as goal

pub returns : goal.returns
returns c = let at = mpeg_length * c.args.k in sliced_part c.args.packets.now at (at + mpeg_length) mpeg_length (omega arith)
