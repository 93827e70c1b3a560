-- `ts::null_packet` is right by computation: 188 bytes 0xFF, of which the first four are replaced.
use Rattle.std.proofs.Common.{refl}
use Rattle.ts.specs.Packet.{null_packet}
use Rattle.ts.proofs.null_packet.Goals as goal

pub returns : goal.returns
unfolding null_packet
returns c = refl
