-- `ts::is_null` compares the header of the null packet, and the rest with 0xFF.
use Rattle.std.proofs.Common.{◌∙◌, ap}
use Rattle.octets.proofs.Stretches.{sliced_rest}
use Rattle.ts.specs.Packet.{all_fill}
use Rattle.ts.proofs.Filling.{null_is}
use Rattle.ts.proofs.is_null.Goals as goal

pub returns : goal.returns
returns c =
    null_is c.args.packet.now c.all_fill.result c.requires (c.all_fill.ensures ∙ ap all_fill (sliced_rest c.args.packet.now 4))
