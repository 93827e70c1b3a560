-- `mpeg::reader::write_bytes` is right since what it copies is what the packet has, or none of it is asked for.
use Rattle.std.proofs.Common.{◌≡◌, min, rules}
use Rattle.mpeg.proofs.Passes.{not_copied}
use Rattle.mpeg.proofs.reader.write_bytes.Goals as goal

pub returns-else-before-end : goal.returns-else-before-end
returns-else-before-end c =
    let least : c.min-end.result ≡ min c.args.behind c.args.total = search rules in
    not_copied c.args.packet.now c.requires.1 c.min-end.result least c.if-before-end.false
