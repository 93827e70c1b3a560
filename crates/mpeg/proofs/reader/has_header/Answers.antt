-- `mpeg::reader::has_header` compares four bytes and the count.
use Rattle.mpeg.proofs.Fronts.{headed_is}
use Rattle.mpeg.proofs.reader.has_header.Goals as goal

pub returns : goal.returns
returns c = headed_is c.args.packet.now c.args.second c.args.expected c.requires c.count-count.ensures
