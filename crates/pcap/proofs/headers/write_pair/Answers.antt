-- `pcap::headers::write_pair` stores two elements, one behind the other, and that is a put of the two (`set-set-put`).
use Rattle.std.proofs.Common.{rules}
use Rattle.octets.proofs.Stretches.{set-set-put}
use Rattle.pcap.proofs.headers.write_pair.Goals as goal

pub returns : goal.returns
returns c = set-set-put c.args.output.now c.args.at c.args.first c.args.second (search rules)
