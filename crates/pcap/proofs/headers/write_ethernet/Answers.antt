-- `pcap::headers::write_ethernet` writes both addresses and the type, each behind the one before: one put (`ethernet-put`).
use Rattle.std.proofs.Common.{rules}
use Rattle.pcap.proofs.Puts.{ethernet-put}
use Rattle.pcap.proofs.headers.write_ethernet.Goals as goal

pub returns : goal.returns
returns c =
    ethernet-put c.args.output.now c.args.at c.args.addresses (search rules) (search rules) c.requires c.copy.ensures c.copy-2.ensures
    c.write_u16.ensures
