-- `pcap::headers::write_ipv4` stores the checksum over the 0 in its place (`ipv4_put`).
use Rattle.pcap.proofs.Puts.{ipv4_put}
use Rattle.pcap.proofs.headers.write_ipv4.Goals as goal

pub returns : goal.returns
returns c =
    ipv4_put c.args.output.now c.args.at c.args.addresses c.args.total c.args.carried c.requires.0 c.write_unchecked_ipv4.ensures
    c.checksum-check.ensures c.write_u16.ensures
