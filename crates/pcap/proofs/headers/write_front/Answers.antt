-- `pcap::headers::write_front` writes three headers, each behind the one before: one put (`front_put`).
use Rattle.std.proofs.Common.{rules}
use Rattle.pcap.proofs.Puts.{front_put}
use Rattle.pcap.proofs.headers.write_front.Goals as goal

pub returns : goal.returns
returns c =
    front_put c.args.addresses (search rules) (search rules) c.args.output.now c.args.at c.args.size c.args.carried c.requires.0
    c.write_record_header.ensures c.write_ethernet.ensures c.write_ipv4.ensures
