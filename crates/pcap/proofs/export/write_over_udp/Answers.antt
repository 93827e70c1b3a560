-- `pcap::export::write_over_udp` writes the headers, and the body behind them: the record (`over_udp-put`).
use Rattle.std.proofs.Common.{rules}
use Rattle.pcap.proofs.Puts.{over_udp-put}
use Rattle.pcap.proofs.export.write_over_udp.Goals as goal

pub returns-clause-output_after : goal.returns-clause-output_after
returns-clause-output_after c =
    over_udp-put c.args.addresses (search rules) (search rules) c.args.output.now c.args.at c.args.body.now c.requires.0
    c.write_front.ensures
    c.write_udp.ensures c.copy.ensures
