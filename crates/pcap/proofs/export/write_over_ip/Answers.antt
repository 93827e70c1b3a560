-- `pcap::export::write_over_ip` writes the headers, and the body behind them: the record (`over_ip-put`).
use Rattle.std.proofs.Common.{rules}
use Rattle.pcap.proofs.Puts.{over_ip-put}
use Rattle.pcap.proofs.export.write_over_ip.Goals as goal

pub returns-clause-output_after : goal.returns-clause-output_after
returns-clause-output_after c =
    over_ip-put c.args.addresses (search rules) (search rules) c.args.output.now c.args.at c.args.body.now c.requires.0
    c.write_front.ensures
    c.copy.ensures
