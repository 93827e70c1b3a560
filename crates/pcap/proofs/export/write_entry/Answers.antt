-- `pcap::export::write_entry`: an entry that is no data entry has no record.
use Rattle.std.proofs.Common.{arith}
use Rattle.std.proofs.lemmas.Grind.{common_steps}
use Rattle.pcap.proofs.Puts.{record_none}
use Rattle.pcap.proofs.export.write_entry.Goals as goal

pub returns-in_default : goal.returns-in_default
returns-in_default c =
    record {
      output_after = record_none c.args.output.now c.args.at c.args.addresses c.args.kind c.args.body.now (grind (arith, common_steps));
      value = grind (arith, common_steps);
    }

pub returns-in_default-2-clause-output_after : goal.returns-in_default-2-clause-output_after
returns-in_default-2-clause-output_after c =
    record_none c.args.output.now c.args.at c.args.addresses c.args.kind c.args.body.now (grind (arith, common_steps))
