-- `pcap::import::write_record`: what it lays of a record that is taken is the record's entry.
use Rattle.std.proofs.Common.{refl, arith}
use Rattle.pcap.proofs.Judging.{cause_some}
use Rattle.pcap.proofs.Laying.{record_skipped, data_inside, data_fits, data_lays}
use Rattle.pcap.proofs.import.write_record.Goals as goal

pub returns-in_default : goal.returns-in_default
returns-in_default c =
    record {
      lays_on = record_skipped c.args.packet.now c.requires _ (rw c.in_default.is at c.judge.ensures) (cause_some c.in_default.field-0);
      same_file = (refl, refl);
    }

pub overflow_add-end : goal.overflow_add-end
overflow_add-end c = omega (arith, data_inside c.args.packet.now c.requires _ c.in-Ok.ensures refl)

pub slice_bounds-lay-end : goal.slice_bounds-lay-end
slice_bounds-lay-end c = data_inside c.args.packet.now c.requires _ c.in-Ok.ensures refl

pub lay-requires : goal.lay-requires
lay-requires c = data_fits c.args.packet.now c.requires _ c.in-Ok.ensures refl _ refl

pub returns : goal.returns
returns c =
    record {
      lays_on =
          data_lays c.args.packet.now c.requires _ c.in-Ok.ensures refl _ refl _ _ c.lay.ensures.value
          (rw c.from-kind.ensures at c.lay.ensures.file_after);
      same_file = c.lay.ensures.same_file;
    }
