use Rattle.std.proofs.Common.{refl, arith}
use Rattle.capture.proofs.Checking.{is_sound, entry_inside}
use Rattle.pcap.proofs.Measuring.{measure_begin, measure_turn, measure_small, measure_end}
use Rattle.pcap.proofs.export.measure.Goals as goal

pub entry_count-count-requires : goal.entry_count-count-requires
entry_count-count-requires c = omega (arith, (is_sound _ c.requires).contents_inside)

pub loop-k-init : goal.loop-k-init
loop-k-init c = measure_begin c.args.file.now

pub kind_at-kind-requires : goal.kind_at-kind-requires
kind_at-kind-requires c =
    entry_inside (record {
      sound = c.requires;
      not_past = omega (
        arith,
        c.loop-k-test.true,
        c.entry_count-count.ensures,
      );
      its_start = refl;
    })

pub length_at-size-requires : goal.length_at-size-requires
length_at-size-requires c =
    entry_inside (record {
      sound = c.requires;
      not_past = omega (
        arith,
        c.loop-k-test.true,
        c.entry_count-count.ensures,
      );
      its_start = refl;
    })

pub count_entry-measured-requires : goal.count_entry-measured-requires
count_entry-measured-requires c = (measure_small c.loop-k.invariant c.requires, c.length_at-size.ensures.1)

pub loop-k-preserved : goal.loop-k-preserved
loop-k-preserved c =
    measure_turn c.loop-k.invariant (omega (arith, c.loop-k-test.true, c.entry_count-count.ensures)) c.kind_at-kind.ensures
    c.length_at-size.ensures c.count_entry-measured.ensures

pub returns : goal.returns
returns c = measure_end c.loop-k.invariant (omega (arith, c.loop-k-test.false, c.entry_count-count.ensures))
