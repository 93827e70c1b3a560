use Rattle.std.proofs.Common.{refl, ◌∙◌}
use Rattle.pcap.proofs.Walk.{step_falls}
use Rattle.pcap.proofs.Laying.{laying_begin, laying_room, laying_turn, laying_end, records_begin, records_split, records_over}
use Rattle.pcap.proofs.import.write_records.Goals as goal

pub loop-packet-init : goal.loop-packet-init
loop-packet-init c =
    rw c.open-walk.ensures
    (record {
      its_file = refl;
      laying = rw (records_begin c.args.file.now _ _ refl refl) (laying_begin c.requires);
      same_file = (refl, refl);
    })

pub write_record-requires : goal.write_record-requires
write_record-requires c =
    let there = c.in-Some.ensures in
    let so_far = c.loop-packet.invariant in
    rw so_far.same_file.1 (laying_room so_far.laying _ _ (records_split _ _ _ there.0 _ _ there.1.its_bytes refl))

pub loop-packet-smaller : goal.loop-packet-smaller
loop-packet-smaller c = rw c.advance-walk.ensures (step_falls _ _ _ c.in-Some.ensures.0)

pub loop-packet-preserved : goal.loop-packet-preserved
loop-packet-preserved c =
    let there = c.in-Some.ensures in
    let so_far = c.loop-packet.invariant in
    let wrote = c.write_record.ensures in
    rw c.advance-walk.ensures
    (record {
      its_file = so_far.its_file;
      laying =
          laying_turn so_far.laying _ _ (records_split _ _ _ there.0 _ _ there.1.its_bytes refl) (rw so_far.same_file.1 at wrote.lays_on);
      same_file = (wrote.same_file.0 ∙ so_far.same_file.0, wrote.same_file.1 ∙ so_far.same_file.1);
    })

pub returns : goal.returns
returns c =
    let so_far = c.loop-packet.invariant in
    record { lays_on = laying_end so_far.laying (records_over _ _ _ c.in_default.ensures); same_file = so_far.same_file }
