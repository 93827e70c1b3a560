use Rattle.std.proofs.Common.{◌<◌, ◌≤◌, length, arith, rules}
use Rattle.capture.specs.File.{head_length, entry_count, entries}
use Rattle.capture.proofs.Checking.{is_sound, entry_inside}
use Rattle.pcap.specs.Export.{export_of}
use Rattle.pcap.proofs.Exporting.{header-room, export_begin, entry_fits, body-ends, export_turn, export_end}
use Rattle.pcap.proofs.export.write_file.Goals as goal

pub entry_count-count-requires : goal.entry_count-count-requires
entry_count-count-requires c = omega (arith, (is_sound _ c.requires.0).contents_inside)

pub write_file_header-requires : goal.write_file_header-requires
write_file_header-requires c =
    header-room c.args.addresses (search rules) (search rules) c.args.file.now c.requires.0 (length c.args.output.now) c.requires.1

pub loop-k-init : goal.loop-k-init
loop-k-init c = export_begin c.args.addresses c.args.file.now _ c.entry_count-count.result c.entry_count-count.ensures

pub kind_at-kind-requires : goal.kind_at-kind-requires
kind_at-kind-requires c =
    entry_inside (
    record {
      sound = c.requires.0;
      not_past = omega (arith, c.loop-k-test.true, c.entry_count-count.ensures);
      its_start = c.loop-k.invariant.its_start;
    })

pub write_entry-at-requires : goal.write_entry-at-requires
write_entry-at-requires c =
    let room : length (export_of c.args.addresses (entries c.args.file.now)) ≤ length c.write_file_header.new.output =
    omega (arith, c.requires.1, c.write_file_header.auto.output) in
    let below : c.loop-k.k < entry_count head_length c.args.file.now = omega (arith, c.loop-k-test.true, c.entry_count-count.ensures) in
    entry_fits c.loop-k.invariant (search rules) (search rules) c.requires.0 room below c.kind_at-kind.ensures
    c.body_at-body.ensures.its_bytes

pub overflow_add-start-in-loop-k : goal.overflow_add-start-in-loop-k
overflow_add-start-in-loop-k c =
    let room : length (export_of c.args.addresses (entries c.args.file.now)) ≤ length c.write_file_header.new.output =
    omega (arith, c.requires.1, c.write_file_header.auto.output) in
    let below : c.loop-k.k < entry_count head_length c.args.file.now = omega (arith, c.loop-k-test.true, c.entry_count-count.ensures) in
    omega (
      arith,
      body-ends c.loop-k.invariant (search rules) (search rules) c.requires.0 room below c.kind_at-kind.ensures
          c.body_at-body.ensures.its_bytes,
    )

pub loop-k-preserved : goal.loop-k-preserved
loop-k-preserved c =
    let room : length (export_of c.args.addresses (entries c.args.file.now)) ≤ length c.write_file_header.new.output =
    omega (arith, c.requires.1, c.write_file_header.auto.output) in
    let below : c.loop-k.k < entry_count head_length c.args.file.now = omega (arith, c.loop-k-test.true, c.entry_count-count.ensures) in
    export_turn c.loop-k.invariant (search rules) (search rules) c.requires.0 room below c.kind_at-kind.ensures
    c.body_at-body.ensures.its_bytes
    c.write_entry-at.ensures.output_after c.write_entry-at.ensures.value

pub returns : goal.returns
returns c =
    let room : length (export_of c.args.addresses (entries c.args.file.now)) ≤ length c.write_file_header.new.output =
    omega (arith, c.requires.1, c.write_file_header.auto.output) in
    export_end c.loop-k.invariant (search rules) (search rules) c.requires.0 room c.args.output.now
    (omega (arith, c.loop-k-test.false, c.entry_count-count.ensures))
    (header-room c.args.addresses (search rules) (search rules) c.args.file.now c.requires.0 (length c.args.output.now) c.requires.1)
    c.write_file_header.ensures
