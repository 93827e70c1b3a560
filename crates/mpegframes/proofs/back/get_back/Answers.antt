-- `mpegframes::back::get_back` is right by its two ways out: the packets are refused, or the frames that they bring back are packed.
use Rattle.std.proofs.Common.{arith, rules, sym}
use Rattle.octets.proofs.Stretches.{length_sliced}
use Rattle.text.proofs.Writing.{wrote_as, wrote_whole}
use Rattle.mpegframes.proofs.Enough.{Call, bytes_inside, frames-inside, back_refused, pack_asks, pack_gives}
use Rattle.mpegframes.proofs.back.get_back.Goals as goal

pub returns-then-back-ne-NONE : goal.returns-then-back-ne-NONE
returns-then-back-ne-NONE c =
    let call : Call =
    record {
      packets = c.args.packets.now;
      output = c.room-output.result;
      lengths = c.room-lengths.result;
      short = c.requires.0;
      output_long = sym c.room-output.ensures;
      lengths_long = sym c.room-lengths.ensures;
      answer = c.read-back.result;
      output-left = c.read-back.new.output;
      lengths-left = c.read-back.new.lengths;
      outcome = c.read-back.ensures;
    } in
    let begun = c.new-text.ensures in
    wrote_whole c.new-text.result c.write_refused.new.text
    (wrote_as (back_refused call c.if-back-ne-NONE.true) c.write_refused.ensures.wrote)
    begun.its_bytes begun.empty (search rules)

pub slice_bounds-output-end : goal.slice_bounds-output-end
slice_bounds-output-end c =
    let call : Call =
    record {
      packets = c.args.packets.now;
      output = c.room-output.result;
      lengths = c.room-lengths.result;
      short = c.requires.0;
      output_long = sym c.room-output.ensures;
      lengths_long = sym c.room-lengths.ensures;
      answer = c.read-back.result;
      output-left = c.read-back.new.output;
      lengths-left = c.read-back.new.lengths;
      outcome = c.read-back.ensures;
    } in
    omega (arith, bytes_inside call c.if-back-ne-NONE.false, c.read-back.auto.output, c.room-output.ensures)

pub slice_bounds-pack-end : goal.slice_bounds-pack-end
slice_bounds-pack-end c =
    let call : Call =
    record {
      packets = c.args.packets.now;
      output = c.room-output.result;
      lengths = c.room-lengths.result;
      short = c.requires.0;
      output_long = sym c.room-output.ensures;
      lengths_long = sym c.room-lengths.ensures;
      answer = c.read-back.result;
      output-left = c.read-back.new.output;
      lengths-left = c.read-back.new.lengths;
      outcome = c.read-back.ensures;
    } in
    length_sliced _ _ (omega (arith, bytes_inside call c.if-back-ne-NONE.false, c.read-back.auto.output, c.room-output.ensures))

pub slice_bounds-lengths-end : goal.slice_bounds-lengths-end
slice_bounds-lengths-end c =
    let call : Call =
    record {
      packets = c.args.packets.now;
      output = c.room-output.result;
      lengths = c.room-lengths.result;
      short = c.requires.0;
      output_long = sym c.room-output.ensures;
      lengths_long = sym c.room-lengths.ensures;
      answer = c.read-back.result;
      output-left = c.read-back.new.output;
      lengths-left = c.read-back.new.lengths;
      outcome = c.read-back.ensures;
    } in
    omega (arith, frames-inside call c.if-back-ne-NONE.false, c.read-back.auto.lengths, c.room-lengths.ensures)

pub slice_bounds-pack-end-2 : goal.slice_bounds-pack-end-2
slice_bounds-pack-end-2 c =
    let call : Call =
    record {
      packets = c.args.packets.now;
      output = c.room-output.result;
      lengths = c.room-lengths.result;
      short = c.requires.0;
      output_long = sym c.room-output.ensures;
      lengths_long = sym c.room-lengths.ensures;
      answer = c.read-back.result;
      output-left = c.read-back.new.output;
      lengths-left = c.read-back.new.lengths;
      outcome = c.read-back.ensures;
    } in
    length_sliced _ _ (omega (arith, frames-inside call c.if-back-ne-NONE.false, c.read-back.auto.lengths, c.room-lengths.ensures))

pub pack-requires : goal.pack-requires
pack-requires c =
    let call : Call =
    record {
      packets = c.args.packets.now;
      output = c.room-output.result;
      lengths = c.room-lengths.result;
      short = c.requires.0;
      output_long = sym c.room-output.ensures;
      lengths_long = sym c.room-lengths.ensures;
      answer = c.read-back.result;
      output-left = c.read-back.new.output;
      lengths-left = c.read-back.new.lengths;
      outcome = c.read-back.ensures;
    } in
    pack_asks call c.if-back-ne-NONE.false c.args.text.now c.requires.1

pub returns : goal.returns
returns c =
    let call : Call =
    record {
      packets = c.args.packets.now;
      output = c.room-output.result;
      lengths = c.room-lengths.result;
      short = c.requires.0;
      output_long = sym c.room-output.ensures;
      lengths_long = sym c.room-lengths.ensures;
      answer = c.read-back.result;
      output-left = c.read-back.new.output;
      lengths-left = c.read-back.new.lengths;
      outcome = c.read-back.ensures;
    } in
    pack_gives call c.if-back-ne-NONE.false c.requires.1 c.pack.ensures
