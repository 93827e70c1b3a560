-- `trace::frames::write_frames` is right since a line more shows a frame more (`Framing`).
use Rattle.std.proofs.Common.{◌+◌, ◌<◌, arith}
use Rattle.std.proofs.lemmas.Grind.{common_steps}
use Rattle.octets.proofs.Stretches.{sliced_part, length_part}
use Rattle.trace.proofs.Tracing.{framing_begin, frame_inside, frame_room_lem, framing_turn}
use Rattle.trace.proofs.frames.write_frames.Goals as goal

pub loop-length-init : goal.loop-length-init
loop-length-init c = framing_begin _ _ _ _ (omega (arith, c.requires.1))

pub slice_bounds-write_frame-end : goal.slice_bounds-write_frame-end
slice_bounds-write_frame-end c =
    let more : c.loop-length.length-index < c.args.count = grind (arith, common_steps) in
    frame_inside c.loop-length.invariant c.requires.0 _ (grind (arith, common_steps)) more

pub write_frame-requires : goal.write_frame-requires
write_frame-requires c =
    let from = c.loop-length.from in
    let size = c.from-size.result in
    let output = c.args.lent.now.output.now in
    let more : c.loop-length.length-index < c.args.count = grind (arith, common_steps) in
    let inside = frame_inside c.loop-length.invariant c.requires.0 size (grind (arith, common_steps)) more in
    rw (sliced_part output from (from + size) size (omega arith), length_part output from size inside)
    (frame_room_lem c.loop-length.invariant c.requires.0 size (grind (arith, common_steps)) more c.requires.1)

pub loop-length-preserved : goal.loop-length-preserved
loop-length-preserved c =
    let from = c.loop-length.from in
    let size = c.from-size.result in
    let output = c.args.lent.now.output.now in
    let more : c.loop-length.length-index < c.args.count = grind (arith, common_steps) in
    let inside = frame_inside c.loop-length.invariant c.requires.0 size (grind (arith, common_steps)) more in
    let is_part = sliced_part output from (from + size) size (omega arith) in
    let frame = c.write_frame.ensures in
    framing_turn c.loop-length.invariant c.requires.0 size (grind (arith, common_steps)) more (rw is_part at frame.wrote) frame.same_room
    (rw (is_part, length_part output from size inside) at frame.value)
