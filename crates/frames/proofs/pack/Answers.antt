-- `frames::pack`: that the turn's frame lies in the bytes, and that the file has room for it, follows from the frames before it
-- (proofs/Packing.antt).
use Rattle.std.proofs.Common.{refl, arith}
use Rattle.frames.proofs.Packing.{pack_begin, frame-there, frame_room_lem, pack_turn, pack_end}
use Rattle.frames.proofs.pack.Goals as goal

pub loop-size-init : goal.loop-size-init
loop-size-init c = pack_begin _ _ _

pub write_u16-requires : goal.write_u16-requires
write_u16-requires c = omega (arith, frame_room_lem c.loop-size.invariant c.requires.0 c.requires.1 c.loop-size-test.true _ refl)

pub overflow_add-body : goal.overflow_add-body
overflow_add-body c = omega (arith, frame_room_lem c.loop-size.invariant c.requires.0 c.requires.1 c.loop-size-test.true _ refl)

pub copy-requires : goal.copy-requires
copy-requires c =
    let i = c.loop-size.invariant in
    let more = c.loop-size-test.true in (
      omega (arith, frame_room_lem i c.requires.0 c.requires.1 more _ c.from-count.ensures),
      frame-there i c.requires.0 c.requires.1 more _ c.from-count.ensures,
    )

pub overflow_add-at : goal.overflow_add-at
overflow_add-at c =
    omega (arith, frame_room_lem c.loop-size.invariant c.requires.0 c.requires.1 c.loop-size-test.true _ c.from-count.ensures)

pub overflow_add-from : goal.overflow_add-from
overflow_add-from c =
    omega (arith, frame-there c.loop-size.invariant c.requires.0 c.requires.1 c.loop-size-test.true _ c.from-count.ensures)

pub loop-size-preserved : goal.loop-size-preserved
loop-size-preserved c =
    pack_turn c.loop-size.invariant c.requires.0 c.requires.1 c.loop-size-test.true _ c.from-count.ensures _ _
    (rw c.from-count.ensures c.write_u16.ensures) c.copy.ensures

pub returns : goal.returns
returns c = pack_end c.loop-size.invariant c.requires.0 c.requires.1 c.loop-size-test.false
