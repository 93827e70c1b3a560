-- `pspmpeg::packets::write_packets` is right since after each turn the packets so far are written (`Draining`).
use Rattle.std.proofs.Common.{arith, refl, ◌∙◌}
use Rattle.text.proofs.Writing.{wrote_as}
use Rattle.pspmpeg.proofs.Draining.{code-sound, code_bad, drain-begin, packet_room, goes_on, next_place, drain_turn, drain_end}
use Rattle.pspmpeg.proofs.packets.write_packets.Goals as goal

pub returns-then-first-ne-NONE-clause-wrote : goal.returns-then-first-ne-NONE-clause-wrote
returns-then-first-ne-NONE-clause-wrote c =
    wrote_as (code_bad _ _ _ refl 0 0 c.write-first.ensures c.if-first-ne-NONE.true) c.write_refused.ensures.wrote

pub loop-place-init : goal.loop-place-init
loop-place-init c = (
  drain-begin _ _ _ (omega (arith, c.requires.1)) (code-sound _ _ _ refl 0 0 c.write-first.ensures c.if-first-ne-NONE.false),
  c.write-first.auto.output,
)

pub words-requires : goal.words-requires
words-requires c =
    let before = c.loop-place.invariant in
    omega (arith, packet_room before.0 c.requires.1 c.requires.0 c.loop-place-test.true, c.write-written.auto.output, before.1)

pub loop-place-smaller : goal.loop-place-smaller
loop-place-smaller c =
    let before = c.loop-place.invariant in
    let more = c.loop-place-test.true in
    omega (
      arith,
      more,
      goes_on before.0 c.requires.1 c.requires.0 more,
      next_place before.0 c.requires.1 c.requires.0 more _ _ _ before.1 c.write-written.ensures,
    )

pub loop-place-preserved : goal.loop-place-preserved
loop-place-preserved c =
    let before = c.loop-place.invariant in
    let packet = c.words.ensures in (
      drain_turn before.0 c.requires.1 c.requires.0 c.loop-place-test.true _ _ _ before.1 c.write-written.ensures packet.wrote
          packet.same_room,
      c.write-written.auto.output ∙ before.1,
    )

pub returns-clause-wrote : goal.returns-clause-wrote
returns-clause-wrote c = drain_end c.loop-place.invariant.0 c.requires.1 c.loop-place-test.false
