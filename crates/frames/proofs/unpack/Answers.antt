-- `frames::unpack`: what a turn reads and writes follows from the frames before it (proofs/Unpacking.antt).
use Rattle.std.proofs.Common.{refl, ◌∙◌, arith}
use Rattle.octets.proofs.Numbers.{be16_rest}
use Rattle.frames.proofs.Unpacking.{unpack_begin, bytes_same, unpack_turn, unpack_end, frame-there}
use Rattle.frames.proofs.unpack.Goals as goal
use Rattle.frames.proofs.unpack.Goals.{else-loop-count-test, then-loop-count-test+in_default}

pub loop-count-init : goal.loop-count-init
loop-count-init c = unpack_begin _ _ _

pub copy-requires : goal.copy-requires
copy-requires c =
    let there = frame-there c.args.file.now c.loop-count.at c.loop-count.invariant.inside c.in-Some.ensures.0 in
    let size = c.from-size.ensures ∙ c.in-Some.ensures.1 ∙ be16_rest c.args.file.now c.loop-count.at in
    let long = bytes_same c.loop-count.invariant c.requires in
    (omega (arith, there, size, c.loop-count.invariant.short, long, c.requires), omega (arith, there, size))

pub loop-count-preserved : goal.loop-count-preserved
loop-count-preserved c =
    unpack_turn c.loop-count.invariant c.requires c.loop-count-test.true c.in-Some.ensures.0 c.from-size.result _ _
    (c.from-size.ensures ∙ c.in-Some.ensures.1 ∙ be16_rest c.args.file.now c.loop-count.at)
    c.copy.ensures (rw c.from-size.ensures refl)

pub returns : goal.returns
returns c =
    unpack_end c.loop-count.invariant c.requires (λ more. elim c.loop-count-test.branch [
      | else-loop-count-test w ↦ absurd (omega (arith, more, w.loop-count-test))
      | then-loop-count-test+in_default w ↦ w.in_default.ensures
    ])
