use Rattle.std.proofs.Common.{sym, ◌∙◌, length}
use Rattle.sender.proofs.Positions.{framed, inside, offset_small}
use Rattle.sender.proofs.Writing.{writing_begin, writing_placeable, writing_turn, bodies_from, bodies_to, writing_end}
use Rattle.sender.proofs.write_segments.Goals as goal

pub loop-output-init : goal.loop-output-init
loop-output-init c =
    let a = c.args in (c.requires, writing_begin a.frames.bytes.now a.frames.lengths.now a.room a.position a.output.now c.requires)

pub place-progress-requires : goal.place-progress-requires
place-progress-requires c = writing_placeable _ _ _ _ _ _ c.loop-output.invariant.1 (sym c.goes_on.ensures ∙ c.loop-output-test.true)

pub loop-output-preserved : goal.loop-output-preserved
loop-output-preserved c =
    let kept = c.loop-output.invariant in
    let placed = c.place-progress.ensures in
    (kept.0, writing_turn _ _ _ _ _ _ kept.1 (sym c.goes_on.ensures ∙ c.loop-output-test.true) _ _ placed.value placed.output_after)

pub index_of-from-requires : goal.index_of-from-requires
index_of-from-requires c =
    let a = c.args in
    let ready = c.loop-output.invariant.0 in
    let there = inside a.frames.lengths.now a.position ready.position-inside in
    let sound = framed (length a.frames.bytes.now) a.frames.lengths.now ready.frames-sound in
    (there.among, sound.few, offset_small sound a.position there)

pub copy-requires : goal.copy-requires
copy-requires c =
    let wrote = c.loop-output.invariant.1 in
    let stops = sym c.goes_on.ensures ∙ c.loop-output-test.false in
    (bodies_to _ _ _ _ _ _ wrote stops, rw c.index_of-from.ensures (bodies_from _ _ _ _ _ _ wrote stops))

pub returns : goal.returns
returns c =
    let stops = sym c.goes_on.ensures ∙ c.loop-output-test.false in
    writing_end _ _ _ _ _ _ c.loop-output.invariant.1 stops c.index_of-from.result _ c.index_of-from.ensures c.copy.ensures
