-- `join::place_segment` is right since its one test is that of `fate`, once what is held has made way for B.
use Rattle.std.proofs.Common.{arith}
use Rattle.join.specs.Slices.{with_output}
use Rattle.join.proofs.Placing.{segment_lost, segment_settles}
use Rattle.join.proofs.place_segment.Goals as goal

pub returns-then-begins-before-clause-placed : goal.returns-then-begins-before-clause-placed
returns-then-begins-before-clause-placed c =
    let a = c.args in
    let lent = with_output a.holding.now a.output.now in
    segment_lost a.most a.place a.tally lent a.body.now a.entry _ lent (omega arith)
    _ _ c.begins-begins.ensures c.give_way-before.ensures c.if-begins-before.true c.dropping.ensures

pub returns-clause-placed : goal.returns-clause-placed
returns-clause-placed c =
    let a = c.args in
    segment_settles a.most a.place a.tally (with_output a.holding.now a.output.now) a.body.now a.entry _ _ (omega arith)
    _ _ _ c.begins-begins.ensures c.ends.ensures c.give_way-before.ensures c.if-begins-before.false (omega arith) (omega arith)
    c.settle.ensures.placed
