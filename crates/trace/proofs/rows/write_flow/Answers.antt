-- `trace::rows::write_flow` writes nothing for a fresh flow, and else the parts of its line one behind the other (`Tracing`).
use Rattle.std.proofs.Common.{arith, ap}
use Rattle.text.proofs.Writing.{wrote_as}
use Rattle.trace.specs.Trace.{hex_or_dash}
use Rattle.trace.proofs.Tracing.{flow-fresh, in_place, flow-written}
use Rattle.trace.proofs.rows.write_flow.Goals as goal

pub returns-then-flow-eq0-clause-wrote : goal.returns-then-flow-eq0-clause-wrote
returns-then-flow-eq0-clause-wrote c =
    flow-fresh _ _ c.args.holding.now c.args.r c.args.k c.args.flow c.if-flow-eq0.true (omega (arith, c.requires.holding_size_in_bounds.1))

pub returns-clause-wrote : goal.returns-clause-wrote
returns-clause-wrote c =
    let a = c.args in
    let held = in_place a.holding.now a.r a.k a.flow _ _ c.place_of-place.ensures c.from-held.ensures in
    flow-written a.holding.now a.r a.k a.flow c.if-flow-eq0.false c.words.ensures.wrote c.decimal.ensures.wrote c.column.ensures.wrote
    c.column-2.ensures.wrote c.column-3.ensures.wrote c.byte.ensures.wrote (wrote_as (ap hex_or_dash held) c.write_held.ensures.wrote)
    c.byte-2.ensures.wrote
