-- `trace::rows::write_row` writes nothing for a closed row, and else its line and those of its flows.
use Rattle.std.proofs.Common.{sym, ◌∙◌, arith}
use Rattle.text.proofs.Pieces.{pieces-begin, pieces_turn, pieces_end}
use Rattle.trace.proofs.Tracing.{row_closed, row_written}
use Rattle.trace.proofs.rows.write_row.Goals as goal

pub returns-then-is_closed-clause-wrote : goal.returns-then-is_closed-clause-wrote
returns-then-is_closed-clause-wrote c =
    row_closed _ _ c.args.holding.now c.args.r c.args.row (sym c.is_closed.ensures ∙ c.if-is_closed.true)
    (omega (arith, c.requires.holding_size_in_bounds.1))

pub loop-k-init : goal.loop-k-init
loop-k-init c =
    let line = c.write_row_line.ensures in
    pieces-begin _ _ _ _ (omega (arith, line.upper_bound, c.requires.holding_size_in_bounds.1, line.same_room.1))

pub loop-k-preserved : goal.loop-k-preserved
loop-k-preserved c =
    let flow = c.write_flow.ensures in
    pieces_turn c.loop-k.invariant (omega arith) flow.wrote flow.same_room flow.upper_bound

pub returns-clause-wrote : goal.returns-clause-wrote
returns-clause-wrote c =
    row_written c.args.holding.now c.args.r c.args.row (sym c.is_closed.ensures ∙ c.if-is_closed.false) c.write_row_line.ensures.wrote
    (pieces_end c.loop-k.invariant (omega arith)).0
