-- `trace::rows::write_rows` writes row after row, and no flow of an unbroken table holds more than its place has.
use Rattle.std.proofs.Common.{◌<◌, arith}
use Rattle.table.specs.Rows.{rows}
use Rattle.text.proofs.Pieces.{pieces-begin, pieces_turn, pieces_end}
use Rattle.trace.specs.Trace.{rows_text}
use Rattle.trace.proofs.Tracing.{held-few}
use Rattle.trace.proofs.rows.write_rows.Goals as goal

pub loop-r-init : goal.loop-r-init
loop-r-init c = pieces-begin _ _ _ _ (omega (arith, c.requires.holding_size_in_bounds.1))

pub write_row-requires-clause-r_lt_rows : goal.write_row-requires-clause-r_lt_rows
write_row-requires-clause-r_lt_rows c =
    let more : c.loop-r.r < rows = omega arith in
    (more, held-few c.args.table c.requires.table_value c.loop-r.r more)

pub loop-r-preserved : goal.loop-r-preserved
loop-r-preserved c =
    let row = c.write_row.ensures in
    pieces_turn c.loop-r.invariant (omega arith) row.wrote row.same_room row.upper_bound

pub returns-clause-wrote : goal.returns-clause-wrote
unfolding rows_text
returns-clause-wrote c = (pieces_end c.loop-r.invariant (omega arith)).0
