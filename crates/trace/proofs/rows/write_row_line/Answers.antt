-- `trace::rows::write_row_line` writes the parts of the line one behind the other.
use Rattle.trace.proofs.Tracing.{row_line-written}
use Rattle.trace.proofs.rows.write_row_line.Goals as goal

pub returns-clause-wrote : goal.returns-clause-wrote
returns-clause-wrote c =
    row_line-written c.args.r c.args.row c.words.ensures.wrote c.decimal.ensures.wrote c.column.ensures.wrote c.column-2.ensures.wrote
    c.byte.ensures.wrote
