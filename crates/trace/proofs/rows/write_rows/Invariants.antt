-- `trace::rows::write_rows`: after r turns the first r rows are written.
use Rattle.table.specs.Rows.{rows}
use Rattle.text.proofs.Pieces.{Pieces}
use Rattle.trace.specs.Inside.{row_room}
use Rattle.trace.proofs.Tracing.{rows_of}
use Rattle.trace.proofs.rows.write_rows.Given as goal

abbrev pub invariant-loop-r : goal.invariant-loop-r
invariant-loop-r l = Pieces (rows_of l.holding l.fn.table) rows row_room l.initial.text l.text l.r
