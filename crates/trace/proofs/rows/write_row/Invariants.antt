-- `trace::rows::write_row`: after k turns the lines of the first k flows stand behind the line of the row.
use Rattle.flow.specs.Flow.{flows}
use Rattle.text.proofs.Pieces.{Pieces}
use Rattle.trace.specs.Inside.{flow_room}
use Rattle.trace.proofs.Tracing.{flows_of}
use Rattle.trace.proofs.rows.write_row.Given as goal

abbrev pub invariant-loop-k : goal.invariant-loop-k
invariant-loop-k l = Pieces (flows_of l.holding l.r l.fn.row) flows flow_room l.initial.text l.text l.k
