use Rattle.std.proofs.Common.{sym}
use Rattle.refusal.proofs.Numbers.{number_some}
use Rattle.table.specs.Calls.{closed}
use Rattle.table.proofs.Keeping.{closed_by-some}
use Rattle.table.proofs.close.Goals as goal

pub returns-in-Ok : goal.returns-in-Ok
unfolding closed
returns-in-Ok c = simp (c.in-Ok.ensures.0, c.in-Ok.ensures.1, c.closed_row.ensures, c.held_in-dropped.ensures)

pub returns-in-Err : goal.returns-in-Err
unfolding closed
returns-in-Err c = rw (c.in-Err.ensures, c.from.ensures) (sym (closed_by-some _ _ _ (number_some c.in-Err.refusal)))
