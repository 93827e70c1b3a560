use Rattle.std.proofs.Common.{sym}
use Rattle.refusal.proofs.Numbers.{number_some}
use Rattle.table.specs.Calls.{opened}
use Rattle.table.proofs.Keeping.{opened_by-some}
use Rattle.table.proofs.open.Goals as goal

pub returns-in-Ok : goal.returns-in-Ok
unfolding opened
returns-in-Ok c = simp (c.in-Ok.ensures.0, c.in-Ok.ensures.1, c.fresh_row.ensures)

pub returns-in-Err : goal.returns-in-Err
unfolding opened
returns-in-Err c = rw (c.in-Err.ensures, c.from.ensures) (sym (opened_by-some _ _ _ (number_some c.in-Err.refusal)))
