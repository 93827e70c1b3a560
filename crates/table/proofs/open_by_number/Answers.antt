use Rattle.std.proofs.Common.{sym, refl, ◌∙◌}
use Rattle.table.specs.Calls.{opened_by_number}
use Rattle.table.proofs.Asking.{known_kind, unknown_kind}
use Rattle.table.proofs.open_by_number.Goals as goal

pub returns-in-Ok : goal.returns-in-Ok
unfolding opened_by_number
returns-in-Ok c =
    let known = known_kind c.args.number c.in-Ok.kind (sym c.try_from.ensures ∙ c.in-Ok.is) in
    rw (known.0, known.1) c.«open».ensures

pub returns-in-Err : goal.returns-in-Err
unfolding opened_by_number
returns-in-Err c =
    let none = unknown_kind c.args.number c.in-Err.refusal (sym c.try_from.ensures ∙ c.in-Err.is) in
    rw (none.0, c.from.ensures, ← none.1) refl
