use Rattle.std.proofs.Common.{◌≡◌, rules, sym, ◌∙◌, refl}
use borrow.Author.Tests.{eq-eqb, ne_eqb}
use Rattle.table.proofs.Asking.{psp_asked, dmpt_asked, closed_asked}
use Rattle.table.proofs.row_broken.Goals as goal

pub returns-else-row-eq0 : goal.returns-else-row-eq0
returns-else-row-eq0 c =
    let row = c.args.row.now in
    c.any_unfit.ensures ∙ sym (psp_asked row (search rules) ∙ rw (ne_eqb _ _ c.if-row-eq0.false) refl)

pub returns-else-row-eq0-2 : goal.returns-else-row-eq0-2
returns-else-row-eq0-2 c =
    let row = c.args.row.now in
    c.any_unfit-else-row-eq0-2.ensures ∙ sym (dmpt_asked row (search rules) ∙ rw (ne_eqb _ _ c.if-row-eq0-2.false) refl)

pub returns-else-row-ne0 : goal.returns-else-row-ne0
returns-else-row-ne0 c =
    let row = c.args.row.now in
    c.any_unfit-else-row-ne0.ensures ∙ sym (closed_asked row (search rules) ∙ rw (eq-eqb _ _ c.if-row-ne0.false) refl)
