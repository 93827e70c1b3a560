use Rattle.std.proofs.Common.{rules, ap, Bool, ◌&&◌, ◌∙◌, get_or}
use Rattle.table.specs.Broken.{not_zero}
use Rattle.table.proofs.Asking.{id_asked}
use Rattle.table.proofs.id_before.Goals as goal

pub returns : goal.returns
returns c =
    ap (λ (found : Bool). not_zero (get_or c.args.ids.now c.args.i 0) && found) c.contains.ensures.value
    ∙ id_asked c.args.ids.now c.args.i (search rules)
