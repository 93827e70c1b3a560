use Rattle.std.proofs.Common.{◌≡◌, rules, ◌∙◌}
use Rattle.std.specs.Prelude.{eqb, length}
use Rattle.std.proofs.lemmas.Iterator.{YieldsList-from_slice}
use Rattle.std.proofs.lemmas.Iterator.Search.{position_from_yields_List}
use borrow.Author.Tests.{tests}
use Rattle.table.specs.declared.Row.{Row}
use Rattle.table.proofs.Asking.{found-by_id}
use Rattle.table.proofs.Table.find_row.Goals as goal

pub returns : goal.returns
returns c =
    let rows = c.args.self.now.rows in
    let six : length rows ≡ 6 = search rules in
    position_from_yields_List (λ (row : Row). eqb row.id c.args.id) _ _ _ c.position.ensures.ran (YieldsList-from_slice rows cc)
    (λ x b q k. search (rules, tests))
    ∙ found-by_id c.args.self.now c.args.id six c.requires.0 c.requires.1
