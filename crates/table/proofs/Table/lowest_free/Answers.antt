use Rattle.std.proofs.Common.{◌≡◌, rules, ◌∙◌}
use Rattle.std.specs.Prelude.{length}
use Rattle.std.proofs.lemmas.Iterator.{YieldsList-from_slice}
use Rattle.std.proofs.lemmas.Iterator.Search.{position_from_yields_List}
use borrow.Author.Tests.{tests}
use Rattle.table.specs.declared.Row.{Row}
use Rattle.table.specs.Rows.{is_closed}
use Rattle.table.proofs.Asking.{free-told}
use Rattle.table.proofs.Table.lowest_free.Goals as goal

pub returns : goal.returns
returns c =
    let rows = c.args.self.now.rows in
    let six : length rows ≡ 6 = search rules in
    position_from_yields_List (λ (row : Row). is_closed row.kind) _ _ _ c.position.ensures.ran (YieldsList-from_slice rows cc)
    (λ x b q k. search (rules, tests))
    ∙ free-told c.args.self.now six
