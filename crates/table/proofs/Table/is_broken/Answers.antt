use Rattle.std.proofs.Common.{◌≡◌, rules, sym, ap, ◌∙◌, List, ℕ}
use Rattle.std.specs.Prelude.{length}
use Rattle.std.specs.List.{list_any}
use Rattle.std.proofs.lemmas.Iterator.{YieldsList-from_slice}
use Rattle.std.proofs.lemmas.Iterator.Search.{any_from_yields_List}
use borrow.Author.Tests.{tests}
use Rattle.octets.specs.Count.{any}
use Rattle.table.specs.Rows.{rows}
use Rattle.table.specs.Broken.{row_broken}
use Rattle.table.specs.Inside.{id_twice}
use Rattle.table.proofs.Asking.{rows-asked, row_breaks, ids_break}
use Rattle.table.proofs.Table.is_broken.Goals as goal

pub returns-then-any : goal.returns-then-any
returns-then-any c =
    let six : length c.args.self.now.rows ≡ 6 = search rules in
    let told : c.any.result ≡ list_any row_broken c.args.self.now.rows =
    any_from_yields_List row_broken _ _ _ c.any.ensures.ran (YieldsList-from_slice c.args.self.now.rows cc)
    (λ x b q k. search (rules, tests)) in
    c.if-any.true ∙ sym (row_breaks c.args.self.now (sym (told ∙ rows-asked c.args.self.now six) ∙ c.if-any.true))

pub returns-else-any : goal.returns-else-any
returns-else-any c =
    let six : length c.args.self.now.rows ≡ 6 = search rules in
    let told : c.any.result ≡ list_any row_broken c.args.self.now.rows =
    any_from_yields_List row_broken _ _ _ c.any.ensures.ran (YieldsList-from_slice c.args.self.now.rows cc)
    (λ x b q k. search (rules, tests)) in
    c.any_id_twice.ensures
    ∙ ap (λ (ids : List ℕ). any (λ r. any (id_twice ids r) r) rows) c.ids_of.ensures
    ∙ sym (ids_break c.args.self.now (sym (told ∙ rows-asked c.args.self.now six) ∙ c.if-any.false))
