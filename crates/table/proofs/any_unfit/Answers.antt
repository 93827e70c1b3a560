use Rattle.std.proofs.Common.{◌≡◌, rules, sym, ◌∙◌, slice_range, Bool, List}
use Rattle.std.specs.List.{list_any}
use Rattle.std.proofs.lemmas.Iterator.{YieldsList-from_slice}
use Rattle.std.proofs.lemmas.Iterator.Search.{any_from_yields_List}
use borrow.Author.Tests.{tests}
use Rattle.flow.specs.declared.Flow.{Flow}
use Rattle.table.specs.Inside.{flow_unfit}
use Rattle.table.proofs.any_unfit.Goals as goal

pub returns-else-flow_unfit : goal.returns-else-flow_unfit
returns-else-flow_unfit c =
    let unfit : Flow → Bool = flow_unfit c.args.others c.args.most in
    let behind : List Flow = slice_range c.args.row.now.flows 1 4 in
    let others : c.any.result ≡ list_any unfit behind =
    any_from_yields_List unfit _ _ _ c.any.ensures.ran (YieldsList-from_slice behind c.iter.ensures.rest)
    (λ x b q k. search (rules, tests)) in
    rw (sym c.flow_unfit.ensures ∙ c.if-flow_unfit.false) others
