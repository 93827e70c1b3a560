use Rattle.std.proofs.Common.{rules, ◌∙◌, refl, ℕ, Bool}
use Rattle.std.proofs.lemmas.Iterator.{YieldsList-from_range}
use Rattle.std.proofs.lemmas.Iterator.Search.{any_from_yields_List}
use borrow.Author.Tests.{tests}
use Rattle.octets.specs.Count.{any}
use Rattle.table.specs.Inside.{id_twice}
use Rattle.octets.proofs.Listed.{any_counted}
use Rattle.table.proofs.any_id_twice.Goals as goal

pub returns : goal.returns
returns c =
    let twice : ℕ → Bool = λ i. any (id_twice c.args.ids.now i) i in
    any_from_yields_List twice _ _ _ c.any.ensures.ran (YieldsList-from_range 0 6 6 (cc) refl) (λ x b q k. search (rules, tests))
    ∙ any_counted twice 6
