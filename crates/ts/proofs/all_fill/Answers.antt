use Rattle.std.proofs.Common.{ℕ, ◌∙◌, rules, tests}
use lib.Dec.{eqb}
use Rattle.std.proofs.lemmas.Iterator.{YieldsList-from_slice}
use Rattle.std.proofs.lemmas.Iterator.Search.{all_from_yields_List}
use Rattle.ts.specs.Packet.{fill_byte}
use Rattle.ts.proofs.Filling.{list_all-fill}
use Rattle.ts.proofs.all_fill.Goals as goal

pub returns : goal.returns
returns c =
    all_from_yields_List (λ (x : ℕ). eqb x fill_byte) _ _ c.all.result c.all.ensures.ran (YieldsList-from_slice c.args.bytes.now cc)
    (λ x b q k. search (rules, tests))
    ∙ list_all-fill c.args.bytes.now
