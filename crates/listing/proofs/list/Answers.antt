-- `listing::list` is right since a refused file has one line (`listing-refused`), and any other is listed entry by entry.
use Rattle.std.proofs.Common.{sym, ap, length, ◌∙◌, arith, rules}
use Rattle.refusal.proofs.Numbers.{number_some}
use Rattle.text.proofs.Writing.{wrote_as, wrote_whole}
use Rattle.listing.proofs.Listings.{listing-refused}
use Rattle.listing.proofs.list.Goals as goal

pub returns-in-Err : goal.returns-in-Err
returns-in-Err c =
    let begun = c.new-text.ensures in
    wrote_whole c.new-text.result c.write_refused.new.text
    (wrote_as
    (listing-refused c.args.file.now c.from.result (c.from.ensures ∙ c.in-Err.ensures)
    (λ none. number_some c.in-Err.refusal (sym c.from.ensures ∙ none)))
    c.write_refused.ensures.wrote)
    begun.its_bytes begun.empty (search rules)

pub list_entries-requires : goal.list_entries-requires
list_entries-requires c =
    let begun = c.new-text.ensures in
    (search rules, omega (arith, begun.empty, ap length begun.its_bytes))

pub returns : goal.returns
returns c =
    let begun = c.new-text.ensures in
    wrote_whole c.new-text.result c.list_entries.new.text c.list_entries.ensures.wrote begun.its_bytes begun.empty (search rules)
