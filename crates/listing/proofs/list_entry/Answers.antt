-- `listing::list_entry` is right since what the step answers is what the line of that entry has (`Lines`).
use Rattle.listing.proofs.Lines.{line_is}
use Rattle.listing.proofs.list_entry.Goals as goal

pub returns-clause-wrote : goal.returns-clause-wrote
returns-clause-wrote c =
    let step = c.step-stepped.result in
    let did = c.step-stepped.ensures.steps in (
      line_is c.args.file.now c.args.walk.now.index step.kind step.answer did.its_kind did.its_counts
          c.write_line.ensures.wrote,
      c.write_line.ensures.upper_bound,
    )
