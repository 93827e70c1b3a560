-- `pspsend::series::add_open` is right since the entry that it adds to an empty capture is the opening one.
use Rattle.std.proofs.Common.{◌∙◌}
use Rattle.octets.proofs.Numbers.{four_bytes}
use Rattle.pspsend.proofs.Making.{open_holds}
use Rattle.pspsend.proofs.series.add_open.Goals as goal

pub returns-clause-holds : goal.returns-clause-holds
returns-clause-holds c =
    let lent = c.args.capture.now in
    open_holds c.args.session lent.contents.now lent.bodies.now lent.roomy _ (c.to_be_bytes.ensures ∙ four_bytes c.args.session) lent.writer
    c.requires _ c.add.ensures.value _ _ (rw c.from.ensures at c.add.ensures.contents_after) c.add.ensures.bodies_after
