-- `pspmpeg::gather::Gathered::gather_entry` is right since what it takes the entry for is what the definition takes it for, and the
-- entry's frames lie in the slices that the step leaves.
use Rattle.capture.proofs.Checking.{entry_inside}
use Rattle.card.specs.History.{frames_of}
use Rattle.replay.specs.Run.{answer_at}
use Rattle.replay.proofs.Walking.{stands_at}
use Rattle.replay.proofs.Standing.{table-whole}
use Rattle.pspmpeg.proofs.Gathering.{chosen, not_chosen, fits-found, adds_found}
use Rattle.pspmpeg.proofs.gather.Gathered.gather_entry.Goals as goal

pub kind_at-kind-requires : goal.kind_at-kind-requires
kind_at-kind-requires c = entry_inside (stands_at c.requires.stands.0 c.requires.stands.1)

pub is_for-wanted-requires : goal.is_for-wanted-requires
is_for-wanted-requires c = table-whole c.requires.stands.0

pub returns-else-wanted-clause-adds : goal.returns-else-wanted-clause-adds
returns-else-wanted-clause-adds c =
    let rightly =
    chosen c.requires.stands.0 c.args.session c.kind_at-kind.result c.body_at-body.result.now c.is_for-wanted.result
    c.kind_at-kind.ensures c.body_at-body.ensures.its_bytes c.is_for-wanted.ensures in
    not_chosen (frames_of (answer_at c.args.file.now c.args.walk.now.index)) rightly c.if-wanted.false

pub append-requires : goal.append-requires
append-requires c =
    let rightly =
    chosen c.requires.stands.0 c.args.session c.kind_at-kind.result c.body_at-body.result.now c.is_for-wanted.result
    c.kind_at-kind.ensures c.body_at-body.ensures.its_bytes c.is_for-wanted.ensures in
    fits-found c.step-stepped.ensures.steps rightly c.if-wanted.true c.requires.fits

pub returns-then-wanted-clause-adds : goal.returns-then-wanted-clause-adds
returns-then-wanted-clause-adds c =
    let rightly =
    chosen c.requires.stands.0 c.args.session c.kind_at-kind.result c.body_at-body.result.now c.is_for-wanted.result
    c.kind_at-kind.ensures c.body_at-body.ensures.its_bytes c.is_for-wanted.ensures in
    adds_found c.step-stepped.ensures.steps rightly c.if-wanted.true c.append.ensures.adds
