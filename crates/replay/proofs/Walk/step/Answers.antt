-- `replay::Walk::step` is right since the entry is the one that the file has there, and the run goes on from where it stands (`Walking`).
use Rattle.std.proofs.Common.{arith}
use Rattle.capture.proofs.Checking.{entry_inside}
use Rattle.replay.proofs.Walking.{stands_at, takes_length_lem, body-fits, steps}
use Rattle.replay.proofs.Walk.step.Goals as goal

pub kind_at-kind-requires : goal.kind_at-kind-requires
kind_at-kind-requires c = entry_inside (stands_at c.requires.0 c.requires.1)

pub run_entry-answer-requires : goal.run_entry-answer-requires
run_entry-answer-requires c =
    takes_length_lem c.requires.0 c.requires.1 c.kind_at-kind.result c.body_at-body.result.now c.kind_at-kind.ensures
    c.body_at-body.ensures.its_bytes

pub overflow_add-self-2 : goal.overflow_add-self-2
overflow_add-self-2 c =
    omega (
      arith,
      body-fits c.requires.0 c.requires.1 c.kind_at-kind.result c.body_at-body.result.now c.kind_at-kind.ensures
          c.body_at-body.ensures.its_bytes,
    )

pub returns-clause-steps : goal.returns-clause-steps
returns-clause-steps c =
    let run = c.run_entry-answer in
    steps c.requires.0 c.requires.1 c.kind_at-kind.result c.body_at-body.result.now c.kind_at-kind.ensures
    c.body_at-body.ensures.its_bytes
    run.result _ run.ensures.runs run.ensures.still_lent
