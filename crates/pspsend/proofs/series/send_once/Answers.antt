-- `pspsend::series::send_once` is right since a send answers the same whatever stands in its output, and leaves its packet at the front of
-- it.
use Rattle.std.proofs.Common.{ℕ, List, ◌≤◌, length, arith, refl}
use Rattle.std.proofs.lemmas.Result.{err_from_is_err_and}
use Rattle.octets.proofs.Stretches.{length_sliced}
use Rattle.sender.specs.declared.Sent.{Sent}
use Rattle.sender.specs.Send.{PermitsSend}
use Rattle.sender.specs.Series.{Job, asked_for}
use Rattle.pspsend.specs.declared.series.Series.{Series}
use Rattle.pspsend.specs.Inside.{packet_room, job_of}
use Rattle.pspsend.proofs.Making.{Once, code_then, packet-short, step_countable, step_on}
use Rattle.pspsend.proofs.series.send_once.Goals as goal

-- the call
abbrev once : (job : Job) (limit : ℕ) (series : Series) (scratch : List ℕ) → packet_room ≤ length scratch → (answer : Sent)
    (after : List ℕ) →
    PermitsSend (asked_for job series.number series.position (record { limit = limit; output = scratch }))
    (record { answer = answer; output = after }) → Once
once job limit series scratch long answer after permitted =
    record {
      job = job;
      limit = limit;
      series = series;
      scratch = scratch;
      scratch_long = long;
      answer = answer;
      after = after;
      permitted = permitted;
    }

pub returns-in_err-next-clause-sent : goal.returns-in_err-next-clause-sent
returns-in_err-next-clause-sent c =
    let refused = err_from_is_err_and c.from_residual.result c.from_residual.ensures.1 in
    let a = c.args in
    let call : Once = once (job_of a.sending a.frames) a.sending.limit a.series a.scratch.now c.requires.0 _ _ c.in_err-next.ensures in
    rw (refused.1, refused.2) (record { refused = code_then call; counted = refl; contents_now = refl; bodies_now = refl })

pub slice_bounds-add-end : goal.slice_bounds-add-end
slice_bounds-add-end c =
    let a = c.args in
    let call : Once = once (job_of a.sending a.frames) a.sending.limit a.series a.scratch.now c.requires.0 _ _ c.in_ok-next.ensures in
    omega (arith, packet-short call refl, c.send_next.auto.output, c.requires.0)

pub slice_bounds-add-end-2 : goal.slice_bounds-add-end-2
slice_bounds-add-end-2 c =
    let a = c.args in
    let call : Once = once (job_of a.sending a.frames) a.sending.limit a.series a.scratch.now c.requires.0 _ _ c.in_ok-next.ensures in
    length_sliced _ _ (omega (arith, packet-short call refl, c.send_next.auto.output, c.requires.0))

pub add-requires : goal.add-requires
add-requires c =
    let a = c.args in
    let call : Once = once (job_of a.sending a.frames) a.sending.limit a.series a.scratch.now c.requires.0 _ _ c.in_ok-next.ensures in
    step_countable call refl c.requires.1

pub returns-clause-sent : goal.returns-clause-sent
returns-clause-sent c =
    let a = c.args in
    let call : Once = once (job_of a.sending a.frames) a.sending.limit a.series a.scratch.now c.requires.0 _ _ c.in_ok-next.ensures in
    step_on call refl _ refl a.capture.now c.add.new.self c.add.ensures.value (rw c.from.ensures at c.add.ensures.contents_after)
    c.add.ensures.bodies_after
