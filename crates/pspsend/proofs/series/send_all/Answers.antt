-- `pspsend::series::send_all` is right since after each turn what it has written is what the series has sent so far (`Going`).
use Rattle.std.proofs.Common.{suc, ◌-◌, ◌≡◌, length, arith, ◌∙◌}
use Rattle.sender.specs.Series.{Job}
use Rattle.pspsend.specs.Inside.{job_of}
use Rattle.pspsend.proofs.Making.{going_begin, going_next, end-refused, end_turns}
use Rattle.pspsend.proofs.series.send_all.Goals as goal

pub loop-turn-init : goal.loop-turn-init
loop-turn-init c =
    let a = c.args in
    let job : Job = job_of a.sending a.frames in
    record {
      scratch_long = omega (arith, c.send_once.auto.scratch);
      same_slices = c.send_once.ensures.same_slices;
      going =
          going_next job a.sending.limit a.sending.number a.capture.now
          (going_begin job a.sending.limit a.sending.number a.capture.now c.requires.1) (omega arith) c.in_ok-series.ensures.sent;
    }

pub returns-in-Err-clause-sent : goal.returns-in-Err-clause-sent
returns-in-Err-clause-sent c =
    let a = c.args in
    let job : Job = job_of a.sending a.frames in
    let left : length a.frames.bytes.now - c.loop-turn._turn ≡ suc (length a.frames.bytes.now - c.loop-turn._turn - 1) = omega arith in
    end-refused job a.sending.limit a.sending.number a.capture.now c.in_ok-series.ensures.sent.accepted c.requires.0
    c.loop-turn.invariant.going left c.in-Err.ensures.sent

pub loop-turn-preserved : goal.loop-turn-preserved
loop-turn-preserved c =
    let a = c.args in
    let job : Job = job_of a.sending a.frames in
    let before = c.loop-turn.invariant in
    let sent = c.send_once-in-loop-turn in
    record {
      scratch_long = omega (arith, sent.auto.scratch, before.scratch_long);
      same_slices =
          (sent.ensures.same_slices.0 ∙ before.same_slices.0, sent.ensures.same_slices.1 ∙ before.same_slices.1);
      going = going_next job a.sending.limit a.sending.number a.capture.now before.going (omega arith) c.in-Ok.ensures.sent;
    }

pub returns-clause-sent : goal.returns-clause-sent
returns-clause-sent c =
    let a = c.args in
    let job : Job = job_of a.sending a.frames in
    end_turns job a.sending.limit a.sending.number a.capture.now c.in_ok-series.ensures.sent.accepted c.requires.0
    c.loop-turn.invariant.going (omega arith)
