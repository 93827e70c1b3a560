-- `pspsend::series::make` is right since what the series wrote is the file of its entries (`make_file`), and what refuses it refuses that
-- file.
use Rattle.std.proofs.Common.{rules, ℕ, List, ◌≡◌, sym}
use Rattle.std.proofs.lemmas.Result.{err_from_is_err_and}
use Rattle.refusal.specs.Refusal.{first}
use Rattle.refusal.proofs.Numbers.{number_some}
use Rattle.sender.specs.Series.{Job}
use Rattle.capture.specs.Write.{write_refusals}
use Rattle.outputs.specs.Sent.{make_refusal}
use Rattle.pspsend.specs.Capture.{Answer, Makes}
use Rattle.pspsend.specs.Inside.{job_of}
use Rattle.pspsend.proofs.Making.{make_first, make_judged, make_file}
use Rattle.pspsend.proofs.series.make.Goals as goal

-- a refusal, whatever is left in the slices
refused_by : (job : Job) (limit number : ℕ) (contents bodies : List ℕ) (answer : Answer) → answer.code ≡ make_refusal job limit number →
    (answer.code ≡ 0 → ⊥) → Makes job limit number contents bodies answer
refused_by job limit number contents bodies answer its_code some = record { its_code = its_code; its_file = λ z. absurd (some z) }

-- who lent the slices finds there what the call left in them
found_there : {job : Job} {limit number : ℕ} {contents bodies contents' bodies' : List ℕ} {answer : Answer} →
    Makes job limit number contents bodies answer → contents' ≡ contents → bodies' ≡ bodies →
    Makes job limit number contents' bodies' answer
found_there made c b = rw (c, b) made

pub returns-in_err-send_all-clause-makes : goal.returns-in_err-send_all-clause-makes
returns-in_err-send_all-clause-makes c =
    let refused = err_from_is_err_and c.from_residual.result c.from_residual.ensures.1 in
    let a = c.args in
    let job : Job = job_of a.sending a.frames in
    rw (refused.1, refused.2)
    (refused_by job a.sending.limit a.sending.number _ _ _
    (make_first job a.sending.limit a.sending.number _ c.in_err-send_all.ensures.sent.refused (number_some _)) (number_some _))

pub returns-in_err-finish-clause-makes : goal.returns-in_err-finish-clause-makes
returns-in_err-finish-clause-makes c =
    let refused = err_from_is_err_and c.from_residual-in_err-finish.result c.from_residual-in_err-finish.ensures.1 in
    let a = c.args in
    let job : Job = job_of a.sending a.frames in
    let all = c.in_ok-send_all.ensures.sent in
    rw (refused.1, refused.2)
    (refused_by job a.sending.limit a.sending.number _ _ _
    (make_judged job a.sending.limit a.sending.number _ _ all _ c.in_err-finish.ensures.its_number) (number_some _))

pub returns-clause-makes : goal.returns-clause-makes
returns-clause-makes c =
    let a = c.args in
    let job : Job = job_of a.sending a.frames in
    let all = c.in_ok-send_all.ensures.sent in
    let passed : first (write_refusals c.send_all.new.capture.writer) ≡ 0 = sym c.in_ok-finish.ensures.its_number in
    let written = rw passed at c.finish.ensures.contents_after in
    found_there {contents = c.finish.new.self.contents.now} {bodies = c.finish.new.self.bodies.now}
    (rw (c.finish.ensures.same_writer, c.finish.ensures.bodies_after)
    (record {
      its_code = make_judged job a.sending.limit a.sending.number _ _ all 0 (sym passed);
      its_file =
          λ _. make_file job a.sending.limit a.sending.number _ _ all passed a.contents.now a.bodies.now c.requires.0
          c.add_open.ensures.holds _ written;
    }))
    (search rules) (search rules)
