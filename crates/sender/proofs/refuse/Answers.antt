use Rattle.std.proofs.Common.{ℕ, length, refl, rules}
use Rattle.refusal.proofs.Numbers.{number_some}
use Rattle.sender.proofs.Judging.{send_stopped, send_later}
use Rattle.sender.proofs.refuse.Goals as goal

pub returns-in_err-refuse_early : goal.returns-in_err-refuse_early
returns-in_err-refuse_early c =
    let a = c.args in
    let total : ℕ = length a.frames.bytes.now in
    let handed_on =
    send_stopped a.session a.flow a.limit total a.frames.lengths.now a.position a.space _ c.in_err-refuse_early.ensures
    (number_some c.in_err-refuse_early.field-0.0) in
    search (rules, handed_on)

pub returns : goal.returns
returns c =
    let a = c.args in
    let total : ℕ = length a.frames.bytes.now in
    send_later a.session a.flow a.limit total a.frames.lengths.now a.position a.space 0 _ c.in_ok-refuse_early.ensures refl
    c.refuse_later.ensures
