use Rattle.std.proofs.Common.{ℕ, List, sym, ◌≡◌}
use Rattle.std.proofs.lemmas.Result.{err_from_is_err_and}
use Rattle.refusal.specs.Refusal.{first}
use Rattle.refusal.proofs.Numbers.{number_some}
use Rattle.sender.specs.declared.Position.{Position}
use Rattle.sender.specs.Send.{Asked, send_refusals}
use Rattle.sender.proofs.Sending.{permits, send_refused, send_done}
use Rattle.sender.proofs.send_next.Goals as goal

-- what the call was given
abbrev asked : ℕ → ℕ → ℕ → ℕ → List ℕ → List ℕ → Position → List ℕ → Asked
asked session flow number limit bytes lengths position output =
    record {
      session = session;
      flow = flow;
      number = number;
      limit = limit;
      bytes = bytes;
      lengths = lengths;
      position = position;
      output = output;
    }

pub returns-in_err-refuse : goal.returns-in_err-refuse
returns-in_err-refuse c =
    let a = c.args in
    let given : Asked = asked a.session a.flow a.number a.limit a.frames.bytes.now a.frames.lengths.now a.position a.output.now in
    let refused = err_from_is_err_and c.from_residual.result c.from_residual.ensures.1 in
    rw (refused.1, refused.2) (permits (send_refused given _ c.in_err-refuse.ensures (number_some c.in_err-refuse.field-0.0)))

pub returns : goal.returns
returns c =
    let a = c.args in
    let given : Asked = asked a.session a.flow a.number a.limit a.frames.bytes.now a.frames.lengths.now a.position a.output.now in
    let passed : first (send_refusals given) ≡ 0 = sym c.in_ok-refuse.ensures in
    let did = c.write_segments-cut in
    permits (rw c.number_after.ensures (send_done given passed did.result _ _ did.ensures c.write_header.ensures))
