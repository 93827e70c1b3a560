-- `octets::write_little_u16` is right since the borrowed bytes have become those of the number (`put_sliced`).
use Rattle.std.proofs.Common.{◌+◌, ◌∙◌, arith}
use Rattle.octets.specs.Order.{two_le}
use Rattle.octets.proofs.Stretches.{put_sliced}
use Rattle.octets.proofs.write_little_u16.Goals as goal

pub returns : goal.returns
returns c =
    let a = c.args in
    put_sliced a.bytes.now (two_le a.number) a.at (a.at + 2) (omega arith) (c.copy_from_slice.ensures.after ∙ c.to_le_bytes.ensures)
    (omega arith)
