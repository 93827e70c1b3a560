-- `octets::write_little_u32` is right since the borrowed bytes have become those of the number (`put_sliced`).
use Rattle.std.proofs.Common.{◌+◌, ◌∙◌, arith}
use Rattle.octets.specs.Order.{four_le}
use Rattle.octets.proofs.Numbers.{four_le_bytes}
use Rattle.octets.proofs.Stretches.{put_sliced}
use Rattle.octets.proofs.write_little_u32.Goals as goal

pub returns : goal.returns
returns c =
    let a = c.args in
    put_sliced a.bytes.now (four_le a.number) a.at (a.at + 4) (omega arith)
    (c.copy_from_slice.ensures.after ∙ c.to_le_bytes.ensures ∙ four_le_bytes a.number)
    (omega arith)
