-- `octets::copy_bytes` is right since the borrowed stretch of the target has become that of the source (`put_sliced`).
use Rattle.std.proofs.Common.{◌∙◌, arith}
use Rattle.octets.proofs.Stretches.{put_sliced, sliced_part, length_part}
use Rattle.octets.proofs.copy_bytes.Goals as goal

pub returns : goal.returns
returns c =
    let a = c.args in
    put_sliced a.target.now _ a.at _ (omega arith)
    (c.copy_from_slice.ensures.after ∙ sliced_part a.source.now a.from _ a.count (omega arith))
    (omega (arith, length_part a.source.now a.from a.count (omega arith)))
