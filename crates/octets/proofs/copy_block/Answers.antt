-- `octets::copy_block` is right since what it reads back from its block is what it put there (`part-put-part`).
use Rattle.std.proofs.Common.{◌∙◌, ap, List, ℕ, arith}
use Rattle.octets.specs.Stretch.{part, put}
use Rattle.octets.proofs.Stretches.{part-put-part}
use Rattle.octets.proofs.copy_block.Goals as goal

pub returns : goal.returns
returns c =
    let a = c.args in
    c.copy_bytes-2.ensures
    ∙ ap (λ (block : List ℕ). put a.target.now a.at (part block 0 a.size)) c.copy_bytes.ensures
    ∙ ap (put a.target.now a.at) (part-put-part _ a.source.now 0 a.from a.size (omega arith) (omega arith))
