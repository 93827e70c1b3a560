-- `octets::copy` is right since the last block begins where those before it end (`put_on`).
use Rattle.std.proofs.Common.{rules, ◌∙◌, refl, sym, ap, arith}
use Rattle.octets.specs.Stretch.{put}
use Rattle.octets.proofs.Stretches.{part_none, put-nil, put_on}
use Rattle.octets.proofs.copy.Goals as goal

pub loop-done-init : goal.loop-done-init
loop-done-init c =
    let a = c.args in
    let none = ap (put a.target.now a.at) (part_none a.source.now a.from) ∙ put-nil a.target.now a.at in
    (search rules, refl, sym none)

pub loop-done-preserved : goal.loop-done-preserved
loop-done-preserved c = (
  omega arith,
  search rules,
  put_on _ _ _ _ _ _ _ _ c.loop-done.invariant.2 c.copy_block.ensures refl (omega arith) (omega arith) (omega arith) (omega arith),
)

pub returns : goal.returns
returns c =
    put_on _ _ _ _ _ _ _ _ c.loop-done.invariant.2 c.copy_block-2.ensures (omega arith) (omega arith) (omega arith) (omega arith)
    (omega arith)
