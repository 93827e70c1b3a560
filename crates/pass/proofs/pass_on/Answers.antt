-- `pass::pass_on` is right since it copies out all of the piece and writes its length down, or only counts its bytes.
use Rattle.std.proofs.Common.{length, refl, arith}
use Rattle.octets.proofs.Stretches.{part_all, set-put}
use Rattle.join.proofs.Placing.{placed_dropping, placed_delivering}
use Rattle.pass.proofs.Carrying.{without}
use Rattle.pass.proofs.pass_on.Goals as goal

pub returns-then-not-goes-clause-placed : goal.returns-then-not-goes-clause-placed
returns-then-not-goes-clause-placed c =
    let a = c.args in
    rw (c.if-not-goes.true, c.dropping.ensures)
    (placed_dropping 0 a.tally (without a.output.now.bytes.now a.output.now.lengths.now) a.piece.now _ refl refl refl refl)

pub returns-clause-placed : goal.returns-clause-placed
returns-clause-placed c =
    let a = c.args in
    rw (c.if-not-goes.false, c.delivering.ensures)
    (placed_delivering 0 a.tally (without a.output.now.bytes.now a.output.now.lengths.now) a.piece.now _ _ refl
    (rw (part_all a.piece.now) at c.copy.ensures)
    (set-put a.output.now.lengths.now a.tally.frames (length a.piece.now) (omega arith)) refl refl refl refl)
