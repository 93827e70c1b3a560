use Rattle.std.proofs.Common.{not, eqb, ℕ, ap, sym}
use Rattle.octets.proofs.Counts.{gather_begin, gather_turn}
use Rattle.ts.specs.Packet.{sync_byte}
use Rattle.packet.proofs.Mpegs.{mpeg_first}
use Rattle.packet.proofs.dmpt.any_unsynced.Goals as goal

pub loop-k-init : goal.loop-k-init
loop-k-init c = gather_begin _ _ _

pub loop-k-preserved : goal.loop-k-preserved
loop-k-preserved c =
    gather_turn c.loop-k.invariant c.loop-k-test.true
    (ap (λ (b : ℕ). not (eqb b sync_byte)) (sym (mpeg_first c.args.sub.bytes.now c.loop-k.k)))
