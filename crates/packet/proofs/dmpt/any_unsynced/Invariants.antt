-- The MPEG packets before the k-th have been asked.
use Rattle.std.proofs.Common.{false, not, eqb}
use Rattle.octets.specs.Bytes.{byte_at}
use Rattle.octets.proofs.Counts.{Gathered}
use Rattle.ts.specs.Packet.{sync_byte}
use Rattle.packet.specs.Dmpt.{mpeg_at}
use Rattle.packet.proofs.dmpt.any_unsynced.Given as goal

abbrev pub invariant-loop-k : goal.invariant-loop-k
invariant-loop-k l = Gathered false (λ i. not (eqb (byte_at (mpeg_at l.sub.bytes.now i) 0) sync_byte)) l.n l.unsynced l.k
