-- `pspmpeg::packets::write_packets`: after each turn the packets so far are written (`Draining`).
use Rattle.std.proofs.Common.{◌≡◌, ◌-◌, length}
use Rattle.ts.specs.Packet.{mpeg_length}
use Rattle.pspmpeg.proofs.Draining.{Draining}
use Rattle.pspmpeg.proofs.packets.write_packets.Given as goal

abbrev pub invariant-loop-place : goal.invariant-loop-place
invariant-loop-place l = Draining l.bytes l.sizes l.initial.text l.text l.place l.count × (length l.packet ≡ mpeg_length)

abbrev pub decreases-loop-place : goal.decreases-loop-place
decreases-loop-place l = length l.bytes - l.place
