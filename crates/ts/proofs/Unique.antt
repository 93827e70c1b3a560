-- The call for the null packet does not leave its outcome open: the null packet is permitted, and any two permitted packets are equal, as
-- bytes and as the struct that crosses to C.
use Prim.Native.Nat.{ℕ}
use mathlib.Core.Path.{◌≡◌, refl, sym, ap, ◌∙◌}
use mathlib.Core.List.{List}
use Rattle.ts.specs.declared.MpegPacket.{MpegPacket}
use Rattle.ts.specs.Packet.{null_packet, PermitsNullPacket}

pub null_permitted : PermitsNullPacket null_packet
null_permitted = refl

pub null_unique : (a b : List ℕ) → PermitsNullPacket a → PermitsNullPacket b → a ≡ b
null_unique a b p q = p ∙ sym q

-- a packet with these bytes, and no other: the bytes are all that the struct has
abbrev pub packet_with : List ℕ → MpegPacket
packet_with bytes = record { bytes = bytes }

pub same-packet : (a b : MpegPacket) → a.bytes ≡ b.bytes → a ≡ b
same-packet a b e = ap packet_with e
