-- Over IP and over UDP (document 02, W1). Over UDP four bytes stand before the session ID. Where T is 0 in them and the version 3, the
-- packet is the one that it would be over IP without them, whatever else the four bytes say: the data call, the check and the segment
-- request answer the same, whatever the packet, the table and the slices; only a segment's place counts the four bytes. So whoever sends
-- over UDP puts 00 03 00 00 before what the sender wrote.
use Rattle.std.specs.Prelude.{ℕ, ◌+◌, ◌≡◌, false, List, ◌∷◌}
use Rattle.packet.specs.declared.Extent.{Extent}
use Rattle.packet.specs.Header.{Packet, ip, udp, udp_lead, not_version3}
use Rattle.packet.specs.Check.{check, segment_cause, segment_extent, segment_given}
use Rattle.table.specs.declared.Table.{Table}
use Rattle.join.specs.Slices.{Slices}
use Rattle.card.specs.Receive.{received}

-- four places on
abbrev pub moved_on : Extent → Extent
moved_on e = record { start = udp_lead + e.start; size = e.size }

-- packet p, which came over UDP, is for every call the packet that these bytes are over IP
pub record SameAs (p : Packet) (bytes : List ℕ) : Type 0 where
  pub same_received : (t : Table) (s : Slices) → received t p s ≡ received t (ip bytes) s
  pub same_check : (kind : ℕ) → check kind p ≡ check kind (ip bytes)
  pub same_cause : (kind k : ℕ) → segment_cause kind p k ≡ segment_cause kind (ip bytes) k
  pub same_segment : (kind k : ℕ) → segment_given kind p k ≡ segment_given kind (ip bytes) k
  pub same_place : (kind k : ℕ) → segment_cause kind (ip bytes) k ≡ 0 → segment_extent kind p k ≡ moved_on (segment_extent kind (ip bytes) k)

-- `same-packet`
abbrev pub SamePacket : Type 0
SamePacket =
    (a b c d : ℕ) (bytes : List ℕ) → not_version3 (udp (a ∷ b ∷ c ∷ d ∷ bytes)) ≡ false → SameAs (udp (a ∷ b ∷ c ∷ d ∷ bytes)) bytes
