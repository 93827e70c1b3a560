-- What nobody reads of a packet (document 01, "Packet layout": X and the reserved bits are ignored): X in each of the first two bytes
-- behind the session ID; of a D-MPT packet the whole second byte, since there the count of segments is reserved too; and over UDP, of the
-- four bytes before the session ID, all but T and the version. The header is drawn in Header.antt.
use Rattle.std.specs.Prelude.{◌/◌, ◌≡◌, length}
use Rattle.octets.specs.Bytes.{byte_at}
use Rattle.octets.specs.Stretch.{rest}
use Rattle.packet.specs.Header.{Packet, not_version3, session_id, sub, h_bit, flow_id, segment_count}

-- The same in all that is read: the transport, the length, T and the version, the session ID; behind it V, S and H, which stand above X in
-- their byte, the flow ID, which stands below it, and everything from the number on.
pub record SameRead (p p' : Packet) : Type 0 where
  pub transports : p.transport ≡ p'.transport
  pub lengths : length p.bytes ≡ length p'.bytes
  pub versions : not_version3 p ≡ not_version3 p'
  pub sessions : session_id p ≡ session_id p'
  pub above_x : byte_at (sub p) 0 / h_bit ≡ byte_at (sub p') 0 / h_bit
  pub below_x : flow_id (sub p) ≡ flow_id (sub p')
  pub from-number : rest (sub p) 2 ≡ rest (sub p') 2

-- .. and, where the packet is read as PSP, the count of segments, which stands below the other X
abbrev pub SameCount : Packet → Packet → Type 0
SameCount p p' = segment_count (sub p) ≡ segment_count (sub p')
