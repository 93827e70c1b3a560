-- The hand-out (W3). The channel's queue is a slice of packets back to back. Where it has one, its first packet is handed out; where it has
-- none, the null packet is, from the slice where the caller keeps it (`null`). Either is handed out as the stretch that it came from: no
-- byte is copied, and none is looked at.
use Rattle.std.specs.Prelude.{ℕ, ◌≡◌, cond, List, leb, length}
use Rattle.std.specs.Borrow.{Bor}
use Rattle.octets.specs.Stretch.{part}
use Rattle.ts.specs.Packet.{mpeg_length, null_packet}

-- the slice that is handed from: the queue where it has a whole packet, else that of the null packet
unfoldable pub source : Bor (List ℕ) → Bor (List ℕ) → Bor (List ℕ)
source queue null = cond (leb mpeg_length (length queue.now)) queue null

-- how much of it: a packet, or nothing where not even the null packet is whole
unfoldable pub handed_length : List ℕ → ℕ
handed_length bytes = cond (leb mpeg_length (length bytes)) mpeg_length 0

-- What the call permits. `ptr` says where a slice points, as a block of memory and a place in it, and `now` the bytes there.
pub record PermitsHandOut (queue null answer : Bor (List ℕ)) : Type 0 where
  pub in_its_source : answer.ref_ptr.0 ≡ (source queue null).ref_ptr.0
  pub at_its_front : answer.ref_ptr.1 ≡ (source queue null).ref_ptr.1
  pub its_bytes : answer.now ≡ part (source queue null).now 0 (handed_length (source queue null).now)

-- the packet that is handed out from a queue: its first, or the null packet
unfoldable pub handed_out : List ℕ → List ℕ
handed_out queue = cond (leb mpeg_length (length queue)) (part queue 0 mpeg_length) null_packet

-- `hands_out-packets`: where the caller keeps the null packet in that slice, a packet is always handed out, and it is that one.
abbrev pub HandsOutPackets : Type 0
HandsOutPackets =
    (queue null answer : Bor (List ℕ)) → null.now ≡ null_packet → PermitsHandOut queue null answer → answer.now ≡ handed_out queue.now

-- What the call that hands out a copy permits, whole: it is for a caller that can be given no reference.
abbrev pub PermitsHandedOut : List ℕ → List ℕ → Type 0
PermitsHandedOut queue answer = answer ≡ handed_out queue
