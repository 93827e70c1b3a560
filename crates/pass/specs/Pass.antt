-- Packets whose pieces are passed on or dropped, each by itself: PSP packets without a number (document 02, W2) and D-MPT packets
-- (document 01, "Opening, closing, listening"). Nothing is joined and nothing is held from then on; what the flow held when the packet
-- came is dropped first. The join rule, of PSP packets with a number, is crate `join`'s.
use Rattle.std.specs.Prelude.{ℕ, Bool, cond, not, ◌&&◌, List, eqb, leb, length}
use Rattle.packet.specs.Segments.{Segment}
use Rattle.ts.specs.Packet.{pid, null_pid}
use Rattle.join.specs.Join.{Fate, delivering, dropping, in_order}

-- one piece: passed on whole, as a frame, or dropped
abbrev pub passed_on : Bool → List ℕ → Fate
passed_on goes bytes = cond goes (delivering bytes) (dropping bytes)

-- All pieces in order, behind what was held. `goes` says which of them are passed on, and `body` has the bytes of one.
unfoldable pub pass_all : {X : Type 0} → (X → Bool) → (X → List ℕ) → List ℕ → List X → Fate
pass_all goes body held pieces = in_order (λ before x. passed_on (goes x) (body x)) (dropping held) pieces

-- A segment of a PSP packet without a number is passed on where it is a whole frame, with B and with E, of at most the longest frame's
-- bytes.
abbrev pub whole_within : ℕ → Segment → Bool
whole_within longest s = s.begins && s.ends && leb (length s.body) longest

abbrev pub body_of : Segment → List ℕ
body_of s = s.body

-- an accepted PSP packet without a number
unfoldable pub unnumbered_fate : ℕ → List ℕ → List Segment → Fate
unnumbered_fate longest held segs = pass_all (whole_within longest) body_of held segs

-- An accepted D-MPT packet: an MPEG packet is passed on unless its PID is 0x1FFF, for then it carries nothing. (A D-MPT flow never holds
-- anything: a table in which one does is broken, 13.)
abbrev pub carries_some : List ℕ → Bool
carries_some mpeg = not (eqb (pid mpeg) null_pid)

abbrev pub as_it_is : List ℕ → List ℕ
as_it_is mpeg = mpeg

unfoldable pub dmpt_fate : List ℕ → List (List ℕ) → Fate
dmpt_fate held packets = pass_all carries_some as_it_is held packets
