-- Any sender that keeps the published rules (document 01, from "Demand 3 and the next rule suppose" on; DEPI I05, section 8.3). Its frames
-- have 1 to 2,048 bytes. Its packets go to one flow of one session, pass the PSP check and are numbered one up from any start. The
-- segments of a frame follow one another in order, with no other frame's between them, B exactly on a frame's first segment and E exactly
-- on its last. How it cuts its frames is its own affair, and it may be in the middle of one. Each of its packets goes over IP or over UDP,
-- in any mixture (document 02, W1). That the number counts, S set, is asked of those that arrive (document 02, W2; `Run` of crate
-- `promises`).
use Rattle.std.specs.Prelude.{ℕ, ◌<◌, ◌≤◌, ◌≡◌, Bool, true, false, List, [], ◌∷◌, ◌++◌, length, get_or}
use Rattle.octets.specs.Stretch.{joined}
use Rattle.octets.specs.Each.{Each}
use Rattle.flow.specs.Numbers.{number_at}
use Rattle.flow.specs.Flow.{longest}
use Rattle.packet.specs.Header.{Packet, ip, sub, session_id, flow_id, number}
use Rattle.packet.specs.Segments.{Segment, entry_width, segments}
use Rattle.packet.specs.Check.{kind_psp, check}

-- A frame as its sender cuts it: its pieces, in order. The frame is `joined pieces`.
abbrev pub Pieces : Type 0
Pieces = List (List ℕ)

-- the pieces of one frame as segments: B on the first of them where `first` says so, E on the last
unfoldable pub whole_frame : Bool → Pieces → List Segment
whole_frame first [] = []
whole_frame first (p ∷ []) = record { begins = first; ends = true; body = p } ∷ []
whole_frame first (p ∷ q ∷ more) = record { begins = first; ends = false; body = p } ∷ whole_frame false (q ∷ more)

-- the pieces so far of a frame that is not finished: no E yet
unfoldable pub begun_frame : Bool → Pieces → List Segment
begun_frame first [] = []
begun_frame first (p ∷ more) = record { begins = first; ends = false; body = p } ∷ begun_frame false more

-- the segments of all frames, one frame after another
unfoldable pub in_turn : List Pieces → List Segment
in_turn [] = []
in_turn (f ∷ more) = whole_frame true f ++ in_turn more

-- the segments of a packet, and of all packets in order, with entries of this width
abbrev pub segments_of : ℕ → Packet → List Segment
segments_of width p = segments width (sub p)

unfoldable pub all_segments : ℕ → List Packet → List Segment
all_segments width [] = []
all_segments width (p ∷ more) = segments_of width p ++ all_segments width more

-- where a sender's packets go, and the number of the first
pub record Line : Type 0 where
  pub session : ℕ
  pub flow : ℕ
  pub start : ℕ

abbrev pub FrameSized : Pieces → Type 0
FrameSized f = (1 ≤ length (joined f)) × (length (joined f) ≤ longest)

abbrev pub Addressed : Line → Packet → Type 0
Addressed line p = (session_id p ≡ line.session) × (flow_id (sub p) ≡ line.flow)

-- past the end of the packets stands one without bytes, which is no packet of any flow
abbrev pub packet_at : List Packet → ℕ → Packet
packet_at packets i = get_or packets i (ip [])

pub record KeepsRules (line : Line) (frames : List Pieces) (unfinished : Pieces) (packets : List Packet) : Type 0 where
  pub sizes : Each FrameSized frames
  pub passing : Each (λ p. check kind_psp p ≡ 0) packets
  pub addressed : Each (Addressed line) packets
  pub numbered : (i : ℕ) → i < length packets → number (sub (packet_at packets i)) ≡ number_at line.start i
  pub in_order : all_segments entry_width packets ≡ in_turn frames ++ begun_frame true unfinished
