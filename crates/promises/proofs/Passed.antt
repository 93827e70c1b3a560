-- What a sender's packets have because each passes the PSP check: some segment, and none of them empty. So no piece of a frame is empty
-- either. And each that has a number is judged by the number of its place.
use Prim.Native.Nat.{ℕ, ◌≤◌, ◌<◌}
use mathlib.Core.Path.{◌≡◌, ap, ◌∙◌, subst}
use mathlib.Core.Bool.{Bool, true, false}
use mathlib.Core.List.{List, [], ◌∷◌}
use native.Mathlib.Omega.{arith}
use lib.ListN.{length}
use Rattle.octets.specs.Each.{Each}
use Rattle.octets.proofs.Counts.{length-up_to}
use Rattle.octets.proofs.Elements.{each_both, each_front, each_back, each-up_to}
use Rattle.octets.proofs.Stretches.{length_part}
use Rattle.flow.specs.declared.Flow.{Flow}
use Rattle.flow.specs.Numbers.{number_at}
use Rattle.flow.specs.Flow.{judge}
use Rattle.packet.specs.Header.{Packet, sub, s_set, segment_count, number}
use Rattle.packet.specs.Segments.{Segment, entry_width, length_at, body_at, segment_at, segments}
use Rattle.packet.specs.Check.{kind_psp, check}
use Rattle.packet.proofs.Passing.{PspPassed, check-passed, body-inside, body-some}
use Rattle.card.specs.Hear.{judged_by, judged_of}
use Rattle.sender.specs.Rules.{Pieces, segments_of, all_segments, whole_frame, begun_frame, in_turn, Line, packet_at, KeepsRules}
use Rattle.sender.proofs.Pieces.{Filled}

abbrev pub HasBytes : Segment → Type 0
HasBytes s = Filled s.body

-- the packet at place x was sent, and has a number
abbrev pub Counts : List Packet → ℕ → Type 0
Counts packets x = (x < length packets) × (s_set (sub (packet_at packets x)) ≡ true)

module _ (packet : Packet) (passes : check kind_psp packet ≡ 0) where
  passed : PspPassed entry_width (sub packet)
  passed = (check-passed packet passes).1

  pub some_segment : 1 ≤ length (segments_of entry_width packet)
  unfolding segments
  some_segment =
      rw (length-up_to (segment_at entry_width (sub packet)) (segment_count (sub packet)))
      (omega (arith, passed.segments.some))

  body_filled : (k : ℕ) → k < segment_count (sub packet) → HasBytes (segment_at entry_width (sub packet) k)
  unfolding segment_at
  body_filled k l =
      rw (length_part (sub packet) (body_at entry_width (sub packet) k) (length_at entry_width (sub packet) k)
      (body-inside entry_width (sub packet) passed.segments k l))
      (omega (arith, body-some entry_width (sub packet) passed.segments k l))

  segments_filled : Each HasBytes (segments_of entry_width packet)
  unfolding segments
  segments_filled = each-up_to HasBytes (segment_at entry_width (sub packet)) (segment_count (sub packet)) body_filled

all_filled : (packets : List Packet) → Each (λ p. check kind_psp p ≡ 0) packets → Each HasBytes (all_segments entry_width packets)
unfolding all_segments
all_filled [] passing = tt
all_filled (p ∷ packets) passing =
    each_both HasBytes (segments_of entry_width p) (all_segments entry_width packets) (segments_filled p passing.0)
    (all_filled packets passing.1)

pub all_some : (packets : List Packet) → Each (λ p. check kind_psp p ≡ 0) packets →
    Each (λ p. 1 ≤ length (segments_of entry_width p)) packets
all_some [] passing = tt
all_some (p ∷ packets) passing = (some_segment p passing.0, all_some packets passing.1)

frame_filled : (first : Bool) (f : Pieces) → Each HasBytes (whole_frame first f) → Each Filled f
unfolding whole_frame
frame_filled first [] filled = tt
frame_filled first (p ∷ []) filled = (filled.0, tt)
frame_filled first (p ∷ q ∷ more) filled = (filled.0, frame_filled false (q ∷ more) filled.1)

frames_filled : (fs : List Pieces) → Each HasBytes (in_turn fs) → Each (Each Filled) fs
unfolding in_turn
frames_filled [] filled = tt
frames_filled (f ∷ fs) filled = (
  frame_filled true f (each_front HasBytes (whole_frame true f) (in_turn fs) filled),
  frames_filled fs (each_back HasBytes (whole_frame true f) (in_turn fs) filled),
)

module _ (line : Line) (frames : List Pieces) (unfinished : Pieces) (packets : List Packet)
    (rules : KeepsRules line frames unfinished packets) where
  -- no piece of a frame is empty
  pub pieces_filled : Each (Each Filled) frames
  pieces_filled =
      frames_filled frames
      (each_front HasBytes (in_turn frames) (begun_frame true unfinished)
      (subst (Each HasBytes) rules.in_order (all_filled packets rules.passing)))

-- where packets are numbered one up, the one at place x is judged by the number of its place
pub judged_by-place : (start : ℕ) (packets : List Packet) →
    ((i : ℕ) → i < length packets → number (sub (packet_at packets i)) ≡ number_at start i) → (f : Flow) (x : ℕ) → Counts packets x →
    judged_of f (sub (packet_at packets x)) ≡ judge f (number_at start x)
judged_by-place start packets numbered f x c =
    ap (λ (s : Bool). judged_by s f (number (sub (packet_at packets x)))) c.1 ∙ ap (judge f) (numbered x c.0)
