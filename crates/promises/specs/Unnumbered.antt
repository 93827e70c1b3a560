-- PSP packets without a number (document 02, W2). They are accepted: with the slices long enough, a table that is not broken and the
-- session open as PSP, the data call answers what the packet check answers. What an accepted one delivers is exactly its whole segments,
-- those with B and E, of at most 2,048 bytes, in order, whatever its flow held; that and every other segment is dropped. The flow holds
-- nothing afterwards, and expects what it expected before: a fresh flow stays fresh. No byte of any place changes. And two numbers that
-- are not given: 8 by none of the card's calls, an open by the number of a kind among them, and 12 to no packet without a number.
use Rattle.std.specs.Prelude.{ℕ, ◌+◌, ◌≡◌, Bool, true, false, not, ◌&&◌, List, map, leb, length}
use Rattle.octets.specs.Stretch.{joined}
use Rattle.flow.specs.Flow.{longest, emptied}
use Rattle.packet.specs.Header.{Packet, sub, s_set, session_id}
use Rattle.packet.specs.Segments.{Segment, entry_width, segments}
use Rattle.packet.specs.Check.{kind_psp, check, segment_cause}
use Rattle.table.specs.declared.Table.{Table}
use Rattle.table.specs.Rows.{is_dmpt, terms_at, with_flow}
use Rattle.table.specs.Broken.{broken}
use Rattle.table.specs.Calls.{is_open, opened_by_number}
use Rattle.card.specs.Receive.{too_small, row_of, flow_to, flow_of}
use Rattle.card.specs.History.{Card, Arrival, Call, hands, lent_with, frames_of, answer, after}
use Rattle.promises.specs.Words.{chosen}

-- a segment that is a frame by itself
abbrev pub is_whole : Segment → Bool
is_whole s = s.begins && s.ends && leb (length s.body) longest

abbrev pub bodies : List Segment → List (List ℕ)
bodies segs = map (λ (s : Segment). s.body) segs

abbrev pub whole_ones : List Segment → List (List ℕ)
whole_ones segs = bodies (chosen is_whole segs)

abbrev pub others : List Segment → List (List ℕ)
others segs = bodies (chosen (λ s. not (is_whole s)) segs)

-- `unnumbered-accepted`
abbrev pub UnnumberedAccepted : Type 0
UnnumberedAccepted =
    (c : Card) (a : Arrival) → too_small (lent_with c a) ≡ false → broken c.table ≡ false →
    is_open c.table (session_id a.packet) ≡ true → is_dmpt (terms_at c.table (row_of c.table a.packet)).kind ≡ false →
    s_set (sub a.packet) ≡ false →
    (answer c (hands a)).code ≡ check kind_psp a.packet

-- `unnumbered_delivers`, for every table and slices
pub record DeliversAlone (c : Card) (a : Arrival) : Type 0 where
  pub frames_are : frames_of (answer c (hands a)) ≡ whole_ones (segments entry_width (sub a.packet))
  pub bytes_are : (answer c (hands a)).bytes ≡ length (joined (whole_ones (segments entry_width (sub a.packet))))
  pub dropped_are : (answer c (hands a)).dropped
      ≡ (flow_of c.table (row_of c.table a.packet) (sub a.packet)).held
      + length (joined (others (segments entry_width (sub a.packet))))
  pub no_gap : (answer c (hands a)).gap ≡ 0
  pub places_stay : (after c (hands a)).holding ≡ c.holding
  pub only_emptied : (after c (hands a)).table
      ≡ with_flow c.table (row_of c.table a.packet) (flow_to c.table (row_of c.table a.packet) (sub a.packet))
      (emptied (flow_of c.table (row_of c.table a.packet) (sub a.packet)))

abbrev pub UnnumberedDelivers : Type 0
UnnumberedDelivers =
    (c : Card) (a : Arrival) → is_dmpt (terms_at c.table (row_of c.table a.packet)).kind ≡ false → s_set (sub a.packet) ≡ false →
    (answer c (hands a)).code ≡ 0 → DeliversAlone c a

-- `never_given`
pub record NeverGiven : Type 0 where
  pub eight_by_call : (c : Card) (x : Call) → (answer c x).code ≡ 8 → ⊥
  pub eight_by_number : (t : Table) (id kind : ℕ) → (opened_by_number t id kind).code ≡ 8 → ⊥
  pub eight_by_check : (kind : ℕ) (p : Packet) → check kind p ≡ 8 → ⊥
  pub eight_by_request : (kind : ℕ) (p : Packet) (k : ℕ) → segment_cause kind p k ≡ 8 → ⊥
  pub twelve_unnumbered : (c : Card) (a : Arrival) → s_set (sub a.packet) ≡ false → (answer c (hands a)).code ≡ 12 → ⊥
