-- What a cut keeps from its start to its end, whatever the width of an entry: the segments carry the frames from where it started to
-- where it has come; they, their entries and the room that is left are together the room that there was; and only the last of them may
-- lack E, because a segment that does not end its frame takes all the room. So only the first may lack B.
use Prim.Native.Nat.{ℕ, zero, suc, ◌+◌, ◌-◌, ◌*◌, ◌<◌, ◌≤◌}
use mathlib.Core.Path.{◌≡◌, refl, sym, ap, ◌∙◌}
use mathlib.Core.Bool.{Bool, true, false, cond}
use mathlib.Core.Logic.{⊎_elim}
use mathlib.Core.List.{List, [], ◌∷◌, ◌++◌, map}
use native.Mathlib.Omega.{arith}
use native.Mathlib.Nat.{eq-or-lt_of_le, mul-suc, not-suc-le-zero}
use native.Mathlib.Numerals.{add-one}
use lib.Dec.{ltb, leb}
use lib.ListN.{length, length-append}
use borrow.Author.Tests.{ltb-true, leb-true, eq-eqb}
use Rattle.refusal.proofs.Laws.{and_left, and_right}
use Rattle.octets.specs.Stretch.{joined}
use Rattle.octets.proofs.Stretches.{length_part, joined-map_more, length-joined-none}
use Rattle.octets.proofs.Elements.{length-one_more, before_last, at_last, all_one_more}
use Rattle.flow.specs.Flow.{longest}
use Rattle.packet.specs.Segments.{Segment}
use Rattle.sender.specs.declared.Position.{Position}
use Rattle.sender.specs.Cut.{frame_length, left_of, index_of, segment_from, next_frame, farther_on, after, Cut, least_room, goes_on}
use Rattle.sender.specs.Cut.{size_of_next, place, cut}
use Rattle.sender.specs.Packet.{body_of}
use Rattle.sender.specs.Carried.{Carries, Carried}
use Rattle.sender.proofs.Reading.{none, nth}
use Rattle.sender.proofs.Positions.{Framed, Inside, after-inside, left-within, carried-append}

module _ (width : ℕ) (bytes lengths : List ℕ) (frames : Framed (length bytes) lengths) (room : ℕ) (from : Position) where
  pub record Cutting (c : Cut) : Type 0 where
    pub carried : Carried bytes lengths from c.segments c.position
    pub inside : Inside lengths c.position
    pub in_room : c.room + width * length c.segments + length (joined (map body_of c.segments)) ≡ room
    pub filled : (k : ℕ) → k < length c.segments → 1 ≤ length (nth c.segments k).body
    pub short : (k : ℕ) → k < length c.segments → length (nth c.segments k).body ≤ longest
    pub begun : (k : ℕ) → k < length c.segments → (k ≡ 0 → ⊥) → (nth c.segments k).begins ≡ true
    pub ended : (k : ℕ) → k < length c.segments → (k + 1 ≡ length c.segments → ⊥) → (nth c.segments k).ends ≡ true
    -- and while there is room
    pub all_ended : least_room width ≤ c.room → (k : ℕ) → k < length c.segments → (nth c.segments k).ends ≡ true
    pub at_start : least_room width ≤ c.room → 1 ≤ length c.segments → c.position.offset ≡ 0

  -- what a segment that is placed has
  module _ (c : Cut) (k : Cutting c) (goes : goes_on width lengths c ≡ true) where
    abbrev size : ℕ
    size = size_of_next width lengths c

    abbrev segment : Segment
    segment = segment_from bytes lengths c.position size

    pub frames_remain : c.position.frame < length lengths
    frames_remain = ltb-true _ _ (and_left (ltb c.position.frame (length lengths)) (leb (least_room width) c.room) goes)

    pub room-enough : least_room width ≤ c.room
    room-enough = leb-true _ _ (and_right (ltb c.position.frame (length lengths)) (leb (least_room width) c.room) goes)

    pub offset_below : c.position.offset < frame_length lengths c.position.frame
    offset_below = k.inside.in_frame frames_remain

    pub size-some : 1 ≤ size
    size-some = omega (arith, offset_below, room-enough)

    pub size-left : size ≤ left_of lengths c.position
    size-left = omega arith

    pub size_room : width + size ≤ c.room
    size_room = omega (arith, room-enough)

    size-short : size ≤ longest
    size-short = omega (arith, frames.not_long c.position.frame frames_remain)

    pub body-inside : index_of lengths c.position + size ≤ length bytes
    body-inside = let l = left-within frames c.position frames_remain (omega (arith, offset_below)) in omega arith

    pub body_length : length segment.body ≡ size
    body_length = length_part bytes (index_of lengths c.position) size body-inside

    carries : Carries bytes lengths c.position segment
    carries =
        record {
          some = omega (arith, body_length, size-some);
          of_the_frame = omega (arith, body_length, size-left);
          is_next = ap (segment_from bytes lengths c.position) (sym body_length);
        }

    -- room is left behind it only where it ended its frame
    ends_then : least_room width ≤ c.room - (width + size) → size ≡ left_of lengths c.position
    ends_then h = omega arith

    pub place_keeps : Cutting (place width bytes lengths c)
    place_keeps =
        let n = length-one_more c.segments segment in
        let j = joined-map_more body_of c.segments segment in
        let long : length (joined (map body_of (c.segments ++ (segment ∷ [])))) ≡ length (joined (map body_of c.segments)) + size =
        ap length j ∙ length-append (joined (map body_of c.segments)) segment.body
        ∙ ap (λ (m : ℕ). length (joined (map body_of c.segments)) + m) body_length in
        let wide : width * length (c.segments ++ (segment ∷ [])) ≡ width * length c.segments + width =
        ap (λ (m : ℕ). width * m) (n ∙ add-one (length c.segments)) ∙ mul-suc width (length c.segments) in
        record {
          carried =
              carried-append bytes lengths from c.position (after lengths c.position size) c.segments (segment ∷ []) k.carried
              (carries, ap (after lengths c.position) body_length);
          inside = after-inside lengths c.position size size-some size-left frames frames_remain;
          in_room = omega (arith, k.in_room, long, wide, size_room);
          filled = all_one_more c.segments segment (λ s. 1 ≤ length s.body) none k.filled (omega (arith, body_length, size-some));
          short =
              all_one_more c.segments segment (λ s. length s.body ≤ longest) none k.short (omega (arith, body_length, size-short));
          begun = λ i l z. begun_more i (omega (arith, n)) z;
          ended = λ i l z. ended_more i (omega (arith, n)) (λ e. z (e ∙ sym n));
          all_ended = λ r.
              all_one_more c.segments segment (λ s. s.ends ≡ true) none (k.all_ended room-enough)
              (eq-eqb size (left_of lengths c.position) (ends_then r));
          at_start = λ r _.
              ap (λ (t : Bool). (cond t (next_frame c.position) (farther_on c.position size)).offset)
              (eq-eqb size (left_of lengths c.position) (ends_then r));
        }
      where
        begun_more : (i : ℕ) → i ≤ length c.segments → (i ≡ 0 → ⊥) → (nth (c.segments ++ (segment ∷ [])) i).begins ≡ true
        begun_more i l z =
            ⊎_elim
            (λ (e : i ≡ length c.segments).
            rw (at_last c.segments segment i none e) (eq-eqb c.position.offset 0 (k.at_start room-enough (omega arith))))
            (λ (b : i < length c.segments). rw (before_last c.segments segment i none b) (k.begun i b z))
            (eq-or-lt_of_le l)

        ended_more : (i : ℕ) → i ≤ length c.segments → (i + 1 ≡ length c.segments + 1 → ⊥) →
            (nth (c.segments ++ (segment ∷ [])) i).ends ≡ true
        ended_more i l z =
            ⊎_elim
            (λ (e : i ≡ length c.segments). absurd (z (ap (λ (m : ℕ). m + 1) e)))
            (λ (b : i < length c.segments). rw (before_last c.segments segment i none b) (k.all_ended room-enough i b))
            (eq-or-lt_of_le l)

  -- So the whole cut keeps it.
  step_keeps : (f : Cut → Cut) → ((d : Cut) → Cutting d → Cutting (f d)) → (c : Cut) → Cutting c →
      (t : Bool) → goes_on width lengths c ≡ t → Cutting (cond t (f (place width bytes lengths c)) c)
  step_keeps f keeps c k true e = keeps (place width bytes lengths c) (place_keeps c k e)
  step_keeps f keeps c k false e = k

  pub cut_keeps : (more : ℕ) (c : Cut) → Cutting c → Cutting (cut more width bytes lengths c)
  unfolding cut
  cut_keeps zero c k = k
  cut_keeps (suc more) c k = step_keeps (cut more width bytes lengths) (cut_keeps more) c k (goes_on width lengths c) refl

  -- Nothing is placed at the start.
  pub cutting_start : Inside lengths from → Cutting (record { room = room; position = from; segments = [] })
  cutting_start i =
      record {
        carried = refl;
        inside = i;
        in_room = omega (arith, length-joined-none);
        filled = λ k l. absurd (not-suc-le-zero l);
        short = λ k l. absurd (not-suc-le-zero l);
        begun = λ k l. absurd (not-suc-le-zero l);
        ended = λ k l. absurd (not-suc-le-zero l);
        all_ended = λ r k l. absurd (not-suc-le-zero l);
        at_start = λ r l. absurd (not-suc-le-zero l);
      }

-- One segment more, or none; and how many there are in all.
module _ (width : ℕ) (bytes lengths : List ℕ) where
  pub cut_turn : (more : ℕ) (c : Cut) → goes_on width lengths c ≡ true →
      cut (suc more) width bytes lengths c ≡ cut more width bytes lengths (place width bytes lengths c)
  unfolding cut
  cut_turn more c e = ap (λ (t : Bool). cond t (cut more width bytes lengths (place width bytes lengths c)) c) e

  pub cut-stops : (more : ℕ) (c : Cut) → goes_on width lengths c ≡ false → cut more width bytes lengths c ≡ c
  unfolding cut
  cut-stops zero c e = refl
  cut-stops (suc more) c e = ap (λ (t : Bool). cond t (cut more width bytes lengths (place width bytes lengths c)) c) e

  pub cut-none : (c : Cut) → cut 0 width bytes lengths c ≡ c
  unfolding cut
  cut-none c = refl

  pub record Counted (more : ℕ) (c d : Cut) : Type 0 where
    pub no_fewer : length c.segments ≤ length d.segments
    pub no_more : length d.segments ≤ length c.segments + more

  step_counts : (more : ℕ) (f : Cut → Cut) → ((d : Cut) → Counted more d (f d)) → (c : Cut) (t : Bool) →
      Counted (suc more) c (cond t (f (place width bytes lengths c)) c)
  step_counts more f counts c true =
      let n = length-one_more c.segments (segment_from bytes lengths c.position (size_of_next width lengths c)) in
      let r = counts (place width bytes lengths c) in
      record { no_fewer = omega (arith, r.no_fewer, n); no_more = omega (arith, r.no_more, n) }
  step_counts more f counts c false = record { no_fewer = omega arith; no_more = omega arith }

  pub cut-counts : (more : ℕ) (c : Cut) → Counted more c (cut more width bytes lengths c)
  unfolding cut
  cut-counts zero c = record { no_fewer = omega arith; no_more = omega arith }
  cut-counts (suc more) c = step_counts more (cut more width bytes lengths) (cut-counts more) c (goes_on width lengths c)

  pub cut-some : (more : ℕ) (c : Cut) → goes_on width lengths c ≡ true →
      length c.segments + 1 ≤ length (cut (suc more) width bytes lengths c).segments
  cut-some more c e =
      let n = length-one_more c.segments (segment_from bytes lengths c.position (size_of_next width lengths c)) in
      let r = (cut-counts more (place width bytes lengths c)).no_fewer in
      rw (cut_turn more c e) (omega (arith, n, r))
