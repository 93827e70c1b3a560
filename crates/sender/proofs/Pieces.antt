-- Segments that carry the frames, taken apart into frames again: those that end on the way, each whole and cut into pieces, and the
-- pieces so far of one that does not. This is what demand 3 supposes of a sender's segments.
use Prim.Native.Nat.{ℕ, zero, suc, ◌+◌, ◌-◌, ◌<◌, ◌≤◌}
use mathlib.Core.Path.{◌≡◌, refl, sym, ap, ◌∙◌}
use mathlib.Core.Bool.{Bool, true, false, cond}
use mathlib.Core.List.{List, [], ◌∷◌, ◌++◌, map, append_assoc}
use native.Mathlib.Omega.{arith}
use native.Mathlib.Nat.{add-zero}
use lib.Dec.{eqb}
use lib.ListN.{length}
use borrow.Author.Tests.{eqb-true, ne_eqb}
use Rattle.octets.specs.Stretch.{part, rest, joined, cut_by}
use Rattle.octets.specs.Count.{sum_to}
use Rattle.octets.proofs.Counts.{sum_more}
use Rattle.octets.proofs.Stretches.{length_part, part_none, part-part, part-rest_front, rest-none, rest-rest, byte_of_rest, rest_of_rest}
use Rattle.octets.proofs.Stretches.{byte_inside}
use Rattle.octets.proofs.Stretches.{joined-none, joined-cons, joined_one, length-joined, length-joined-none, cut-none, cut-cons}
use Rattle.flow.specs.Flow.{longest}
use Rattle.packet.specs.Segments.{Segment}
use Rattle.sender.specs.declared.Position.{Position}
use Rattle.sender.specs.Cut.{frame_length, frame_start, left_of, index_of, next_frame, farther_on}
use Rattle.sender.specs.Carried.{Carries, Carried}
use Rattle.octets.specs.Each.{Each}
use Rattle.sender.specs.Rules.{Pieces, whole_frame, begun_frame, in_turn, FrameSized}
use Rattle.sender.proofs.Positions.{Framed, left-within}

-- the bytes of frame i; and of n frames from frame i on
abbrev pub frame_of : List ℕ → List ℕ → ℕ → List ℕ
frame_of bytes lengths i = part bytes (frame_start lengths i) (frame_length lengths i)

abbrev pub frames_from : List ℕ → List ℕ → ℕ → ℕ → List (List ℕ)
frames_from bytes lengths i zero = []
frames_from bytes lengths i (suc n) = frame_of bytes lengths i ∷ frames_from bytes lengths (i + 1) n

abbrev pub Filled : List ℕ → Type 0
Filled piece = 1 ≤ length piece

-- Segments from a frame's start on: whole frames, and one that is begun (or nothing of it).
pub record Apart (bytes lengths : List ℕ) (from : ℕ) (segs : List Segment) (end : Position) : Type 0 where
  pub frames : List Pieces
  pub begun : Pieces
  pub in_order : segs ≡ in_turn frames ++ begun_frame true begun
  pub sizes : Each FrameSized frames
  pub reaches : end.frame ≡ from + length frames
  pub their_bytes : map joined frames ≡ frames_from bytes lengths from (length frames)
  pub begun-bytes : joined begun ≡ part bytes (frame_start lengths end.frame) end.offset
  pub begun-some : Each Filled begun

-- Segments from anywhere in a frame: they end it, or they do not.
data Going (bytes lengths : List ℕ) (first : Bool) (at : Position) (segs : List Segment) (end : Position) : Type 0 where
  stays : (ps : Pieces) → segs ≡ begun_frame first ps → end.frame ≡ at.frame → end.offset ≡ at.offset + length (joined ps) →
      joined ps ≡ part bytes (index_of lengths at) (length (joined ps)) → Each Filled ps → Going bytes lengths first at segs end
  leaves : (p : List ℕ) (ps : Pieces) (more : List Segment) → segs ≡ whole_frame first (p ∷ ps) ++ more →
      1 ≤ left_of lengths at → joined (p ∷ ps) ≡ part bytes (index_of lengths at) (left_of lengths at) →
      Apart bytes lengths (at.frame + 1) more end → Going bytes lengths first at segs end

module _ (bytes lengths : List ℕ) (f : Framed (length bytes) lengths) where
  frame-sized : (i : ℕ) → i < length lengths → (1 ≤ length (frame_of bytes lengths i)) × (length (frame_of bytes lengths i) ≤ longest)
  frame-sized i l =
      let inside = left-within f (record { frame = i; offset = 0 }) l (omega arith) in
      let n = length_part bytes (frame_start lengths i) (frame_length lengths i) (omega (arith, inside)) in
      (omega (arith, n, f.some_bytes i l), omega (arith, n, f.not_long i l))

  at_start : (i : ℕ) (segs : List Segment) (end : Position) → Going bytes lengths true (record { frame = i; offset = 0 }) segs end →
      Apart bytes lengths i segs end
  unfolding in_turn
  at_start i segs end (stays ps e same further its_bytes filled) =
      let zero-first : frame_start lengths i + 0 ≡ frame_start lengths i = omega arith in
      let reached : end.offset ≡ length (joined ps) = omega (arith, further) in
      record {
        frames = [];
        begun = ps;
        in_order = e;
        sizes = tt;
        reaches = omega (arith, same);
        their_bytes = refl;
        begun-bytes = rw (same, reached) (its_bytes ∙ ap (λ (k : ℕ). part bytes k (length (joined ps))) zero-first);
        begun-some = filled;
      }
  at_start i segs end (leaves p ps more e some its_bytes a) =
      let whole : joined (p ∷ ps) ≡ frame_of bytes lengths i =
      its_bytes ∙ ap (λ (k : ℕ). part bytes k (frame_length lengths i - 0)) (add-zero (frame_start lengths i))
      ∙ ap (part bytes (frame_start lengths i)) (less_none (frame_length lengths i)) in
      record {
        frames = (p ∷ ps) ∷ a.frames;
        begun = a.begun;
        in_order =
            e ∙ ap (λ (l : List Segment). whole_frame true (p ∷ ps) ++ l) a.in_order
            ∙ sym (append_assoc (whole_frame true (p ∷ ps)) (in_turn a.frames) (begun_frame true a.begun));
        sizes = (rw whole (frame-sized i (byte_inside lengths i (omega arith))), a.sizes);
        reaches = omega (arith, a.reaches);
        their_bytes = rw (whole, a.their_bytes) refl;
        begun-bytes = a.begun-bytes;
        begun-some = a.begun-some;
      }
    where
      less_none : (n : ℕ) → n - 0 ≡ n
      less_none n = omega arith

  module _ (at end : Position) (s : Segment) (segs : List Segment) (c : Carries bytes lengths at s) where
    abbrev size : ℕ
    size = length s.body

    body_is : s.body ≡ part bytes (index_of lengths at) size
    body_is = ap (λ (x : Segment). x.body) c.is_next

    segment_is : (t : Bool) → eqb size (left_of lengths at) ≡ t → s ≡ record { begins = eqb at.offset 0; ends = t; body = s.body }
    segment_is t e = c.is_next ∙ again (part bytes (index_of lengths at) size) (sym body_is) (eqb size (left_of lengths at)) e
      where
        again : (b : List ℕ) → b ≡ s.body → (u : Bool) → u ≡ t →
            ◌≡◌ {A = Segment} (record { begins = eqb at.offset 0; ends = u; body = b })
            (record { begins = eqb at.offset 0; ends = t; body = s.body })
        again b q u r = rw (q, r) refl

    -- it ends its frame
    on_last : eqb size (left_of lengths at) ≡ true → Going bytes lengths true (next_frame at) segs end →
        Going bytes lengths (eqb at.offset 0) at (s ∷ segs) end
    unfolding whole_frame
    on_last e g =
        let all : size ≡ left_of lengths at = eqb-true size (left_of lengths at) e in
        leaves s.body [] segs (ap (λ (x : Segment). x ∷ segs) (segment_is true e)) (omega (arith, c.some))
        (joined_one s.body ∙ body_is ∙ ap (part bytes (index_of lengths at)) all)
        (at_start (at.frame + 1) segs end g)

    -- it does not
    on_part : eqb size (left_of lengths at) ≡ false → Going bytes lengths false (farther_on at size) segs end →
        Going bytes lengths (eqb at.offset 0) at (s ∷ segs) end
    unfolding whole_frame begun_frame
    on_part e (stays ps q same further its_bytes filled) =
        let n = length-joined s.body ps in
        let index : index_of lengths (farther_on at size) ≡ index_of lengths at + size = omega arith in
        stays (s.body ∷ ps) (rw q (ap (λ (x : Segment). x ∷ begun_frame false ps) (segment_is false e))) same (omega (arith, further, n))
        (joined-cons s.body ps
        ∙ ap (λ (l : List ℕ). l ++ joined ps) body_is
        ∙ ap (λ (l : List ℕ). part bytes (index_of lengths at) size ++ l)
        (its_bytes ∙ ap (λ (k : ℕ). part bytes k (length (joined ps))) index)
        ∙ part-part bytes (index_of lengths at) size (length (joined ps)) ∙ ap (part bytes (index_of lengths at)) (sym n))
        (c.some, filled)
    on_part e (leaves p ps more q some its_bytes a) =
        let index : index_of lengths (farther_on at size) ≡ index_of lengths at + size = omega arith in
        let all : size + left_of lengths (farther_on at size) ≡ left_of lengths at = omega (arith, c.of_the_frame, some) in
        let left = left_of lengths (farther_on at size) in
        leaves s.body (p ∷ ps) more (rw q (ap (λ (x : Segment). x ∷ (whole_frame false (p ∷ ps) ++ more)) (segment_is false e)))
        (omega (arith, c.some, c.of_the_frame))
        (joined-cons s.body (p ∷ ps)
        ∙ ap (λ (l : List ℕ). l ++ joined (p ∷ ps)) body_is
        ∙ ap (λ (l : List ℕ). part bytes (index_of lengths at) size ++ l) (its_bytes ∙ ap (λ (k : ℕ). part bytes k left) index)
        ∙ part-part bytes (index_of lengths at) size left ∙ ap (part bytes (index_of lengths at)) all)
        a

    on_one : ((from : Position) → Carried bytes lengths from segs end → Going bytes lengths (eqb from.offset 0) from segs end) →
        (t : Bool) → eqb size (left_of lengths at) ≡ t → Carried bytes lengths (cond t (next_frame at) (farther_on at size)) segs end →
        Going bytes lengths (eqb at.offset 0) at (s ∷ segs) end
    on_one others true e p = on_last e (others (next_frame at) p)
    on_one others false e p =
        let later : eqb (at.offset + size) 0 ≡ false = ne_eqb (at.offset + size) 0 (λ z. omega (arith, c.some)) in
        on_part e (rw later at (others (farther_on at size) p))

  going : (at end : Position) (segs : List Segment) → Carried bytes lengths at segs end →
      Going bytes lengths (eqb at.offset 0) at segs end
  unfolding begun_frame
  going at end [] p =
      let from = index_of lengths at in
      let offset : end.offset ≡ at.offset = ap (λ (x : Position). x.offset) (sym p) in
      stays [] refl (ap (λ (x : Position). x.frame) (sym p)) (omega (arith, offset, length-joined-none))
      (joined-none ∙ sym (part_none bytes from) ∙ ap (part bytes from) (sym length-joined-none)) tt
  going at end (s ∷ segs) p =
      on_one at end s segs p.0 (λ from q. going from end segs q) (eqb (length s.body) (left_of lengths at)) refl p.1

  pub carried_apart : (i : ℕ) (end : Position) (segs : List Segment) → Carried bytes lengths (record { frame = i; offset = 0 }) segs end →
      Apart bytes lengths i segs end
  carried_apart i end segs p = at_start i segs end (going (record { frame = i; offset = 0 }) end segs p)

-- All frames, taken from the first on, are those that the lengths cut the bytes into.
module _ (bytes lengths : List ℕ) where
  frames-cut : (more : List ℕ) (i : ℕ) → more ≡ rest lengths i →
      frames_from bytes lengths i (length more) ≡ cut_by more (rest bytes (frame_start lengths i))
  unfolding frame_start
  frames-cut [] i e = sym (cut-none (rest bytes (frame_start lengths i)))
  frames-cut (x ∷ more) i e =
      let at = frame_start lengths i in
      let its_length : frame_length lengths i ≡ x = byte_of_rest lengths i x more (sym e) in
      let first : frame_of bytes lengths i ≡ part (rest bytes at) 0 x = ap (part bytes at) its_length ∙ sym (part-rest_front bytes at x) in
      let start : frame_start lengths (i + 1) ≡ at + x = sum_more (frame_length lengths) i ∙ ap (λ (n : ℕ). at + n) its_length in
      let others : frames_from bytes lengths (i + 1) (length more) ≡ cut_by more (rest (rest bytes at) x) =
      frames-cut more (i + 1) (sym (rest_of_rest lengths i x more (sym e)))
      ∙ ap (cut_by more) (ap (rest bytes) start ∙ sym (rest-rest bytes at x)) in
      rw (first, others) (sym (cut-cons x more (rest bytes at)))

  pub all_frames : frames_from bytes lengths 0 (length lengths) ≡ cut_by lengths bytes
  unfolding frame_start sum_to
  all_frames = frames-cut lengths 0 (sym (rest-none lengths)) ∙ ap (cut_by lengths) (rest-none bytes)
