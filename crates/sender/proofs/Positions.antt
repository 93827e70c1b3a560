-- Positions in the frames, and segments that carry the frames from one position to another: they carry a stretch of the frames' bytes,
-- which starts at the place of the one position and ends before that of the other.
use Prim.Native.Nat.{ℕ, ◌+◌, ◌<◌, ◌≤◌}
use mathlib.Core.Path.{◌≡◌, refl, sym, ap, ◌∙◌}
use mathlib.Core.Bool.{Bool, true, false, not, cond, ◌&&◌, ◌||◌}
use mathlib.Core.List.{List, [], ◌∷◌, ◌++◌, map}
use native.Mathlib.Omega.{arith}
use lib.Dec.{eqb, ltb}
use lib.ListN.{length}
use borrow.Author.Tests.{eqb-true, eqb-false, ltb-true, ltb-false, lt-ltb, eq-eqb, not-false}
use Rattle.octets.specs.Stretch.{part, joined}
use Rattle.octets.specs.Count.{any, sum_to}
use Rattle.refusal.proofs.Laws.{and-rest}
use Rattle.octets.proofs.Stretches.{part_none, part-part, joined-none, joined-cons, length-joined, length-joined-none}
use Rattle.octets.proofs.Counts.{none_at, or-false-left, or-false-right, sum_more, sum-within}
use Rattle.flow.specs.Flow.{longest}
use Rattle.packet.specs.Segments.{Segment}
use Rattle.sender.specs.declared.Position.{Position}
use Rattle.sender.specs.Cut.{frame_length, frame_start, left_of, index_of, next_frame, farther_on, after}
use Rattle.sender.specs.Packet.{body_of}
use Rattle.sender.specs.Send.{most_frames, bad_length, bad_frames, outside}
use Rattle.sender.specs.Carried.{Carried}

-- Frames that 33 does not refuse.
pub record Framed (total : ℕ) (lengths : List ℕ) : Type 0 where
  pub few : length lengths ≤ most_frames
  pub some_bytes : (i : ℕ) → i < length lengths → 1 ≤ frame_length lengths i
  pub not_long : (i : ℕ) → i < length lengths → frame_length lengths i ≤ longest
  pub all : sum_to (frame_length lengths) (length lengths) ≡ total

pub framed : (total : ℕ) (lengths : List ℕ) → bad_frames total lengths ≡ false → Framed total lengths
framed total lengths h =
    let many = ltb most_frames (length lengths) in
    let bad = any (bad_length lengths) (length lengths) in
    let sum = sum_to (frame_length lengths) (length lengths) in
    let early : (many || bad) ≡ false = or-false-left (many || bad) (not (eqb sum total)) h in
    let good : (i : ℕ) → i < length lengths → bad_length lengths i ≡ false =
    λ i l. none_at (bad_length lengths) (length lengths) i (or-false-right many bad early) l in
    let none : ℕ → Bool = λ i. eqb (frame_length lengths i) 0 in
    let long : ℕ → Bool = λ i. ltb longest (frame_length lengths i) in
    record {
      few = ltb-false most_frames (length lengths) (or-false-left many bad early);
      some_bytes = λ i l. omega (arith, eqb-false (frame_length lengths i) 0 (or-false-left (none i) (long i) (good i l)));
      not_long = λ i l. ltb-false longest (frame_length lengths i) (or-false-right (none i) (long i) (good i l));
      all = eqb-true sum total (not-false (eqb sum total) (or-false-right (many || bad) (not (eqb sum total)) h));
    }

-- A position that 34 does not refuse.
pub record Inside (lengths : List ℕ) (at : Position) : Type 0 where
  pub among : at.frame ≤ length lengths
  pub in_frame : at.frame < length lengths → at.offset < frame_length lengths at.frame
  pub at_end : at.frame ≡ length lengths → at.offset ≡ 0

pub inside : (lengths : List ℕ) (at : Position) → outside lengths at ≡ false → Inside lengths at
inside lengths at h =
    let above = ltb (length lengths) at.frame in
    let there = ltb at.frame (length lengths) in
    let below = ltb at.offset (frame_length lengths at.frame) in
    let last = eqb at.frame (length lengths) in
    let zero-offset = eqb at.offset 0 in
    let early : (above || (there && not below)) ≡ false = or-false-left (above || (there && not below)) (last && not zero-offset) h in
    record {
      among = ltb-false (length lengths) at.frame (or-false-left above (there && not below) early);
      in_frame = λ l.
          let its-frame = lt-ltb at.frame (length lengths) l in
          ltb-true at.offset (frame_length lengths at.frame)
          (not-false below (and-rest there (not below) (or-false-right above (there && not below) early) its-frame));
      at_end = λ e.
          let ended = eq-eqb at.frame (length lengths) e in
          eqb-true at.offset 0
          (not-false zero-offset
          (and-rest last (not zero-offset) (or-false-right (above || (there && not below)) (last && not zero-offset) h) ended));
    }

-- One step on.
module _ (lengths : List ℕ) (at : Position) (n : ℕ) (some : 1 ≤ n) (left : n ≤ left_of lengths at) where
  abbrev after-by : Bool → Position
  after-by t = cond t (next_frame at) (farther_on at n)

  pub after-place : index_of lengths (after lengths at n) ≡ index_of lengths at + n
  unfolding frame_start
  after-place = by (eqb n (left_of lengths at)) refl
    where
      by : (t : Bool) → eqb n (left_of lengths at) ≡ t → index_of lengths (after-by t) ≡ index_of lengths at + n
      by true e =
          let q : n ≡ left_of lengths at = eqb-true n (left_of lengths at) e in
          let s = sum_more (frame_length lengths) at.frame in
          omega arith
      by false e = omega arith

  pub after-inside : {total : ℕ} → Framed total lengths → at.frame < length lengths → Inside lengths (after lengths at n)
  after-inside f l = by (eqb n (left_of lengths at)) refl
    where
      by : (t : Bool) → eqb n (left_of lengths at) ≡ t → Inside lengths (after-by t)
      by true e =
          record {
            among = omega arith;
            in_frame = λ (m : at.frame + 1 < length lengths). f.some_bytes (at.frame + 1) m;
            at_end = λ _. refl;
          }
      by false e =
          let q : n ≡ left_of lengths at → ⊥ = eqb-false n (left_of lengths at) e in
          record {
            among = omega arith;
            in_frame = λ _. let o : at.offset + n < frame_length lengths at.frame = omega arith in o;
            at_end = λ (z : at.frame ≡ length lengths). absurd (omega arith);
          }

-- The place of a position lies in the frames' bytes, and so do the bytes of its frame that are left.
module _ {total : ℕ} {lengths : List ℕ} (f : Framed total lengths) (at : Position) where
  pub place-within : Inside lengths at → index_of lengths at ≤ total
  unfolding frame_start
  place-within i = by (ltb at.frame (length lengths)) refl
    where
      by : (t : Bool) → ltb at.frame (length lengths) ≡ t → sum_to (frame_length lengths) at.frame + at.offset ≤ total
      by true e =
          let l = ltb-true _ _ e in
          omega (arith, i.in_frame l, sum-within (frame_length lengths) at.frame (length lengths) l, f.all)
      by false e =
          let q : at.frame ≡ length lengths = omega (arith, i.among, ltb-false at.frame (length lengths) e) in
          omega (arith, i.at_end q, ap (sum_to (frame_length lengths)) q, f.all)

  pub offset_small : Inside lengths at → at.offset ≤ longest
  offset_small i = by (ltb at.frame (length lengths)) refl
    where
      by : (t : Bool) → ltb at.frame (length lengths) ≡ t → at.offset ≤ longest
      by true e = let l = ltb-true at.frame (length lengths) e in omega (arith, i.in_frame l, f.not_long at.frame l)
      by false e =
          let q : at.frame ≡ length lengths = omega (arith, i.among, ltb-false at.frame (length lengths) e) in
          omega (arith, i.at_end q)

  pub left-within : at.frame < length lengths → at.offset ≤ frame_length lengths at.frame →
      index_of lengths at + left_of lengths at ≤ total
  unfolding frame_start
  left-within l o = omega (arith, sum-within (frame_length lengths) at.frame (length lengths) l, f.all)

-- Segments one behind the other.
module _ (bytes lengths : List ℕ) where
  pub carried-append : (at mid end : Position) (xs ys : List Segment) → Carried bytes lengths at xs mid → Carried bytes lengths mid ys end →
      Carried bytes lengths at (xs ++ ys) end
  carried-append at mid end [] ys p q = subst_from (sym p) q
    where
      subst_from : mid ≡ at → Carried bytes lengths mid ys end → Carried bytes lengths at ys end
      subst_from e c = rw (sym e) c
  carried-append at mid end (x ∷ xs) ys p q =
      (p.0, carried-append (after lengths at (length x.body)) mid end xs ys p.1 q)

  pub carried-place : (at end : Position) (segs : List Segment) → Carried bytes lengths at segs end →
      index_of lengths end ≡ index_of lengths at + length (joined (map body_of segs))
  carried-place at end [] p = rw p (omega (arith, length-joined-none))
  carried-place at end (s ∷ segs) p =
      let n = length s.body in
      let here = after-place lengths at n p.0.some p.0.of_the_frame in
      let there = carried-place (after lengths at n) end segs p.1 in
      let both = length-joined s.body (map body_of segs) in
      omega arith

  pub carried-bytes : (at end : Position) (segs : List Segment) → Carried bytes lengths at segs end →
      joined (map body_of segs) ≡ part bytes (index_of lengths at) (length (joined (map body_of segs)))
  carried-bytes at end [] p =
      let from = index_of lengths at in
      joined-none ∙ sym (part_none bytes from) ∙ ap (part bytes from) (sym length-joined-none)
  carried-bytes at end (s ∷ segs) p =
      let n = length s.body in
      let here = after-place lengths at n p.0.some p.0.of_the_frame in
      let mine : s.body ≡ part bytes (index_of lengths at) n = ap body_of p.0.is_next in
      let others : joined (map body_of segs) ≡ part bytes (index_of lengths at + n) (length (joined (map body_of segs))) =
      carried-bytes (after lengths at n) end segs p.1 ∙ ap (λ (k : ℕ). part bytes k (length (joined (map body_of segs)))) here in
      joined-cons s.body (map body_of segs)
      ∙ ap (λ (l : List ℕ). l ++ joined (map body_of segs)) mine
      ∙ ap (λ (l : List ℕ). part bytes (index_of lengths at) n ++ l) others
      ∙ part-part bytes (index_of lengths at) n (length (joined (map body_of segs)))
      ∙ ap (part bytes (index_of lengths at)) (sym (length-joined s.body (map body_of segs)))
