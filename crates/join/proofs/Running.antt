-- Whole frames one behind the other: the invariant of the loop that writes their lengths, with a begin and a turn, and how one of them
-- shows in counts and slices.
use Rattle.std.proofs.Common.{◌≡◌, ℕ, ◌+◌, ◌*◌, ◌/◌, ◌%◌, ◌<◌, ◌≤◌, List, [], ◌∷◌, length, set, sym, refl, ap, ◌∙◌, ⊎_elim, eq-or-lt_of_le}
use Rattle.std.proofs.Common.{arith, eq-eqb}
use Rattle.octets.specs.Stretch.{part, put}
use Rattle.octets.specs.Count.{up_to}
use Rattle.octets.proofs.Counts.{sum-none, sum_more, length-up_to}
use Rattle.octets.proofs.Stretches.{length_part, length-put, put-nil, put-up_to_more, part_none, set-put}
use Rattle.flow.specs.Flow.{longest}
use Rattle.packet.specs.Segments.{b_bit, e_bit, entry_at, begins_in, ends_in, length_in, length_at}
use Rattle.join.specs.declared.Tally.{Tally}
use Rattle.join.specs.Join.{fate}
use Rattle.join.specs.Slices.{Slices}
use Rattle.join.specs.Inside.{Placed, Whole, Ran}
use Rattle.join.proofs.Placing.{placed_delivering, settled-whole, fate-begins}

-- the code's test: how far an entry lies above B and E, and that this is at most the session's longest frame
pub whole_entry : (most entry size : ℕ) → most ≤ longest → (size + (b_bit + e_bit)) % 65536 ≡ entry → size ≤ most → Whole most entry
whole_entry most entry size small e short =
    let is : entry ≡ size + (b_bit + e_bit) = omega arith in
    record {
      begins = eq-eqb (entry / b_bit % 2) 1 (omega arith);
      ends = eq-eqb (entry / e_bit % 2) 1 (omega arith);
      short = omega arith;
    }

pub whole-size : (most entry size : ℕ) → most ≤ longest → (size + (b_bit + e_bit)) % 65536 ≡ entry → size ≤ most → size ≡ length_in entry
whole-size most entry size small e short = omega arith

-- The loop's invariant.
pub record Running (most width : ℕ) (sub : List ℕ) (k count at : ℕ) (lengths lengths' : List ℕ) (frames bytes : ℕ) : Type 0 where
  pub within : k + frames ≤ count
  pub ran : Ran most width sub k at lengths lengths' frames bytes
  pub small : bytes ≤ longest * frames

pub run-begin : (most width : ℕ) (sub : List ℕ) (k count at : ℕ) (lengths : List ℕ) → k ≤ count →
    Running most width sub k count at lengths lengths 0 0
unfolding up_to
run-begin most width sub k count at lengths l =
    record {
      within = omega arith;
      ran =
          record {
            each = λ i h. absurd (omega arith);
            total = sym (sum-none (λ i. length_at width sub (k + i)));
            written = sym (put-nil lengths at);
          };
      small = omega arith;
    }

module _ {most width : ℕ} {sub : List ℕ} {k count at : ℕ} {lengths lengths' : List ℕ} {frames bytes : ℕ}
    (r : Running most width sub k count at lengths lengths' frames bytes) (small : most ≤ longest)
    (room : at + count ≤ length lengths + k) where
  pub run_length : length lengths' ≡ length lengths
  run_length =
      let f : ℕ → ℕ = λ i. length_at width sub (k + i) in
      rw r.ran.written (length-put lengths at (up_to f frames) (omega (arith, length-up_to f frames, r.within)))

  pub run_turn : {entry size : ℕ} → k + frames < count → entry ≡ entry_at width sub (k + frames) → Whole most entry →
      size ≡ length_in entry → Running most width sub k count at lengths (set lengths' (at + frames) size) (frames + 1) (bytes + size)
  run_turn {entry} {size} more e w z =
      let f : ℕ → ℕ = λ i. length_at width sub (k + i) in
      let this : Whole most (entry_at width sub (k + frames)) = rw e at w in
      let size_is : size ≡ f frames = z ∙ ap length_in e in
      let few : size ≤ longest = omega (arith, w.short) in
      record {
        within = omega arith;
        ran =
            record {
              each =
                  λ i h.
                  ⊎_elim
                  (λ (q : i ≡ frames). rw q this)
                  (λ (l : i < frames). r.ran.each i l)
                  (eq-or-lt_of_le (let b : i ≤ frames = omega arith in b));
              total = rw (sum_more f frames, r.ran.total, size_is) refl;
              written =
                  set-put lengths' (at + frames) size (omega (arith, run_length, r.within))
                  ∙ ap (λ (n : ℕ). put lengths' (at + frames) (n ∷ [])) size_is
                  ∙ put-up_to_more lengths at f frames (omega (arith, r.within)) r.ran.written;
            };
        small = omega (arith, r.small);
      }

-- One whole frame, where nothing is held.
pub whole_placed : (most place : ℕ) (a : Tally) (s : Slices) (sub : List ℕ) (from entry : ℕ) → Whole most entry → a.held ≡ 0 →
    from + length_in entry ≤ length sub →
    (r : Tally) (s' : Slices) → s'.holding ≡ s.holding → s'.output ≡ put s.output a.bytes (part sub from (length_in entry)) →
    s'.lengths ≡ put s.lengths a.frames (length_in entry ∷ []) →
    r.held ≡ 0 → r.frames ≡ a.frames + 1 → r.bytes ≡ a.bytes + length_in entry → r.dropped ≡ a.dropped →
    Placed (fate most (part s.holding place a.held)
    (record { begins = begins_in entry; ends = ends_in entry; body = part sub from (length_in entry) }))
    place a s r s'
whole_placed most place a s sub from entry w none inside r s' same out lengths h f b d =
    let body = part sub from (length_in entry) in
    let n : length body ≡ length_in entry = length_part sub from (length_in entry) inside in
    let empty : part s.holding place a.held ≡ [] = rw none (part_none s.holding place) in
    rw (
      empty,
      fate-begins most [] (record { begins = begins_in entry; ends = ends_in entry; body = body }) w.begins,
      settled-whole most (ends_in entry) body (rw n w.short) w.ends,
    )
    (placed_delivering place a s body r s' same out (rw n lengths) h f (rw n b) d)
