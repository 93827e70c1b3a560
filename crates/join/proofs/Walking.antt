-- The walk over the segments of a PSP packet: what has become of the bytes after k of them (`so_far`), its account, and the loop's
-- invariant with a begin, a turn and an end, and the run of whole frames that are placed together. Only the last segment may leave
-- something held (refusal 11), so until then the holding slice is as it was.
use Rattle.std.proofs.Common.{◌≡◌, ℕ, zero, suc, ◌+◌, ◌*◌, ◌<◌, ◌≤◌, true, List, [], length, sym, refl, ap, ◌∙◌, add-one, arith}
use Rattle.octets.specs.Stretch.{part, put}
use Rattle.octets.specs.Count.{sum_to, up_to}
use Rattle.octets.proofs.Counts.{sum-none, sum_more, sum_below}
use Rattle.octets.proofs.Stretches.{length_part, put-nil, put-put, put-up_to_more, part_none, part-part}
use Rattle.flow.specs.Flow.{longest}
use Rattle.packet.specs.Header.{id_length, header_length, segment_count, longest_packet}
use Rattle.packet.specs.Segments.{entry_at, begins_in, ends_in, length_in, length_at, body_at, segment_at, segments}
use Rattle.packet.specs.Psp.{wanted}
use Rattle.packet.proofs.Passing.{SegmentsPassed, body-inside, ends_early}
use Rattle.join.specs.declared.Tally.{Tally}
use Rattle.join.specs.Join.{Fate, fate, at_gap, in_order, psp_fate}
use Rattle.join.specs.Slices.{Slices, as_slices, most_bytes, most_frames}
use Rattle.join.specs.Inside.{nothing_yet, begun, Placed, Roomy, Fits, Within, Whole, Ran}
use Rattle.join.proofs.Account.{Accounts, fate_accounts, fate-ends, gap_accounts, in_order-next, in_order_accounts}
use Rattle.join.proofs.Placing.{placed_begun, placed_counted, holding_long, output_long, lengths_long, held-there, placed_next_lem}
use Rattle.join.proofs.Running.{whole_placed}

-- the segment count has 7 bits
count-few : (sub : List ℕ) → segment_count sub ≤ most_frames
count-few sub = omega arith

-- what has become of the bytes after k segments
abbrev pub so_far : ℕ → ℕ → ℕ → List ℕ → List ℕ → ℕ → Fate
so_far most width gap held sub k = in_order (fate most) (at_gap gap held) (up_to (segment_at width sub) k)

module _ (most width gap : ℕ) (held sub : List ℕ) (passed : SegmentsPassed width sub) (few : length held ≤ most) (small : most ≤ longest)
  where
    segment_accounts : (h : List ℕ) (k : ℕ) → length h ≤ most → k < segment_count sub →
        Accounts (length h + length_at width sub k) 1 most (fate most h (segment_at width sub k))
    unfolding segment_at
    segment_accounts h k l there =
        let n = length_part sub (body_at width sub k) (length_at width sub k) (body-inside width sub passed k there) in
        let a = fate_accounts most h (segment_at width sub k) in
        record { all = omega (arith, n, a.all); frames-few = a.frames-few; held-few = a.held-few }

    pub so_far_accounts : (k : ℕ) → k ≤ segment_count sub →
        Accounts (length held + sum_to (length_at width sub) k) k most (so_far most width gap held sub k)
    so_far_accounts k l =
        in_order_accounts (fate most) (at_gap gap held) (segment_at width sub) (length_at width sub) (length held) most (segment_count sub)
        (gap_accounts most gap held few) segment_accounts k l

    -- between two segments nothing is held
    pub so_far_ended : (k : ℕ) → suc k < segment_count sub → (so_far most width gap held sub (suc k)).held ≡ []
    unfolding segment_at
    so_far_ended k l =
        let there : k < segment_count sub = omega arith in
        let e : ends_in (entry_at width sub k) ≡ true = ends_early width sub passed k there (λ z. omega arith) in
        rw (in_order-next (fate most) (at_gap gap held) (segment_at width sub) k)
        (fate-ends most (so_far most width gap held sub k).held (segment_at width sub k) e)

    -- 2,048 held and 4,092 that came are the most that one packet can tell of
    pub all_few : id_length + length sub ≤ longest_packet → (k : ℕ) → k ≤ segment_count sub →
        length held + sum_to (length_at width sub) k ≤ most_bytes
    unfolding wanted body_at
    all_few short k l = let s = sum_below (length_at width sub) k (segment_count sub) l in omega (arith, passed.fills)

-- What a walk is given: the session's longest frame, the width of an entry, the gap, how many bytes the flow holds, the start of its place,
-- the packet, and the slices as they are lent ..
pub record Task : Type 0 where
  pub most : ℕ
  pub width : ℕ
  pub gap : ℕ
  pub held : ℕ
  pub place : ℕ
  pub sub : List ℕ
  pub lent : Slices

abbrev pub task : (most width gap held place : ℕ) (sub : List ℕ) (lent : Slices) → Task
task most width gap held place sub lent =
    record { most = most; width = width; gap = gap; held = held; place = place; sub = sub; lent = lent }

-- .. and what is known of it
pub record Ready (t : Task) : Type 0 where
  pub passed : SegmentsPassed t.width t.sub
  pub few : t.held ≤ t.most
  pub small : t.most ≤ longest
  pub short : id_length + length t.sub ≤ longest_packet
  pub roomy : Roomy t.place t.lent

-- the bytes that the flow holds at first; what has become of them and of the first k segments; and how long segment k is
abbrev pub held_first : Task → List ℕ
held_first t = part t.lent.holding t.place t.held

abbrev pub fate_at : Task → ℕ → Fate
fate_at t k = so_far t.most t.width t.gap (held_first t) t.sub k

abbrev pub size_at : Task → ℕ → ℕ
size_at t k = length_at t.width t.sub k

-- The loop's invariant.
pub record Walking (t : Task) (s : Slices) (tally : Tally) (from k : ℕ) : Type 0 where
  pub within : k ≤ segment_count t.sub
  pub at : from ≡ body_at t.width t.sub k
  pub placed : Placed (fate_at t k) t.place nothing_yet t.lent tally s

module _ (t : Task) (ready : Ready t) where
  held-length : length (held_first t) ≡ t.held
  held-length = length_part t.lent.holding t.place t.held (omega (arith, ready.roomy.place_inside))

  held-few : length (held_first t) ≤ t.most
  held-few = omega (arith, held-length)

  -- the laws above, of this task
  accounts : (k : ℕ) → k ≤ segment_count t.sub → Accounts (length (held_first t) + sum_to (size_at t) k) k t.most (fate_at t k)
  accounts = so_far_accounts t.most t.width t.gap (held_first t) t.sub ready.passed held-few ready.small

  ended : (k : ℕ) → suc k < segment_count t.sub → (fate_at t (suc k)).held ≡ []
  ended = so_far_ended t.most t.width t.gap (held_first t) t.sub ready.passed held-few ready.small

  few_bytes : (k : ℕ) → k ≤ segment_count t.sub → length (held_first t) + sum_to (size_at t) k ≤ most_bytes
  few_bytes = all_few t.most t.width t.gap (held_first t) t.sub ready.passed held-few ready.small ready.short

  pub walk_begin : (count from : ℕ) → count ≡ segment_count t.sub → from ≡ header_length + t.width * count →
      Walking t t.lent (begun t.gap t.held) from 0
  unfolding in_order up_to body_at
  walk_begin count from counted e =
      record {
        within = omega arith;
        at = rw (e, counted, sum-none (size_at t)) (omega arith);
        placed = placed_begun t.gap t.place t.held t.lent (omega (arith, ready.roomy.place_inside));
      }

  module _ {s' : Slices} {tally : Tally} {from k : ℕ} (w : Walking t s' tally from k) where
    account : Accounts (length (held_first t) + sum_to (size_at t) k) k t.most (fate_at t k)
    account = accounts k w.within

    bytes-few : length (held_first t) + sum_to (size_at t) k ≤ most_bytes
    bytes-few = few_bytes k w.within

    -- the slices are as long as they were
    pub walk_lengths : (length s'.holding ≡ length t.lent.holding) × (length s'.output ≡ length t.lent.output)
        × (length s'.lengths ≡ length t.lent.lengths)
    walk_lengths =
        let n = count-few t.sub in (
          holding_long w.placed account (omega (arith, ready.roomy.place_inside)),
          output_long w.placed account (omega (arith, bytes-few, ready.roomy.output_long)),
          lengths_long w.placed account (omega (arith, w.within, n, ready.roomy.lengths_long)),
        )

    pub walk_roomy : Roomy t.place s'
    walk_roomy =
        record {
          place_inside = rw walk_lengths.0 ready.roomy.place_inside;
          output_long = rw walk_lengths.1 ready.roomy.output_long;
          lengths_long = rw walk_lengths.2 ready.roomy.lengths_long;
        }

    pub walk_within : Within tally
    walk_within =
        let n = count-few t.sub in
        let c = placed_counted w.placed account in
        record {
          held-few = omega (arith, c.held-few);
          bytes-few = omega (arith, c.all, bytes-few);
          frames-few = omega (arith, c.frames-few, w.within, n);
        }

    module _ (there : k < segment_count t.sub) where
      pub walk_body : from + size_at t k ≤ length t.sub
      walk_body = rw w.at (body-inside t.width t.sub ready.passed k there)

      pub walk_fits : Fits (size_at t k) tally
      walk_fits =
          let n = count-few t.sub in
          let c = placed_counted w.placed account in
          let more = few_bytes (k + 1) (omega arith) in
          record {
            held-few = omega (arith, c.held-few);
            bytes-few = omega (arith, c.all, more, sum_more (size_at t) k);
            frames-few = omega (arith, c.frames-few, n);
          }

      -- until the last segment the holding slice is as it was
      quiet : s'.holding ≡ t.lent.holding
      unfolding in_order up_to
      quiet = quiet_at k there w.placed.holding_now
        where
          quiet_at : (j : ℕ) → j < segment_count t.sub → s'.holding ≡ put t.lent.holding t.place (fate_at t j).held →
              s'.holding ≡ t.lent.holding
          quiet_at zero l e =
              e ∙ sym (placed_begun t.gap t.place t.held t.lent (omega (arith, ready.roomy.place_inside))).holding_now
          quiet_at (suc j) l e = e ∙ ap (put t.lent.holding t.place) (ended j l) ∙ put-nil t.lent.holding t.place

      pub walk_turn : (entry size : ℕ) (r : Tally) (s'' : Slices) → entry ≡ entry_at t.width t.sub k → size ≡ length_in entry →
          Placed (fate t.most (part s'.holding t.place tally.held)
          (record { begins = begins_in entry; ends = ends_in entry; body = part t.sub from (length_in entry) }))
          t.place tally s' r s'' →
          Walking t s'' r (from + size) (k + 1)
      unfolding segment_at body_at
      walk_turn entry size r s'' e z q =
          let n = count-few t.sub in
          let c = placed_counted w.placed account in
          let q' : Placed (fate t.most (fate_at t k).held (segment_at t.width t.sub k)) t.place tally s' r s'' =
          rw (held-there w.placed account (omega (arith, ready.roomy.place_inside)), e, w.at) at q in
          record {
            within = omega arith;
            at = rw (w.at, z, e, sum_more (size_at t) k) (omega arith);
            placed =
                placed_next_lem (fate t.most) (at_gap t.gap (held_first t)) (segment_at t.width t.sub) k
                (omega (arith, c.all, bytes-few, ready.roomy.output_long)) (omega (arith, c.frames-few, n, ready.roomy.lengths_long))
                w.placed quiet q';
          }

    -- no more frames than segments
    pub walk_frames : tally.frames ≤ k
    walk_frames = (placed_counted w.placed account).frames-few

    -- the segments placed so far lie in the packet
    pub walk_place : from ≤ length t.sub
    unfolding body_at wanted
    walk_place = rw w.at (omega (arith, ready.passed.fills, sum_below (size_at t) k (segment_count t.sub) w.within))

    pub walk_end : segment_count t.sub ≤ k →
        Placed (psp_fate t.most t.gap (held_first t) (segments t.width t.sub)) t.place nothing_yet t.lent tally s'
    unfolding psp_fate segments
    walk_end l = let done : k ≡ segment_count t.sub = omega (arith, w.within) in rw done at w.placed

  -- Whole frames behind a segment, placed together.
  module _ {s' : Slices} {tally : Tally} {from k : ℕ} (w : Walking t s' tally from k) (behind : 1 ≤ k) where
    abbrev behind_at : ℕ → ℕ
    behind_at i = size_at t (k + i)

    abbrev run_output : ℕ → List ℕ
    run_output bytes = put s'.output tally.bytes (part t.sub from bytes)

    abbrev run_slices : ℕ → ℕ → Slices
    run_slices n bytes = as_slices s'.holding (run_output bytes) (put s'.lengths tally.frames (up_to behind_at n))

    abbrev run_tally : ℕ → ℕ → Tally
    run_tally n bytes = record { held = tally.held; frames = tally.frames + n; bytes = tally.bytes + bytes; dropped = tally.dropped }

    abbrev After : ℕ → ℕ → Type 0
    After n bytes = Walking t (run_slices n bytes) (run_tally n bytes) (from + bytes) (k + n)

    none-held : (j : ℕ) → 1 ≤ j → j < segment_count t.sub → (fate_at t j).held ≡ []
    none-held zero l there = absurd (omega arith)
    none-held (suc j) l there = ended j there

    run_none : After 0 (sum_to behind_at 0)
    unfolding up_to
    run_none =
        let a : k + 0 ≡ k = omega arith in
        let b : from + 0 ≡ from = omega arith in
        let c : tally.frames + 0 ≡ tally.frames = omega arith in
        let d : tally.bytes + 0 ≡ tally.bytes = omega arith in
        rw (sum-none behind_at, part_none t.sub from, put-nil s'.output tally.bytes)
        (rw (put-nil s'.lengths tally.frames, a, b, c, d) w)

    run_more : (n bytes : ℕ) → After n bytes → k + n < segment_count t.sub → Whole t.most (entry_at t.width t.sub (k + n)) →
        After (n + 1) (bytes + behind_at n)
    run_more n bytes u there whole =
        let size = behind_at n in
        let here : k < segment_count t.sub = omega arith in
        let none : tally.held ≡ 0 = w.placed.held_now ∙ ap length (none-held k behind here) in
        let inside : from + bytes + size ≤ length t.sub = walk_body u there in
        let body = length_part t.sub from bytes (omega arith) in
        let room : tally.bytes + bytes ≤ length s'.output =
        omega (arith, (walk_within u).bytes-few, (walk_lengths w).1, ready.roomy.output_long) in
        let places : tally.frames + n < length s'.lengths =
        omega (arith, (walk_fits u there).frames-few, (walk_lengths w).2, ready.roomy.lengths_long) in
        let more = part t.sub (from + bytes) size in
        let out : run_output (bytes + size) ≡ put (run_output bytes) (tally.bytes + bytes) more =
        rw (← part-part t.sub from bytes size)
        (sym (ap (λ (i : ℕ). put (run_output bytes) (tally.bytes + i) more) (sym body)
        ∙ put-put s'.output tally.bytes (part t.sub from bytes) more (rw body room))) in
        let lengths = sym (put-up_to_more s'.lengths tally.frames behind_at n places refl) in
        let entry = entry_at t.width t.sub (k + n) in
        let q = whole_placed t.most t.place (run_tally n bytes) (run_slices n bytes) t.sub (from + bytes) entry whole none inside
        (run_tally (n + 1) (bytes + size)) (run_slices (n + 1) (bytes + size)) refl out lengths none (omega arith) (omega arith) refl in
        let turned = walk_turn u there entry size (run_tally (n + 1) (bytes + size)) (run_slices (n + 1) (bytes + size)) refl refl q in
        let a : from + bytes + size ≡ from + (bytes + size) = omega arith in
        let b : k + n + 1 ≡ k + (n + 1) = omega arith in
        rw (← a, ← b) turned

    run_at : (n : ℕ) → k + n ≤ segment_count t.sub → ((i : ℕ) → i < n → Whole t.most (entry_at t.width t.sub (k + i))) →
        After n (sum_to behind_at n)
    run_at zero l each = run_none
    run_at (suc n) l each =
        rw (← add-one n, sum_more behind_at n)
        (run_more n (sum_to behind_at n) (run_at n (omega arith) (λ i h. each i (omega arith))) (omega arith) (each n (omega arith)))

    pub walk_run : {lengths' : List ℕ} {frames bytes : ℕ} → k + frames ≤ segment_count t.sub →
        Ran t.most t.width t.sub k tally.frames s'.lengths lengths' frames bytes →
        Walking t (as_slices s'.holding (run_output bytes) lengths') (run_tally frames bytes) (from + bytes) (k + frames)
    walk_run {lengths'} {frames} {bytes} l r = rw (r.written, r.total) (run_at frames l r.each)

    -- there is room for them
    pub run_room : {lengths' : List ℕ} {frames bytes : ℕ} → k + frames ≤ segment_count t.sub →
        Ran t.most t.width t.sub k tally.frames s'.lengths lengths' frames bytes →
        (tally.bytes + bytes ≤ length s'.output) × (from + bytes ≤ length t.sub)
    run_room l r =
        let w' = walk_run l r in
        (omega (arith, (walk_within w').bytes-few, (walk_lengths w).1, ready.roomy.output_long), walk_place w')
