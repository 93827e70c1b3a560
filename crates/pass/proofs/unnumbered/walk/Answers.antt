use Rattle.std.proofs.Common.{◌≡◌, ℕ, ◌+◌, ◌-◌, ◌<◌, ◌≤◌, List, length, take, drop, replicate, refl, ap, ◌∙◌, arith, rules}
use Rattle.std.proofs.lemmas.List.{length-replicate}
use Rattle.refusal.specs.Refusal.{first}
use Rattle.octets.specs.Stretch.{part}
use Rattle.octets.proofs.Counts.{sum-none}
use Rattle.octets.proofs.Stretches.{length_part, sliced_part}
use Rattle.flow.specs.Flow.{longest}
use Rattle.packet.specs.Header.{id_length, longest_packet, segment_count}
use Rattle.packet.specs.Segments.{entry_at, length_in, length_at, body_at, segments}
use Rattle.packet.specs.Psp.{segment_refusals}
use Rattle.packet.proofs.Entries.{entry_within}
use Rattle.packet.proofs.Passing.{SegmentsPassed, segments-passed, entries-inside, body-inside}
use Rattle.pass.specs.Pass.{unnumbered_fate}
use Rattle.pass.proofs.Carrying.{Fitting, carry_begin, carry_room, carry_fits, carry_turn, carry_within, carry_end}
use Rattle.pass.proofs.Loads.{segment_load, segments_fit, segment_read, body-next}
use Rattle.pass.proofs.unnumbered.walk.Goals as goal

-- what is known of the packet, and of what is carried, whatever bytes were held
fitting : (most width held : ℕ) (sub bytes : List ℕ) → (held ≤ longest) × (id_length + length sub ≤ longest_packet) →
    first (segment_refusals width sub) ≡ 0 → length bytes ≡ held → Fitting (segment_load most width bytes sub)
fitting most width held sub bytes small none e =
    segments_fit most width bytes sub (segments-passed width sub none) (omega (arith, small.0)) small.1

-- some bytes, where it does not matter which
as_many : (n : ℕ) → length {A = ℕ} (replicate n 0) ≡ n
as_many n = length-replicate n 0

module _ {width k from entry size : ℕ} {sub : List ℕ} (whole : SegmentsPassed width sub) (there : k < segment_count sub)
    (at : from ≡ body_at width sub k) (read : entry ≡ entry_at width sub k) (sized : size ≡ length_in entry) where
  -- segment k is as long as the code has read, and lies in the packet
  is-size : size ≡ length_at width sub k
  is-size = sized ∙ ap length_in read

  inside : from + size ≤ length sub
  inside = omega (arith, is-size, at, body-inside width sub whole k there)

  cut : take (from + size - from) (drop from sub) ≡ part sub from size
  cut = sliced_part sub from (from + size) size (omega arith)

  cut-length : length (take (from + size - from) (drop from sub)) ≡ size
  cut-length = rw cut (length_part sub from size inside)

pub loop-k-init : goal.loop-k-init
unfolding body_at
loop-k-init c =
    let a = c.args in
    record {
      same_slices = (refl, refl);
      at = rw (c.segment_count-count.ensures.0, sum-none (length_at a.table.width a.table.sub.bytes.now)) (omega arith);
      carrying =
          λ bytes e.
          carry_begin (segment_load a.most a.table.width bytes a.table.sub.bytes.now) a.output.now.bytes.now a.output.now.lengths.now
          c.dropping-tally.result (rw e (search rules));
    }

pub entry-entry-requires : goal.entry-entry-requires
entry-entry-requires c =
    let a = c.args in
    let count = c.segment_count-count.ensures.0 in
    entry_within a.table.width c.loop-k.k (segment_count a.table.sub.bytes.now) _ c.args.table.at_least (omega (arith, count))
    (entries-inside a.table.width a.table.sub.bytes.now (segments-passed a.table.width a.table.sub.bytes.now c.requires.passed))

pub overflow_add-behind : goal.overflow_add-behind
overflow_add-behind c =
    let a = c.args in
    let count = c.segment_count-count.ensures.0 in
    let ends = inside (segments-passed a.table.width a.table.sub.bytes.now c.requires.passed) (omega (arith, count)) c.loop-k.invariant.at
    c.entry-entry.ensures c.length_of.ensures.0 in
    omega (arith, ends, c.requires.small.1)

pub slice_bounds-body-end : goal.slice_bounds-body-end
slice_bounds-body-end c =
    let a = c.args in
    let count = c.segment_count-count.ensures.0 in
    inside (segments-passed a.table.width a.table.sub.bytes.now c.requires.passed) (omega (arith, count)) c.loop-k.invariant.at
    c.entry-entry.ensures c.length_of.ensures.0

pub pass_on-tally-requires-clause-room : goal.pass_on-tally-requires-clause-room
pass_on-tally-requires-clause-room c =
    let a = c.args in
    let some : List ℕ = replicate a.held 0 in
    carry_room (segment_load a.most a.table.width some a.table.sub.bytes.now)
    (fitting a.most a.table.width a.held a.table.sub.bytes.now some c.requires.small c.requires.passed (as_many a.held))
    c.requires.room.0 c.requires.room.1
    (c.loop-k.invariant.carrying some (as_many a.held))

pub pass_on-tally-requires-clause-fits : goal.pass_on-tally-requires-clause-fits
pass_on-tally-requires-clause-fits c =
    let a = c.args in
    let some : List ℕ = replicate a.held 0 in
    let there : c.loop-k.k < segment_count a.table.sub.bytes.now = omega (arith, c.segment_count-count.ensures.0) in
    let whole = segments-passed a.table.width a.table.sub.bytes.now c.requires.passed in
    let i = c.loop-k.invariant in
    let read = c.entry-entry.ensures in
    let sized = c.length_of.ensures.0 in
    rw (cut-length whole there i.at read sized, is-size whole there i.at read sized)
    (carry_fits (segment_load a.most a.table.width some a.table.sub.bytes.now)
    (fitting a.most a.table.width a.held a.table.sub.bytes.now some c.requires.small c.requires.passed (as_many a.held))
    c.requires.room.0 c.requires.room.1
    (i.carrying some (as_many a.held)) there)

pub loop-k-preserved : goal.loop-k-preserved
loop-k-preserved c =
    let a = c.args in
    let there : c.loop-k.k < segment_count a.table.sub.bytes.now = omega (arith, c.segment_count-count.ensures.0) in
    let whole = segments-passed a.table.width a.table.sub.bytes.now c.requires.passed in
    let i = c.loop-k.invariant in
    let read = c.entry-entry.ensures in
    let sized = c.length_of.ensures.0 in
    let same = segment_read a.most a.table.width a.table.sub.bytes.now whole c.loop-k.k there _ _ _ _ _ i.at read sized
    c.begins.ensures c.ends.ensures in
    let on = c.pass_on-tally.ensures in
    record {
      same_slices = (on.same_slices.0 ∙ i.same_slices.0, on.same_slices.1 ∙ i.same_slices.1);
      at = body-next a.table.width a.table.sub.bytes.now c.loop-k.k _ _ i.at (is-size whole there i.at read sized);
      carrying =
          λ bytes e.
          carry_turn (segment_load a.most a.table.width bytes a.table.sub.bytes.now)
          (fitting a.most a.table.width a.held a.table.sub.bytes.now bytes c.requires.small c.requires.passed e) c.requires.room.0
          c.requires.room.1
          (i.carrying bytes e) there _ _ _
          (rw (← same) (rw (cut-length whole there i.at read sized, cut whole there i.at read sized) at on.placed));
    }

pub returns-clause-by_index : goal.returns-clause-by_index
unfolding unnumbered_fate segments
returns-clause-by_index c bytes e =
    let a = c.args in
    carry_end (segment_load a.most a.table.width bytes a.table.sub.bytes.now)
    (fitting a.most a.table.width a.held a.table.sub.bytes.now bytes c.requires.small c.requires.passed e) c.requires.room.0
    c.requires.room.1
    (c.loop-k.invariant.carrying bytes e) (omega (arith, c.segment_count-count.ensures.0))

pub returns-clause-within : goal.returns-clause-within
returns-clause-within c =
    let a = c.args in
    let some : List ℕ = replicate a.held 0 in
    carry_within (segment_load a.most a.table.width some a.table.sub.bytes.now)
    (fitting a.most a.table.width a.held a.table.sub.bytes.now some c.requires.small c.requires.passed (as_many a.held))
    c.requires.room.0 c.requires.room.1
    (c.loop-k.invariant.carrying some (as_many a.held))
