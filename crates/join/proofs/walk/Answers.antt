-- A turn places one segment (`placed_one`) and then the whole frames behind it together (`placed_all`).
use Rattle.std.proofs.Common.{◌≡◌, ℕ, ◌+◌, ◌-◌, ◌<◌, ◌≤◌, List, length, refl, ap, ◌∙◌, arith, take, drop}
use Rattle.refusal.specs.Refusal.{first}
use Rattle.octets.specs.Stretch.{part, put}
use Rattle.octets.proofs.Stretches.{length_part, sliced_part}
use Rattle.flow.specs.Flow.{longest}
use Rattle.packet.specs.Header.{id_length, longest_packet, segment_count}
use Rattle.packet.specs.Segments.{entry_at, begins_in, ends_in, length_in, length_at}
use Rattle.packet.specs.Psp.{segment_refusals}
use Rattle.packet.proofs.Entries.{entry_within}
use Rattle.packet.proofs.Passing.{segments-passed, entries-inside}
use Rattle.join.specs.declared.Tally.{Tally}
use Rattle.join.specs.Join.{fate}
use Rattle.join.specs.Slices.{Slices, as_slices, with_output}
use Rattle.join.specs.Inside.{Placed, Roomy, Fits, Within, Ran}
use Rattle.join.proofs.Walking.{Task, Ready, Walking, task, walk_begin, walk_roomy, walk_body, walk_fits, walk_turn}
use Rattle.join.proofs.Walking.{walk_frames, walk_run, run_room, walk_within, walk_end}
use Rattle.join.proofs.walk.Goals as goal

ready : (most width gap held place : ℕ) (sub : List ℕ) (lent : Slices) → Roomy place lent →
    (held ≤ most) × (most ≤ longest) × (id_length + length sub ≤ longest_packet) → first (segment_refusals width sub) ≡ 0 →
    Ready (task most width gap held place sub lent)
ready most width gap held place sub lent roomy small none =
    record {
      passed = segments-passed width sub none;
      few = small.0;
      small = small.1;
      short = small.2;
      roomy = roomy;
    }

module _ {t : Task} (is : Ready t) {s : Slices} {tally : Tally} {from k : ℕ} (w : Walking t s tally from k)
    (there : k < segment_count t.sub) {entry size : ℕ} (read : entry ≡ entry_at t.width t.sub k) (sized : size ≡ length_in entry) where
  abbrev body : List ℕ
  body = take (from + size - from) (drop from t.sub)

  -- the segment lies in the packet, and there is room for it
  is-size : size ≡ length_at t.width t.sub k
  is-size = sized ∙ ap length_in read

  inside : from + size ≤ length t.sub
  inside = rw is-size (walk_body t is w there)

  is-body : body ≡ part t.sub from size
  is-body = sliced_part t.sub from (from + size) size (omega arith)

  fits : Fits (length body) tally
  fits = rw (is-body, length_part t.sub from size inside, is-size) (walk_fits t is w there)

  -- the invariant where it is placed ..
  module _ {s' : Slices} {r : Tally}
      (q : Placed (fate t.most (part s.holding t.place tally.held) (record { begins = begins_in entry; ends = ends_in entry; body = body }))
      t.place tally s r s')
    where
      placed_one : Walking t s' r (from + size) (k + 1)
      placed_one = walk_turn t is w there entry size _ _ read sized (rw (is-body, sized) at q)

      -- .. and where the whole frames behind it are
      module _ {lengths' : List ℕ} {frames bytes : ℕ} (few : k + 1 + frames ≤ segment_count t.sub)
          (ran : Ran t.most t.width t.sub (k + 1) r.frames s'.lengths lengths' frames bytes)
        where
          placed_all : Walking t (as_slices s'.holding (put s'.output r.bytes (part t.sub (from + size) bytes)) lengths')
              (record { held = r.held; frames = r.frames + frames; bytes = r.bytes + bytes; dropped = r.dropped })
              (from + size + bytes) (k + 1 + frames)
          placed_all = walk_run t is placed_one (omega arith) few ran

          within_all : Within (record { held = r.held; frames = r.frames + frames; bytes = r.bytes + bytes; dropped = r.dropped })
          within_all = walk_within t is placed_all

          room_all : (r.bytes + bytes ≤ length s'.output) × (from + size + bytes ≤ length t.sub)
          room_all = run_room t is placed_one (omega arith) few ran

pub loop-k-init : goal.loop-k-init
loop-k-init c =
    let a = c.args in
    let is = ready a.most a.table.width a.gap a.held a.place a.table.sub.bytes.now (with_output a.holding.now a.output.now)
    c.requires.roomy c.requires.small c.requires.passed in
    let n = c.segment_count-count.ensures.0 in
    record {
      counted = n;
      same_slices = (refl, refl);
      ready = is;
      walking = rw c.begin-tally.ensures (walk_begin _ is _ _ n refl);
    }

pub entry-entry-requires : goal.entry-entry-requires
entry-entry-requires c =
    let a = c.args in
    let i = c.loop-k.invariant in
    entry_within a.table.width c.loop-k.k (segment_count a.table.sub.bytes.now) _ c.args.table.at_least (omega (arith, i.counted))
    (entries-inside a.table.width a.table.sub.bytes.now i.ready.passed)

pub overflow_add-behind : goal.overflow_add-behind
overflow_add-behind c =
    let i = c.loop-k.invariant in
    let ends = inside i.ready i.walking (omega (arith, i.counted)) c.entry-entry.ensures c.length_of.ensures.0 in
    omega (arith, ends, i.ready.short)

pub slice_bounds-body-end : goal.slice_bounds-body-end
slice_bounds-body-end c =
    let i = c.loop-k.invariant in
    inside i.ready i.walking (omega (arith, i.counted)) c.entry-entry.ensures c.length_of.ensures.0

pub place_segment-joined-requires-clause-roomy : goal.place_segment-joined-requires-clause-roomy
place_segment-joined-requires-clause-roomy c =
    let i = c.loop-k.invariant in walk_roomy _ i.ready i.walking

pub place_segment-joined-requires-clause-fits : goal.place_segment-joined-requires-clause-fits
place_segment-joined-requires-clause-fits c =
    let i = c.loop-k.invariant in
    (i.ready.small, fits i.ready i.walking (omega (arith, i.counted)) c.entry-entry.ensures c.length_of.ensures.0)

pub write_lengths-run-requires-clause-entries : goal.write_lengths-run-requires-clause-entries
write_lengths-run-requires-clause-entries c =
    let a = c.args in
    let i = c.loop-k.invariant in
    rw i.counted (entries-inside a.table.width a.table.sub.bytes.now i.ready.passed)

pub write_lengths-run-requires-clause-most_le_longest : goal.write_lengths-run-requires-clause-most_le_longest
write_lengths-run-requires-clause-most_le_longest c =
    let i = c.loop-k.invariant in
    let one = placed_one i.ready i.walking (omega (arith, i.counted)) c.entry-entry.ensures c.length_of.ensures.0
    c.place_segment-joined.ensures.placed in
    let n = walk_frames _ i.ready one in
    let long = (walk_roomy _ i.ready one).lengths_long in
    let few = c.segment_count-count.ensures.1 in
    (i.ready.small, omega arith, omega (arith, few), omega (arith, n, long, few))

pub copy-requires : goal.copy-requires
copy-requires c =
    let i = c.loop-k.invariant in
    let ran = c.write_lengths-run.ensures in
    room_all i.ready i.walking (omega (arith, i.counted)) c.entry-entry.ensures c.length_of.ensures.0
    c.place_segment-joined.ensures.placed (omega (arith, i.counted, ran.frames_bound)) ran.ran

pub overflow_add-tally : goal.overflow_add-tally
overflow_add-tally c =
    let i = c.loop-k.invariant in
    let ran = c.write_lengths-run.ensures in
    let all = within_all i.ready i.walking (omega (arith, i.counted)) c.entry-entry.ensures c.length_of.ensures.0
    c.place_segment-joined.ensures.placed (omega (arith, i.counted, ran.frames_bound)) ran.ran in
    omega (arith, all.frames-few)

pub overflow_add-tally-in-loop-k : goal.overflow_add-tally-in-loop-k
overflow_add-tally-in-loop-k c =
    let i = c.loop-k.invariant in
    let ran = c.write_lengths-run.ensures in
    let all = within_all i.ready i.walking (omega (arith, i.counted)) c.entry-entry.ensures c.length_of.ensures.0
    c.place_segment-joined.ensures.placed (omega (arith, i.counted, ran.frames_bound)) ran.ran in
    omega (arith, all.bytes-few)

pub overflow_add-from-in-loop-k : goal.overflow_add-from-in-loop-k
overflow_add-from-in-loop-k c =
    let i = c.loop-k.invariant in
    let ran = c.write_lengths-run.ensures in
    let room = room_all i.ready i.walking (omega (arith, i.counted)) c.entry-entry.ensures c.length_of.ensures.0
    c.place_segment-joined.ensures.placed (omega (arith, i.counted, ran.frames_bound)) ran.ran in
    omega (arith, room.1, i.ready.short)

pub loop-k-preserved : goal.loop-k-preserved
loop-k-preserved c =
    let i = c.loop-k.invariant in
    let same = c.place_segment-joined.ensures.same_slices in
    let ran = c.write_lengths-run.ensures in
    record {
      counted = i.counted;
      same_slices = (same.0 ∙ i.same_slices.0, same.1 ∙ i.same_slices.1);
      ready = i.ready;
      walking =
          rw c.copy.ensures
          (placed_all i.ready i.walking (omega (arith, i.counted)) c.entry-entry.ensures c.length_of.ensures.0
          c.place_segment-joined.ensures.placed (omega (arith, i.counted, ran.frames_bound)) ran.ran);
    }

pub returns-clause-placed : goal.returns-clause-placed
returns-clause-placed c =
    let i = c.loop-k.invariant in walk_end _ i.ready i.walking (omega (arith, i.counted))

pub returns-clause-within : goal.returns-clause-within
returns-clause-within c =
    let i = c.loop-k.invariant in walk_within _ i.ready i.walking
