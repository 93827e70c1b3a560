-- Inside: what functions promise each other on the way to a result. Nobody has to believe this file: the result is said without it.
-- Here: how a fate shows in the code's counts and slices.
use Rattle.std.specs.Prelude.{◌≡◌, ℕ, zero, suc, ◌+◌, ◌<◌, ◌≤◌, true, List, length}
use Rattle.octets.specs.Stretch.{put, joined, lengths_of}
use Rattle.octets.specs.Count.{sum_to, up_to}
use Rattle.flow.specs.Flow.{longest}
use Rattle.packet.specs.Segments.{entry_at, begins_in, ends_in, length_in, length_at}
use Rattle.join.specs.declared.Tally.{Tally}
use Rattle.join.specs.Join.{Fate}
use Rattle.join.specs.Slices.{Slices, most_frames, most_bytes}

-- nothing delivered, dropped or held yet
abbrev pub nothing_yet : Tally
nothing_yet = record { held = 0; frames = 0; bytes = 0; dropped = 0 }

-- .. and what a gap makes of a flow that holds so many bytes
abbrev pub begun : ℕ → ℕ → Tally
begun zero held = record { held = held; frames = 0; bytes = 0; dropped = 0 }
begun (suc gap) held = record { held = 0; frames = 0; bytes = 0; dropped = held }

-- The counts and the slices after some bytes met their fate, from what they were before: what was delivered stands behind what had
-- been delivered before, and what is held stands at the start of the place.
pub record Placed (f : Fate) (place : ℕ) (before : Tally) (s : Slices) (after : Tally) (s' : Slices) : Type 0 where
  pub held_now : after.held ≡ length f.held
  pub frames_more : after.frames ≡ before.frames + length f.delivered
  pub bytes_more : after.bytes ≡ before.bytes + length (joined f.delivered)
  pub dropped_more : after.dropped ≡ before.dropped + length f.dropped
  pub holding_now : s'.holding ≡ put s.holding place f.held
  pub output_now : s'.output ≡ put s.output before.bytes (joined f.delivered)
  pub lengths_now : s'.lengths ≡ put s.lengths before.frames (lengths_of f.delivered)

-- The slices are long enough, and the place lies in the holding slice.
pub record Roomy (place : ℕ) (s : Slices) : Type 0 where
  pub place_inside : place + longest ≤ length s.holding
  pub output_long : most_bytes ≤ length s.output
  pub lengths_long : most_frames ≤ length s.lengths

-- There is room for a piece of `size` bytes more, whatever becomes of it: all bytes that the call has met so far, and these, are few
-- enough.
pub record Fits (size : ℕ) (tally : Tally) : Type 0 where
  pub held-few : tally.held ≤ longest
  pub bytes-few : tally.held + tally.bytes + tally.dropped + size ≤ most_bytes
  pub frames-few : tally.frames < most_frames

-- what a packet's counts are below, all pieces placed
pub record Within (tally : Tally) : Type 0 where
  pub held-few : tally.held ≤ longest
  pub bytes-few : tally.held + tally.bytes + tally.dropped ≤ most_bytes
  pub frames-few : tally.frames ≤ most_frames

-- an entry with B, E and a length of at most the session's longest frame
pub record Whole (most entry : ℕ) : Type 0 where
  pub begins : begins_in entry ≡ true
  pub ends : ends_in entry ≡ true
  pub short : length_in entry ≤ most

-- so many whole frames from segment k on, so long together, and their lengths written from place `at` on
pub record Ran (most width : ℕ) (sub : List ℕ) (k at : ℕ) (lengths lengths' : List ℕ) (frames bytes : ℕ) : Type 0 where
  pub each : (i : ℕ) → i < frames → Whole most (entry_at width sub (k + i))
  pub total : bytes ≡ sum_to (λ i. length_at width sub (k + i)) frames
  pub written : lengths' ≡ put lengths at (up_to (λ i. length_at width sub (k + i)) frames)
