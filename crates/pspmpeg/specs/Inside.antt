-- Inside: what functions promise each other on the way to a result. Nobody has to believe this file: the result is said without it.
-- Here: the frames that are gathered, the packets that are written, and their rooms. What is written is specs/Stream.antt's, in crate
-- outputs.
use Rattle.std.specs.Prelude.{ℕ, zero, suc, ◌+◌, ◌*◌, ◌/◌, ◌≤◌, ◌≡◌, cond, List, [], ◌∷◌, length}
use Rattle.octets.specs.Bytes.{byte_at}
use Rattle.octets.specs.Count.{sum_to}
use Rattle.octets.specs.Stretch.{rest, put, joined, lengths_of}
use Rattle.octets.specs.Tests.{none}
use Rattle.ts.specs.Packet.{mpeg_length}
use Rattle.join.specs.Slices.{most_frames}
use Rattle.capture.specs.File.{longest_file, most_entries}
use Rattle.tool.specs.Refused.{refused_line}
use Rattle.mpeg.specs.Packet.{pointed_length}
use Rattle.mpeg.specs.Write.{bad_frames, left_at, packet_of, carried, count_after}
use Rattle.replay.specs.declared.Lent.{Lent}
use Rattle.pspmpeg.specs.declared.gather.Gathered.{Gathered}

-- how many frames there can be; and room for the packets of as many bytes as a capture has, all but the last of which carry 183 at least
abbrev pub most_gathered : ℕ
most_gathered = most_frames * most_entries

abbrev pub stream_room : ℕ
stream_room = mpeg_length * (longest_file / pointed_length + 1)

-- the slices that frames are gathered in are the same afterwards
abbrev pub SameSlices : Gathered → Gathered → Type 0
SameSlices before after = (after.bytes.ghost_name ≡ before.bytes.ghost_name) × (after.sizes.ghost_name ≡ before.sizes.ghost_name)

-- frames put behind those gathered before, and that there is room for them
pub record Adds (frames : List (List ℕ)) (before after : Gathered) : Type 0 where
  pub bytes_then : after.bytes.now ≡ put before.bytes.now before.total (joined frames)
  pub sizes_then : after.sizes.now ≡ put before.sizes.now before.count (lengths_of frames)
  pub count_then : after.count ≡ before.count + length frames
  pub total_then : after.total ≡ before.total + length (joined frames)

pub record Fits (frames : List (List ℕ)) (g : Gathered) : Type 0 where
  pub bytes_fit : g.total + length (joined frames) ≤ length g.bytes.now
  pub sizes_fit : g.count + length frames ≤ length g.sizes.now

-- .. where the frames are those that a call has left in the slices lent to it
pub record FitsFound (lent : Lent) (more : ℕ) (g : Gathered) : Type 0 where
  pub lengths-there : more ≤ length lent.lengths.now
  pub bytes-there : sum_to (byte_at lent.lengths.now) more ≤ length lent.output.now
  pub bytes_fit : g.total + sum_to (byte_at lent.lengths.now) more ≤ length g.bytes.now
  pub sizes_fit : g.count + more ≤ length g.sizes.now

-- all of them gathered, at the front of the slices
pub record Gathers (frames : List (List ℕ)) (bytes sizes : List ℕ) (g : Gathered) : Type 0 where
  pub bytes_now : g.bytes.now ≡ put bytes 0 (joined frames)
  pub sizes_now : g.sizes.now ≡ put sizes 0 (lengths_of frames)
  pub counted : g.count ≡ length frames
  pub total_is : g.total ≡ length (joined frames)

-- what is written of frames that stand back to back with their lengths, from a place and a count on
unfoldable pub packets_from : ℕ → List ℕ → List ℕ → ℕ → ℕ → List (List ℕ)
packets_from zero bytes lengths place count = []
packets_from (suc n) bytes lengths place count =
    cond (none (rest bytes place)) []
    (packet_of count (left_at lengths place) (rest bytes place)
    ∷ packets_from n bytes lengths (place + carried (left_at lengths place) (rest bytes place)) (count_after count (rest bytes place)))

unfoldable pub stream_from : List ℕ → List ℕ → List ℕ
stream_from bytes lengths = cond (bad_frames lengths bytes) (refused_line 52) (joined (packets_from (length bytes) bytes lengths 0 0))
