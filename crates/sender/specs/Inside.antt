-- Inside: what functions promise each other on the way to a result. Nobody has to believe this file: the result is said without it.
-- Here: how the code's counts and the output stand for a cut.
use Rattle.std.specs.Prelude.{ℕ, ◌+◌, ◌-◌, ◌*◌, ◌<◌, ◌≤◌, min, ◌≡◌, Bool, false, cond, List, [], ◌++◌, map, eqb, length}
use Rattle.std.specs.Prelude.{Option, Some, None}
use Rattle.octets.specs.Bytes.{two}
use Rattle.octets.specs.Stretch.{put, joined}
use Rattle.octets.specs.Count.{any, sum_to}
use Rattle.flow.specs.Flow.{longest}
use Rattle.packet.specs.Header.{shortest_packet}
use Rattle.packet.specs.Segments.{entry_width}
use Rattle.sender.specs.declared.Position.{Position}
use Rattle.sender.specs.declared.Progress.{Progress}
use Rattle.sender.specs.Cut.{frame_length, left_of, next_frame, farther_on, after, Cut, least_room, cut}
use Rattle.sender.specs.Packet.{entry_number, entry_of, body_of}
use Rattle.sender.specs.Send.{most_frames, most_segments, greatest_limit, bad_length, bad_frames, outside}

-- where the entries start: behind the session ID and the header
abbrev pub entries_at : ℕ
entries_at = shortest_packet

-- how long all frames are together, where each length is some frame's
abbrev pub surveyed : List ℕ → Option ℕ
surveyed lengths =
    cond (any (bad_length lengths) (length lengths)) None (Some (sum_to (frame_length lengths) (length lengths)))

-- A segment can be placed: a frame remains, and so does the room, in the cut and in the output.
pub record Placeable (output lengths : List ℕ) (p : Progress) : Type 0 where
  pub few-frames : length lengths ≤ most_frames
  pub frame_remains : p.position.frame < length lengths
  pub in_frame : p.position.offset < frame_length lengths p.position.frame
  pub not_long : frame_length lengths p.position.frame ≤ longest
  pub room_remains : least_room entry_width ≤ p.room
  pub one_more : p.count < most_segments
  pub entry_inside : entries_at + entry_width * p.count + entry_width ≤ length output
  pub few_bytes : p.bytes + p.room ≤ greatest_limit

abbrev pub size_for : List ℕ → Progress → ℕ
size_for lengths p = min (left_of lengths p.position) (p.room - entry_width)

-- It is placed: its entry is written, and everything counted.
abbrev pub placed_next : List ℕ → Progress → Progress
placed_next lengths p =
    record {
      room = p.room - (entry_width + size_for lengths p);
      position = after lengths p.position (size_for lengths p);
      count = p.count + 1;
      bytes = p.bytes + size_for lengths p;
    }

abbrev pub position_after : Position → ℕ → Bool → Position
position_after at n ends = cond ends (next_frame at) (farther_on at n)

abbrev pub entry_for : List ℕ → Progress → List ℕ
entry_for lengths p =
    two (entry_number (eqb p.position.offset 0) (eqb (size_for lengths p) (left_of lengths p.position)) (size_for lengths p))

abbrev pub with_entry : List ℕ → List ℕ → Progress → List ℕ
with_entry output lengths p = put output (entries_at + entry_width * p.count) (entry_for lengths p)

-- What a call asks of the frames, the position and the output before anything is written.
pub record Ready (total : ℕ) (lengths : List ℕ) (at : Position) (room long : ℕ) : Type 0 where
  pub frames-sound : bad_frames total lengths ≡ false
  pub position-inside : outside lengths at ≡ false
  pub output_long : entries_at + room ≤ long
  pub small : room ≤ greatest_limit

-- the cut of these frames from this position into this room
abbrev pub cut_of : List ℕ → List ℕ → ℕ → Position → Cut
cut_of bytes lengths room at = cut most_segments entry_width bytes lengths (record { room = room; position = at; segments = [] })

-- The segments of a cut are written, entries and bodies, and counted.
pub record Written (c : Cut) (output output' : List ℕ) (room : ℕ) (p : Progress) : Type 0 where
  pub position_now : p.position ≡ c.position
  pub counted : p.count ≡ length c.segments
  pub few : p.count ≤ most_segments
  pub in_room : entry_width * p.count + p.bytes ≤ room
  pub bytes_counted : p.bytes ≡ length (joined (map body_of c.segments))
  pub output_now : output' ≡ put output entries_at (joined (map entry_of c.segments) ++ joined (map body_of c.segments))
