-- The cut of frames into segments (document 01, "The sender"; DEPI I05, section 8.3). The frames stand back to back in one list of bytes,
-- and `lengths` has the length of each. As long as frames remain, fewer than 127 segments are placed and the room is at least 3, the next
-- segment is placed: the lesser of what is left of the frame and of the room less 2; and the room falls by 2 and the segment's bytes.
-- The 2 is the width of a segment's entry and the 3 an entry and a byte: both come from a parameter, `width`. The 127 is the first
-- argument of `cut`, which the sender gives.
use Rattle.std.specs.Prelude.{ℕ, zero, suc, ◌+◌, ◌-◌, min, Bool, cond, ◌&&◌, List, [], ◌∷◌, ◌++◌, eqb, ltb, leb, length, get_or}
use Rattle.octets.specs.Stretch.{part}
use Rattle.octets.specs.Count.{sum_to}
use Rattle.packet.specs.Segments.{Segment}
use Rattle.sender.specs.declared.Position.{Position}

-- the length of frame i, and where the frame starts: behind those before it
abbrev pub frame_length : List ℕ → ℕ → ℕ
frame_length lengths i = get_or lengths i 0

unfoldable pub frame_start : List ℕ → ℕ → ℕ
frame_start lengths i = sum_to (frame_length lengths) i

-- At a position (frame, offset) the next byte to send is byte `offset` of that frame. How many bytes of the frame are left there, and
-- where the first of them stands.
abbrev pub left_of : List ℕ → Position → ℕ
left_of lengths at = frame_length lengths at.frame - at.offset

abbrev pub index_of : List ℕ → Position → ℕ
index_of lengths at = frame_start lengths at.frame + at.offset

-- The segment that carries the next n bytes of the frame: it has B where it is the frame's first, and E where it is the last.
abbrev pub segment_from : List ℕ → List ℕ → Position → ℕ → Segment
segment_from bytes lengths at n =
    record {
      begins = eqb at.offset 0;
      ends = eqb n (left_of lengths at);
      body = part bytes (index_of lengths at) n;
    }

-- The position behind those n bytes: behind a frame's last byte it is the next frame, offset 0, and else farther on in the same frame.
abbrev pub next_frame : Position → Position
next_frame at = record { frame = at.frame + 1; offset = 0 }

abbrev pub farther_on : Position → ℕ → Position
farther_on at n = record { frame = at.frame; offset = at.offset + n }

abbrev pub after : List ℕ → Position → ℕ → Position
after lengths at n = cond (eqb n (left_of lengths at)) (next_frame at) (farther_on at n)

-- How far a cut has come: the room that is left, the position, and the segments placed.
pub record Cut : Type 0 where
  pub room : ℕ
  pub position : Position
  pub segments : List Segment

-- room for an entry and one byte: with less, nothing is placed
abbrev pub least_room : ℕ → ℕ
least_room width = width + 1

abbrev pub goes_on : ℕ → List ℕ → Cut → Bool
goes_on width lengths c = ltb c.position.frame (length lengths) && leb (least_room width) c.room

abbrev pub size_of_next : ℕ → List ℕ → Cut → ℕ
size_of_next width lengths c = min (left_of lengths c.position) (c.room - width)

abbrev pub place : ℕ → List ℕ → List ℕ → Cut → Cut
place width bytes lengths c =
    record {
      room = c.room - (width + size_of_next width lengths c);
      position = after lengths c.position (size_of_next width lengths c);
      segments = c.segments ++ (segment_from bytes lengths c.position (size_of_next width lengths c) ∷ []);
    }

-- at most so many more segments
unfoldable pub cut : ℕ → ℕ → List ℕ → List ℕ → Cut → Cut
cut zero width bytes lengths c = c
cut (suc more) width bytes lengths c = cond (goes_on width lengths c) (cut more width bytes lengths (place width bytes lengths c)) c
