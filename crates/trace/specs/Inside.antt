-- Inside: what functions promise each other on the way to a result. Nobody has to believe this file: the result is said without it.
-- Here: the room that a trace needs, and what its functions are lent. What is printed is specs/Trace.antt's.
use Rattle.std.specs.Prelude.{ℕ, ◌+◌, ◌*◌, ◌<◌, ◌≤◌}
use Rattle.flow.specs.Flow.{flows, longest}
use Rattle.table.specs.declared.Row.{Row}
use Rattle.table.specs.Rows.{rows, flow_at}
use Rattle.join.specs.Slices.{most_frames, most_bytes}
use Rattle.text.specs.Text.{most_digits}
use Rattle.listing.specs.Inside.{column_room, line_room}

-- the line of a frame without its bytes, the lines of a call's frames, the line of a flow, of a row, a row with its flows, all rows
abbrev pub frame_room : ℕ
frame_room = 8

abbrev pub frames_room : ℕ
frames_room = frame_room * most_frames + 2 * most_bytes

abbrev pub flow_room : ℕ
flow_room = 6 + most_digits + 3 * column_room + 1 + (1 + 2 * longest) + 1

abbrev pub row_line_room : ℕ
row_line_room = 5 + most_digits + 2 * column_room + 1

abbrev pub row_room : ℕ
row_room = row_line_room + flow_room * flows

abbrev pub rows_room : ℕ
rows_room = row_room * rows

-- an entry of a trace
abbrev pub entry_room : ℕ
entry_room = line_room + frames_room + rows_room

-- no flow of the row holds more than a place has
abbrev pub HeldFew : Row → Type 0
HeldFew row = (k : ℕ) → k < flows → (flow_at row k).held ≤ longest
