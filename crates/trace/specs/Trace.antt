-- The trace: the listing, and behind each entry's line what the card did and how it stands afterwards. A line for each frame that the
-- entry delivered, in order; then for each open row its number, session ID and kind (1 PSP, 2 D-MPT, as in the packet check), and for each
-- of its flows that is not fresh the flow's number, the number that it expects, how many bytes it holds, and those bytes as they stand in
-- its place, `-` where there are none.
use Rattle.std.specs.Prelude.{ℕ, zero, suc, cond, List, [], ◌∷◌, ◌++◌, map}
use Rattle.octets.specs.Stretch.{part, joined}
use Rattle.octets.specs.Count.{up_to}
use Rattle.flow.specs.declared.Flow.{Flow}
use Rattle.flow.specs.Flow.{flows, is_fresh}
use Rattle.table.specs.declared.Row.{Row}
use Rattle.table.specs.Rows.{rows, is_closed, row_at, flow_at}
use Rattle.card.specs.Receive.{place_of}
use Rattle.card.specs.History.{Card, Answer, frames_of}
use Rattle.text.specs.Text.{ascii, decimal, column, hex, space, newline}
use Rattle.capture.specs.File.{head_length, entry_count, file_refusal}
use Rattle.replay.specs.Run.{standing, answer_at}
use Rattle.tool.specs.Refused.{refused_line}
use Rattle.listing.specs.Listing.{heading, line_at}

-- the frames that a call delivered
unfoldable pub frame_line : List ℕ → List ℕ
frame_line frame = ascii " frame " ++ hex frame ++ newline

unfoldable pub frames_text : Answer → List ℕ
frames_text a = joined (map frame_line (frames_of a))

-- bytes in hexadecimal, or a dash for none
abbrev pub hex_or_dash : List ℕ → List ℕ
hex_or_dash [] = ascii "-"
hex_or_dash (b ∷ bytes) = hex (b ∷ bytes)

-- A flow of an open row: nothing where it is fresh.
unfoldable pub flow_line : ℕ → ℕ → Flow → List ℕ → List ℕ
flow_line r k f held =
    ascii " flow " ++ decimal r ++ column k ++ column f.expected ++ column f.held ++ space ++ hex_or_dash held ++ newline

unfoldable pub flow_text : List ℕ → ℕ → ℕ → Flow → List ℕ
flow_text holding r k f = cond (is_fresh f) [] (flow_line r k f (part holding (place_of r k) f.held))

-- A row, with its flows: nothing where it is closed.
unfoldable pub row_line : ℕ → Row → List ℕ
row_line r row = ascii " row " ++ decimal r ++ column row.id ++ column row.kind ++ newline

unfoldable pub row_text : List ℕ → ℕ → Row → List ℕ
row_text holding r row = cond (is_closed row.kind) [] (row_line r row ++ joined (up_to (λ k. flow_text holding r k (flow_at row k)) flows))

unfoldable pub rows_text : Card → List ℕ
rows_text c = joined (up_to (λ r. row_text c.holding r (row_at c.table r)) rows)

-- Entry k of a file: its line, its frames, and the card behind it.
unfoldable pub traced_at : List ℕ → ℕ → List ℕ
traced_at file k = line_at file k ++ frames_text (answer_at file k) ++ rows_text (standing file (suc k)).card

unfoldable pub trace_by : ℕ → List ℕ → List ℕ
trace_by zero file = heading ++ joined (up_to (traced_at file) (entry_count head_length file))
trace_by (suc c) file = refused_line (suc c)

-- the text that the trace of a capture prints
unfoldable pub trace : List ℕ → List ℕ
trace file = trace_by (file_refusal file) file
