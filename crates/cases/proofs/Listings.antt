-- Document 01's capture, listed and traced by the definitions: session 0x101 opened, packet A, packet B twice, the session closed. The
-- listing is the paper's own, word for word.
use Prim.Native.Nat.{ℕ}
use mathlib.Core.Path.{◌≡◌, refl}
use mathlib.Core.List.{List, [], ◌∷◌, ◌++◌}
use lib.ListN.{length, replicate}
use Rattle.octets.specs.Stretch.{part, rest, put, joined, lengths_of, cut_by}
use Rattle.octets.specs.Count.{any, least, sum_to, up_to}
use Rattle.flow.specs.declared.Flow.{Flow}
use Rattle.flow.specs.Numbers.{ahead, next}
use Rattle.flow.specs.Flow.{fresh}
use Rattle.packet.specs.Segments.{body_at, segment_at, segments}
use Rattle.packet.specs.Psp.{wanted}
use Rattle.packet.proofs.Examples.{A, B}
use Rattle.table.specs.declared.Row.{Row}
use Rattle.table.specs.Broken.{broken}
use Rattle.table.specs.Calls.{opened, closed}
use Rattle.join.specs.Join.{settled_by, settled, fate_by, fate, at_gap, in_order, psp_fate}
use Rattle.card.specs.Hear.{hear}
use Rattle.card.specs.Receive.{carried_out, refused, received_by, received}
use Rattle.card.specs.History.{answer, after}
use Rattle.text.specs.Text.{ascii, digits, decimal, column, hex}
use Rattle.capture.specs.File.{body_start, file_refusal, Entry, nth_entry, file_of}
use Rattle.capture.proofs.Examples.{capture}
use Rattle.replay.specs.Run.{begin, run_one, standing, answer_at}
use Rattle.tool.specs.Refused.{refused_line}
use Rattle.listing.specs.Listing.{columns, line, line_at, listing_by, listing}
use Rattle.trace.specs.Trace.{frame_line, frames_text, flow_line, flow_text, row_line, row_text, rows_text, traced_at, trace_by, trace}

pub listed : listing capture
    ≡ ascii "n what code frames bytes dropped gap\n"
    ++ ascii "0 open 0 0 0 0 0\n"
    ++ ascii "1 data 0 1 6 0 0\n"
    ++ ascii "2 data 0 1 9 0 0\n"
    ++ ascii "3 data 12 0 0 0 0\n"
    ++ ascii "4 close 0 0 0 0 0\n"
unfolding listing listing_by line_at line columns decimal digits column file_refusal body_start nth_entry begin run_one standing answer_at
    answer after opened closed broken received received_by carried_out refused hear psp_fate settled_by settled fate_by fate at_gap
    in_order wanted body_at segment_at segments ahead next part rest put joined lengths_of any least sum_to up_to
listed = refl

-- session 0x101 is open and has received packet A: two bytes are held
abbrev behind_A : List ℕ
behind_A =
    ascii "n what code frames bytes dropped gap\n"
    ++ ascii "0 open 0 0 0 0 0\n"
    ++ ascii " row 0 257 1\n"
    ++ ascii "1 data 0 1 6 0 0\n"
    ++ ascii " frame 111213141516\n"
    ++ ascii " row 0 257 1\n"
    ++ ascii " flow 0 1 0 2 2122\n"

pub traced : trace capture
    ≡ behind_A
    ++ ascii "2 data 0 1 9 0 0\n"
    ++ ascii " frame 212223242526272829\n"
    ++ ascii " row 0 257 1\n"
    ++ ascii " flow 0 1 1 0 -\n"
    ++ ascii "3 data 12 0 0 0 0\n"
    ++ ascii " row 0 257 1\n"
    ++ ascii " flow 0 1 1 0 -\n"
    ++ ascii "4 close 0 0 0 0 0\n"
unfolding trace trace_by traced_at frames_text frame_line rows_text row_text row_line flow_text flow_line hex cut_by line_at line columns
    decimal digits column file_refusal body_start nth_entry begin run_one standing answer_at answer after opened closed broken received
    received_by carried_out refused hear psp_fate settled_by settled fate_by fate at_gap in_order wanted body_at segment_at segments ahead
    next part rest put joined lengths_of any least sum_to up_to
traced = refl

-- Two channels use the same flow number at the same time, and each has half a frame: the frame of the first comes out whole, and the close
-- of the second drops the byte that it held. A D-MPT session takes the row that came free, and what is closed cannot be closed again.
abbrev opening : ℕ → ℕ → Entry
opening kind id = record { kind = kind; body = 0x00 ∷ 0x00 ∷ 0x01 ∷ id ∷ [] }

abbrev piece : ℕ → ℕ → ℕ → List ℕ → Entry
piece id number mark bytes =
    record { kind = 4; body = 0x00 ∷ 0x00 ∷ 0x01 ∷ id ∷ 0x41 ∷ 0x01 ∷ 0x00 ∷ number ∷ mark ∷ length bytes ∷ bytes }

abbrev two_channels : List ℕ
two_channels =
    file_of
    (opening 1 0x01 ∷ opening 1 0x02
    ∷ piece 0x01 5 0x80 (0xAA ∷ 0xBB ∷ []) ∷ piece 0x02 9 0x80 (0xCC ∷ []) ∷ piece 0x01 6 0x40 (0xDD ∷ [])
    ∷ opening 3 0x02 ∷ opening 2 0x03 ∷ opening 3 0x02 ∷ [])

pub two_traced : trace two_channels
    ≡ ascii "n what code frames bytes dropped gap\n"
    ++ ascii "0 open 0 0 0 0 0\n"
    ++ ascii " row 0 257 1\n"
    ++ ascii "1 open 0 0 0 0 0\n"
    ++ ascii " row 0 257 1\n"
    ++ ascii " row 1 258 1\n"
    ++ ascii "2 data 0 0 0 0 0\n"
    ++ ascii " row 0 257 1\n"
    ++ ascii " flow 0 1 6 2 aabb\n"
    ++ ascii " row 1 258 1\n"
    ++ ascii "3 data 0 0 0 0 0\n"
    ++ ascii " row 0 257 1\n"
    ++ ascii " flow 0 1 6 2 aabb\n"
    ++ ascii " row 1 258 1\n"
    ++ ascii " flow 1 1 10 1 cc\n"
    ++ ascii "4 data 0 1 3 0 0\n"
    ++ ascii " frame aabbdd\n"
    ++ ascii " row 0 257 1\n"
    ++ ascii " flow 0 1 7 0 -\n"
    ++ ascii " row 1 258 1\n"
    ++ ascii " flow 1 1 10 1 cc\n"
    ++ ascii "5 close 0 0 0 1 0\n"
    ++ ascii " row 0 257 1\n"
    ++ ascii " flow 0 1 7 0 -\n"
    ++ ascii "6 open 0 0 0 0 0\n"
    ++ ascii " row 0 257 1\n"
    ++ ascii " flow 0 1 7 0 -\n"
    ++ ascii " row 1 259 2\n"
    ++ ascii "7 close 25 0 0 0 0\n"
    ++ ascii " row 0 257 1\n"
    ++ ascii " flow 0 1 7 0 -\n"
    ++ ascii " row 1 259 2\n"
unfolding trace trace_by traced_at frames_text frame_line rows_text row_text row_line flow_text flow_line hex cut_by line_at line columns
    decimal digits column file_of file_refusal body_start nth_entry begin run_one standing answer_at answer after opened closed broken
    received received_by carried_out refused hear psp_fate settled_by settled fate_by fate at_gap in_order wanted body_at segment_at
    segments ahead next part rest put joined lengths_of any least sum_to up_to
two_traced = refl

-- A file with one byte left over prints one line, traced or not.
abbrev left_over : List ℕ
left_over = capture ++ (0 ∷ [])

pub refused_listed : (listing left_over ≡ ascii "refused 45\n") × (trace left_over ≡ ascii "refused 45\n")
unfolding listing listing_by trace trace_by refused_line column decimal digits file_refusal body_start any sum_to
refused_listed = (refl, refl)

-- a line with a different number in every column
pub one_line : line 999 2 (record { code = 12; frames = 127; bytes = 6140; dropped = 2049; gap = 32767; output = []; lengths = [] })
    ≡ ascii "999 open 12 127 6140 2049 32767\n"
unfolding line columns decimal digits column
one_line = refl

-- session 0x10101 on flow 3: a byte held; another opened meanwhile; after a gap of 2 two whole frames and a byte held; closed
abbrev gapped : List ℕ
gapped =
    file_of
    (record { kind = 1; body = 0x00 ∷ 0x01 ∷ 0x01 ∷ 0x01 ∷ [] }
    ∷ record { kind = 4; body = 0x00 ∷ 0x01 ∷ 0x01 ∷ 0x01 ∷ 0x43 ∷ 0x01 ∷ 0x00 ∷ 0x05 ∷ 0x80 ∷ 0x01 ∷ 0xAA ∷ [] }
    ∷ record { kind = 1; body = 0x00 ∷ 0x00 ∷ 0x01 ∷ 0x01 ∷ [] }
    ∷ record {
      kind = 4;
      body = 0x00 ∷ 0x01 ∷ 0x01 ∷ 0x01 ∷ 0x43 ∷ 0x03 ∷ 0x00 ∷ 0x08 ∷ 0xC0 ∷ 0x02 ∷ 0xC0 ∷ 0x01 ∷ 0x80 ∷ 0x01 ∷ 0xB1
          ∷ 0xB2 ∷ 0xB3 ∷ 0xB4 ∷ [];
    }
    ∷ record { kind = 4; body = [] }
    ∷ record { kind = 3; body = 0x00 ∷ 0x01 ∷ 0x01 ∷ 0x01 ∷ [] } ∷ [])

pub gap_traced : trace gapped
    ≡ ascii "n what code frames bytes dropped gap\n"
    ++ ascii "0 open 0 0 0 0 0\n"
    ++ ascii " row 0 65793 1\n"
    ++ ascii "1 data 0 0 0 0 0\n"
    ++ ascii " row 0 65793 1\n"
    ++ ascii " flow 0 3 6 1 aa\n"
    ++ ascii "2 open 0 0 0 0 0\n"
    ++ ascii " row 0 65793 1\n"
    ++ ascii " flow 0 3 6 1 aa\n"
    ++ ascii " row 1 257 1\n"
    ++ ascii "3 data 0 2 3 1 2\n"
    ++ ascii " frame b1b2\n"
    ++ ascii " frame b3\n"
    ++ ascii " row 0 65793 1\n"
    ++ ascii " flow 0 3 9 1 b4\n"
    ++ ascii " row 1 257 1\n"
    ++ ascii "4 data 2 0 0 0 0\n"
    ++ ascii " row 0 65793 1\n"
    ++ ascii " flow 0 3 9 1 b4\n"
    ++ ascii " row 1 257 1\n"
    ++ ascii "5 close 0 0 0 1 0\n"
    ++ ascii " row 1 257 1\n"
unfolding trace trace_by traced_at frames_text frame_line rows_text row_text row_line flow_text flow_line hex cut_by line_at line columns
    decimal digits column file_of file_refusal body_start nth_entry begin run_one standing answer_at answer after opened closed broken
    received received_by carried_out refused hear psp_fate settled_by settled fate_by fate at_gap in_order wanted body_at segment_at
    segments ahead next part rest put joined lengths_of any least sum_to up_to
gap_traced = refl

-- A core that speaks UDP (W1, kind 5): A over UDP; a control message of its own, with T set; B over IP; what is over IP given as if it were
-- over UDP; and nothing at all.
abbrev by_either : List ℕ
by_either =
    file_of
    (opening 1 0x01
    ∷ record { kind = 5; body = 0x00 ∷ 0x03 ∷ 0x00 ∷ 0x00 ∷ A }
    ∷ record { kind = 5; body = 0xC8 ∷ 0x03 ∷ 0x00 ∷ 0x0C ∷ replicate 8 0x00 }
    ∷ record { kind = 4; body = B }
    ∷ record { kind = 5; body = B }
    ∷ record { kind = 5; body = [] } ∷ [])

pub either_traced : trace by_either
    ≡ behind_A
    ++ ascii "2 data 15 0 0 0 0\n"
    ++ ascii " row 0 257 1\n"
    ++ ascii " flow 0 1 0 2 2122\n"
    ++ ascii "3 data 0 1 9 0 0\n"
    ++ ascii " frame 212223242526272829\n"
    ++ ascii " row 0 257 1\n"
    ++ ascii " flow 0 1 1 0 -\n"
    ++ ascii "4 data 15 0 0 0 0\n"
    ++ ascii " row 0 257 1\n"
    ++ ascii " flow 0 1 1 0 -\n"
    ++ ascii "5 data 2 0 0 0 0\n"
    ++ ascii " row 0 257 1\n"
    ++ ascii " flow 0 1 1 0 -\n"
unfolding trace trace_by traced_at frames_text frame_line rows_text row_text row_line flow_text flow_line hex cut_by line_at line columns
    decimal digits column file_of file_refusal body_start nth_entry begin run_one standing answer_at answer after opened closed broken
    received received_by carried_out refused hear psp_fate settled_by settled fate_by fate at_gap in_order wanted body_at segment_at
    segments ahead next part rest put joined lengths_of any least sum_to up_to
either_traced = refl

-- six rows, and four flows in the last
abbrev open_row : ℕ → List Flow → Row
open_row id fs = record { id = id; kind = 1; flows = fs }

abbrev some_flow : ℕ → Flow
some_flow n = record { heard = 1; expected = n; held = 0 }

pub six_rows : rows_text (record {
  table = record {
    rows = open_row 1 (replicate 4 fresh) ∷ open_row 2 (replicate 4 fresh) ∷ open_row 3 (replicate 4 fresh) ∷ open_row 4 (replicate 4 fresh)
        ∷ open_row 5 (replicate 4 fresh) ∷ open_row 6 (some_flow 10 ∷ some_flow 11 ∷ some_flow 12 ∷ some_flow 13 ∷ []) ∷ [];
  };
  holding = [];
})
    ≡ ascii " row 0 1 1\n row 1 2 1\n row 2 3 1\n row 3 4 1\n row 4 5 1\n row 5 6 1\n"
    ++ ascii " flow 5 0 10 0 -\n flow 5 1 11 0 -\n flow 5 2 12 0 -\n flow 5 3 13 0 -\n"
unfolding rows_text row_text row_line flow_text flow_line hex column decimal digits joined up_to part
six_rows = refl
