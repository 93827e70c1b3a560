-- The listing (document 01, "Capture file and listing"): a heading, and a line for each entry with its index, whether it is an open, a
-- close or data, its refusal number or 0, and the frames, bytes delivered, bytes dropped and gap that the call answered. A refused file
-- prints one line: the word, a space and the number.
use Rattle.std.specs.Prelude.{ℕ, zero, suc, cond, ◌||◌, List, ◌++◌, eqb}
use Rattle.octets.specs.Stretch.{joined}
use Rattle.octets.specs.Count.{up_to}
use Rattle.card.specs.History.{Answer}
use Rattle.text.specs.Text.{ascii, decimal, column, space, newline}
use Rattle.capture.specs.File.{open_psp, open_dmpt, closing, head_length, entry_length, entry_count, kind_at, file_refusal}
use Rattle.tool.specs.Refused.{refused_line}
use Rattle.replay.specs.Run.{answer_at}

abbrev pub heading : List ℕ
heading = ascii "n what code frames bytes dropped gap\n"

-- what an entry of this kind is
abbrev pub word_for : ℕ → List ℕ
word_for kind = cond (eqb kind open_psp || eqb kind open_dmpt) (ascii "open") (cond (eqb kind closing) (ascii "close") (ascii "data"))

-- the columns of an answer: its number, frames, bytes delivered, bytes dropped, gap
unfoldable pub columns : Answer → List ℕ
columns a = column a.code ++ column a.frames ++ column a.bytes ++ column a.dropped ++ column a.gap

unfoldable pub line : ℕ → ℕ → Answer → List ℕ
line index kind a = decimal index ++ space ++ word_for kind ++ columns a ++ newline

-- the line of entry k
unfoldable pub line_at : List ℕ → ℕ → List ℕ
line_at file k = line k (kind_at head_length entry_length file k) (answer_at file k)

-- by the number of the first refusal that applies
unfoldable pub listing_by : ℕ → List ℕ → List ℕ
listing_by zero file = heading ++ joined (up_to (line_at file) (entry_count head_length file))
listing_by (suc c) file = refused_line (suc c)

-- the text that a capture prints
unfoldable pub listing : List ℕ → List ℕ
listing file = listing_by (file_refusal file) file
