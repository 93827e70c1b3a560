-- Inside: what functions promise each other on the way to a result. Nobody has to believe this file: the result is said without it.
-- Here: the room that a listing needs. What is printed is specs/Listing.antt's.
use Rattle.std.specs.Prelude.{ℕ, ◌+◌, ◌*◌, []}
use Rattle.card.specs.declared.Received.{Received}
use Rattle.card.specs.History.{Answer}
use Rattle.text.specs.Text.{most_digits}
use Rattle.capture.specs.File.{most_entries}

-- the numbers of a call's answer, as a line has them
abbrev pub numbers_of : Received → Answer
numbers_of r = record { code = r.code; frames = r.frames; bytes = r.bytes; dropped = r.dropped; gap = r.gap; output = []; lengths = [] }

-- The room that texts need: a number with its space, the longest word for a kind, the columns of an answer, a line, the
-- heading, a whole listing.
abbrev pub column_room : ℕ
column_room = 1 + most_digits

abbrev pub word_room : ℕ
word_room = 5

abbrev pub columns_room : ℕ
columns_room = 5 * column_room

abbrev pub line_room : ℕ
line_room = most_digits + 1 + word_room + columns_room + 1

abbrev pub heading_room : ℕ
heading_room = 37

abbrev pub listing_room : ℕ
listing_room = heading_room + line_room * most_entries
