-- The one line that a program writes of what it refuses: the word, a space and the number (document 01, "Capture file and listing").
use Rattle.std.specs.Prelude.{ℕ, List, ◌++◌}
use Rattle.text.specs.Text.{ascii, column, newline}

unfoldable pub refused_line : ℕ → List ℕ
refused_line number = ascii "refused" ++ column number ++ newline

-- room for it, whatever number of 32 bits it has
abbrev pub refused_room : ℕ
refused_room = 19
