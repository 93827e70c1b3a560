-- The lines that programs write of numbers: a word, a space and the number in decimal.
use Rattle.std.specs.Prelude.{ℕ, ◌+◌, List, ◌++◌}
use Rattle.text.specs.Text.{most_digits, column, newline}

abbrev pub line_of : List ℕ → ℕ → List ℕ
line_of word number = word ++ column number ++ newline

-- room for what stands behind the word, whatever number of 32 bits it is
abbrev pub number_room : ℕ
number_room = 1 + most_digits + 1
