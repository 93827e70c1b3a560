-- A line of a word and a number, put together from its parts; and that of a refusal, which is one with its own word.
use Prim.Native.Nat.{ℕ}
use mathlib.Core.List.{List}
use Rattle.text.specs.Text.{ascii, column, newline, Wrote}
use Rattle.text.proofs.Writing.{wrote_then}
use Rattle.tool.specs.Line.{line_of}
use Rattle.tool.specs.Refused.{refused_line}

pub line-written : {a b c d : List ℕ} {at i j next : ℕ} {word : List ℕ} (number : ℕ) → Wrote a b at i word →
    Wrote b c i j (column number) → Wrote c d j next newline → Wrote a d at next (line_of word number)
line-written number u v w = wrote_then (wrote_then u v) w

pub refused-written : {a b c d : List ℕ} {at i j next : ℕ} (number : ℕ) → Wrote a b at i (ascii "refused") →
    Wrote b c i j (column number) → Wrote c d j next newline → Wrote a d at next (refused_line number)
unfolding refused_line
refused-written number u v w = line-written number u v w
