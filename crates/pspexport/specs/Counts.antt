-- What pspexport says on standard error of the entries that it left out: how many opens and how many closes (document 02, W5).
use Rattle.std.specs.Prelude.{ℕ, List, ◌++◌}
use Rattle.text.specs.Text.{ascii}
use Rattle.tool.specs.Line.{line_of}
use Rattle.pcap.specs.declared.export.Exported.{Exported}

unfoldable pub counts_of : Exported → List ℕ
counts_of exported = line_of (ascii "opens") exported.opens ++ line_of (ascii "closes") exported.closes

-- room for them, whatever numbers of 32 bits they are
abbrev pub counts_room : ℕ
counts_room = 35
