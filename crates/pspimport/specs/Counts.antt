-- What pspimport says on standard error of the records that it skipped: how many for each cause, in the order in which document 02 has the
-- causes (W5).
use Rattle.std.specs.Prelude.{ℕ, List, ◌++◌}
use Rattle.text.specs.Text.{ascii}
use Rattle.tool.specs.Line.{line_of}
use Rattle.pcap.specs.declared.import.Imported.{Imported}

unfoldable pub counts_of : Imported → List ℕ
counts_of imported =
    line_of (ascii "not-ipv4") imported.foreign
    ++ line_of (ascii "bad-lengths") imported.misfits
    ++ line_of (ascii "fragment") imported.fragments
    ++ line_of (ascii "other") imported.others

-- room for them, whatever numbers of 32 bits they are
abbrev pub counts_room : ℕ
counts_room = 80
