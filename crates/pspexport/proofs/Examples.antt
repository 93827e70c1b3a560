-- The lines that pspexport says, by computation.
use mathlib.Core.Path.{◌≡◌, refl}
use Rattle.text.specs.Text.{ascii, column, decimal, digits}
use Rattle.pcap.specs.declared.export.Exported.{Exported}
use Rattle.pspexport.specs.Counts.{counts_of}

abbrev some : Exported
some = record { length = 607; packets = 7; opens = 1; closes = 12 }

pub said_of_some : counts_of some ≡ ascii "opens 1\ncloses 12\n"
unfolding counts_of column decimal digits
said_of_some = refl
