-- The lines that pspimport says of examples/site.pcap, and of great numbers, by computation.
use mathlib.Core.Path.{◌≡◌, refl}
use Rattle.text.specs.Text.{ascii, column, decimal, digits}
use Rattle.pcap.specs.declared.import.Imported.{Imported}
use Rattle.pspimport.specs.Counts.{counts_of}

abbrev site : Imported
site = record { length = 271; packets = 8; foreign = 3; misfits = 2; fragments = 1; others = 4 }

pub said_of_site : counts_of site ≡ ascii "not-ipv4 3\nbad-lengths 2\nfragment 1\nother 4\n"
unfolding counts_of column decimal digits
said_of_site = refl

abbrev long : Imported
long = record { length = 2; packets = 0; foreign = 262142; misfits = 0; fragments = 10; others = 999 }

pub said_of_long : counts_of long ≡ ascii "not-ipv4 262142\nbad-lengths 0\nfragment 10\nother 999\n"
unfolding counts_of column decimal digits
said_of_long = refl
