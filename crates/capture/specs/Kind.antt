-- The kinds of entries as the code has them, and the number that specs/File.antt gives each. A byte is read as the kind whose number it is;
-- or as no kind, where the table of kinds has no such number.
use Rattle.std.specs.Prelude.{ℕ, ◌≡◌, false, Result, Ok, Err}
use Rattle.capture.specs.declared.Kind.{Kind}
use Rattle.capture.specs.declared.Kind.TheVariants as kind
use Rattle.capture.specs.declared.UnknownKind.{UnknownKind}
use Rattle.capture.specs.File.{open_psp, open_dmpt, closing, data_entry, data_over_udp, kinds, body_in, is_kind}

abbrev pub number_of : Kind → ℕ
number_of kind.OpenPsp = open_psp
number_of kind.OpenDmpt = open_dmpt
number_of kind.Close = closing
number_of kind.Data = data_entry
number_of kind.DataOverUdp = data_over_udp

abbrev pub Reads : ℕ → Result Kind UnknownKind → Type 0
Reads number (Ok k) = number ≡ number_of k
Reads number (Err unknown) = (is_kind (body_in kinds number) ≡ false) × (unknown.0 ≡ number)
