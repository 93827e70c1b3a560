-- That a capture goes on in the slices that were lent: so who lent them finds there what was written.
use Rattle.std.specs.Prelude.{◌≡◌}
use Rattle.capture.specs.declared.Capture.{Capture}
use Rattle.capture.specs.declared.Counted.{Counted}

abbrev pub SameSlices : Capture → Capture → Type 0
SameSlices before after = (after.contents.ghost_name ≡ before.contents.ghost_name) × (after.bodies.ghost_name ≡ before.bodies.ghost_name)

-- .. in the one slice, of as many entries
abbrev pub SameFile : Counted → Counted → Type 0
SameFile before after = (after.file.ghost_name ≡ before.file.ghost_name) × (after.count ≡ before.count)
