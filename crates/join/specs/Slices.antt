-- The slices that a packet's pieces are placed in (document 01, "The card in numbers"): the holding slice, and two for what comes out, the
-- frames back to back and their lengths.
use Rattle.std.specs.Prelude.{◌≡◌, ℕ, List}
use Rattle.join.specs.declared.Output.{Output}

-- The room that a call asks for in the two slices for what comes out. No packet fills more (`within_limits`).
abbrev pub most_frames : ℕ
most_frames = 127

abbrev pub most_bytes : ℕ
most_bytes = 6144

-- The slices, as they are lent or as they are left.
pub record Slices : Type 0 where
  pub holding : List ℕ
  pub output : List ℕ
  pub lengths : List ℕ

abbrev pub as_slices : List ℕ → List ℕ → List ℕ → Slices
as_slices holding output lengths = record { holding = holding; output = output; lengths = lengths }

-- .. where the two for what comes out are lent as one. That these are the same slices afterwards is said beside what has become of their
-- elements: so who lent them finds the elements there.
abbrev pub with_output : List ℕ → Output → Slices
with_output holding output = as_slices holding output.bytes.now output.lengths.now

abbrev pub SameSlices : Output → Output → Type 0
SameSlices before after = (after.bytes.ghost_name ≡ before.bytes.ghost_name) × (after.lengths.ghost_name ≡ before.lengths.ghost_name)
