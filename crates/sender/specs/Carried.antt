-- What it means that segments carry the frames from one position to another: each carries the next bytes of the frame at which it stands,
-- at least one, and the segment behind it goes on from there. So the frames' bytes come in order, none twice and none left out, B is on a
-- frame's first segment and on no other, and E on its last and on no other.
use Rattle.std.specs.Prelude.{ℕ, ◌≤◌, ◌≡◌, List, [], ◌∷◌, length}
use Rattle.packet.specs.Segments.{Segment}
use Rattle.sender.specs.declared.Position.{Position}
use Rattle.sender.specs.Cut.{left_of, segment_from, after}

-- a segment of so many bytes of the frame at this position
pub record Carries (bytes lengths : List ℕ) (at : Position) (s : Segment) : Type 0 where
  pub some : 1 ≤ length s.body
  pub of_the_frame : length s.body ≤ left_of lengths at
  pub is_next : s ≡ segment_from bytes lengths at (length s.body)

abbrev pub Carried : List ℕ → List ℕ → Position → List Segment → Position → Type 0
Carried bytes lengths at [] end = at ≡ end
Carried bytes lengths at (s ∷ more) end = Carries bytes lengths at s × Carried bytes lengths (after lengths at (length s.body)) more end
