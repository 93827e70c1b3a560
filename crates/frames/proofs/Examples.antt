-- Two frames, written and read, by computation.
use Prim.Native.Nat.{ℕ}
use mathlib.Core.Path.{◌≡◌, refl}
use mathlib.Core.List.{List, [], ◌∷◌}
use Rattle.octets.specs.Stretch.{part, rest, joined}
use Rattle.frames.specs.Frames.{frames_file, whole_frames, left_behind}

abbrev frames : List (List ℕ)
frames = (0xA0 ∷ 0xA1 ∷ []) ∷ [] ∷ (0xB0 ∷ []) ∷ []

-- a frame without bytes is a frame
abbrev file : List ℕ
file = 0 ∷ 2 ∷ 0xA0 ∷ 0xA1 ∷ 0 ∷ 0 ∷ 0 ∷ 1 ∷ 0xB0 ∷ []

pub written : frames_file frames ≡ file
unfolding frames_file joined
written = refl

pub read : (whole_frames 3 file ≡ frames) × (left_behind 3 file ≡ [])
unfolding whole_frames left_behind part rest
read = (refl, refl)

-- fewer are taken where fewer are asked for; and a file that is cut short leaves what was to be a frame
pub some_read : (whole_frames 1 file ≡ (0xA0 ∷ 0xA1 ∷ []) ∷ []) × (left_behind 1 file ≡ 0 ∷ 0 ∷ 0 ∷ 1 ∷ 0xB0 ∷ [])
unfolding whole_frames left_behind part rest
some_read = (refl, refl)

abbrev cut : List ℕ
cut = 0 ∷ 1 ∷ 0xC0 ∷ 0 ∷ 2 ∷ 0xA0 ∷ []

pub cut_short : (whole_frames 3 cut ≡ (0xC0 ∷ []) ∷ []) × (left_behind 3 cut ≡ 0 ∷ 2 ∷ 0xA0 ∷ [])
unfolding whole_frames left_behind part rest
cut_short = (refl, refl)

-- the most significant byte of a length comes first
pub long_frame : left_behind 1 (1 ∷ 0 ∷ 0xA0 ∷ []) ≡ 1 ∷ 0 ∷ 0xA0 ∷ []
unfolding left_behind
long_frame = refl
