-- Segments of which some are missing. Each carries the place of its packet, and a test says which places came; where one is missing,
-- what is held is lost. Said here: the walk along such segments, the frames whose every segment came, and one step of the walk in each
-- part of a frame.
use Prim.Native.Nat.{ℕ, ◌≤◌}
use mathlib.Core.Path.{◌≡◌, refl}
use mathlib.Core.Bool.{Bool, true, false, ◌&&◌}
use mathlib.Core.List.{List, [], ◌∷◌, ◌++◌, append_assoc}
use lib.ListN.{length}
use Rattle.octets.specs.Stretch.{part, rest, joined}
use Rattle.octets.proofs.Stretches.{joined-cons, joined_one}
use Rattle.flow.specs.Flow.{longest}
use Rattle.packet.specs.Segments.{Segment}
use Rattle.join.specs.Join.{Fate, dropping, settled_by, fate}
use Rattle.sender.specs.Rules.{Pieces}
use Rattle.promises.proofs.FromTheFront.{fate-begins, fate_joins, fate_misses, fate-goes_on}

-- a segment that came is joined; one that is missing loses what is held
abbrev pub attempt : Bool → List ℕ → Segment → Fate
attempt true held s = fate longest held s
attempt false held s = dropping held

abbrev pub walk : (ℕ → Bool) → List ℕ → List ℕ → List Segment → List (List ℕ)
walk came held [] segs = []
walk came held (k ∷ places) [] = []
walk came held (k ∷ places) (s ∷ segs) = (attempt (came k) held s).delivered ++ walk came (attempt (came k) held s).held places segs

abbrev pub every : (ℕ → Bool) → List ℕ → Bool
every came [] = true
every came (k ∷ places) = came k && every came places

abbrev pub keep : Bool → List ℕ → List (List ℕ) → List (List ℕ)
keep true frame frames = frame ∷ frames
keep false frame frames = frames

-- the frames whose every segment stands at a place that came
abbrev pub survivors : (ℕ → Bool) → List Pieces → List ℕ → List (List ℕ)
survivors came [] places = []
survivors came (f ∷ fs) places = keep (every came (part places 0 (length f))) (joined f) (survivors came fs (rest places (length f)))

-- what a segment gives, and all behind it; `onward` is the walk over the rest, by what is held
abbrev pub from : Bool → List ℕ → Segment → (List ℕ → List (List ℕ)) → List (List ℕ)
from t held s onward = (attempt t held s).delivered ++ onward (attempt t held s).held

-- no B and nothing held: the segment gives nothing
pub miss : (t ends : Bool) (p : List ℕ) (onward : List ℕ → List (List ℕ)) →
    from t [] (record { begins = false; ends = ends; body = p }) onward ≡ onward []
miss true ends p onward = rw (fate_misses ends p)
miss false ends p onward = refl

-- the last piece of a frame, behind others
pub last : (t : Bool) (x : ℕ) (h p : List ℕ) (onward : List ℕ → List (List ℕ)) → length ((x ∷ h) ++ p) ≤ longest →
    from t (x ∷ h) (record { begins = false; ends = true; body = p }) onward ≡ keep (t && true) ((x ∷ h) ++ joined (p ∷ [])) (onward [])
unfolding settled_by
last true x h p onward l = rw (fate_joins true x h p l, joined_one p)
last false x h p onward l = refl

-- one between; what is said of the rest of the frame is known, both where all came so far and where not
pub more : (t r : Bool) (x : ℕ) (h p : List ℕ) (ps : Pieces) (frames : List (List ℕ)) (onward : List ℕ → List (List ℕ)) →
    length ((x ∷ h) ++ p) ≤ longest →
    onward (x ∷ (h ++ p)) ≡ keep r ((x ∷ (h ++ p)) ++ joined ps) frames → onward [] ≡ frames →
    from t (x ∷ h) (record { begins = false; ends = false; body = p }) onward ≡ keep (t && r) ((x ∷ h) ++ joined (p ∷ ps)) frames
unfolding settled_by
more true r x h p ps frames onward l good bad = rw (fate_joins false x h p l, joined-cons p ps) (rw (← append_assoc h p (joined ps)) good)
more false r x h p ps frames onward l good bad = bad

-- the only piece of a frame
pub only : (t : Bool) (p : List ℕ) (onward : List ℕ → List (List ℕ)) → length p ≤ longest →
    from t [] (record { begins = true; ends = true; body = p }) onward ≡ keep (t && true) (joined (p ∷ [])) (onward [])
unfolding settled_by
only true p onward l = rw (fate-begins true [] p l, joined_one p)
only false p onward l = refl

-- the first of several
pub first : (t r : Bool) (p : List ℕ) (ps : Pieces) (frames : List (List ℕ)) (onward : List ℕ → List (List ℕ)) → length p ≤ longest →
    onward p ≡ keep r (p ++ joined ps) frames → onward [] ≡ frames →
    from t [] (record { begins = true; ends = false; body = p }) onward ≡ keep (t && r) (joined (p ∷ ps)) frames
unfolding settled_by
first true r p ps frames onward l good bad = rw (fate-begins false [] p l, joined-cons p ps) good
first false r p ps frames onward l good bad = bad

-- a segment without E gives nothing
pub no_frame : (t : Bool) (held : List ℕ) (s : Segment) → s.ends ≡ false → (attempt t held s).delivered ≡ []
no_frame true held s e = fate-goes_on held s e
no_frame false held s e = refl
