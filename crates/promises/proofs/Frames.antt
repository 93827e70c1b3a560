-- Walked with the test of which places came, the segments of a sender give the frames whose every segment came, and no others.
use Prim.Native.Nat.{ℕ, suc, ◌+◌, ◌≤◌}
use mathlib.Core.Path.{◌≡◌, refl, ap, ◌∙◌}
use mathlib.Core.Bool.{Bool, true, false}
use mathlib.Core.List.{List, [], ◌∷◌, ◌++◌, append_assoc}
use native.Mathlib.Omega.{arith}
use lib.ListN.{length, length-append}
use Rattle.octets.specs.Stretch.{part, rest, joined}
use Rattle.octets.proofs.Stretches.{part_none, part_front, length_rest, rest-none, rest-nil, rest-cons, length-joined, length-joined-none}
use Rattle.octets.specs.Each.{Each}
use Rattle.flow.specs.Flow.{longest}
use Rattle.packet.specs.Segments.{Segment}
use Rattle.sender.specs.Rules.{Pieces, FrameSized, whole_frame, begun_frame, in_turn}
use Rattle.sender.proofs.Pieces.{Filled}
use Rattle.promises.proofs.Walk.{attempt, walk, every, keep, survivors, miss, last, more, only, first, no_frame}

-- a frame has as many segments as pieces
pub frame_length : (b : Bool) (f : Pieces) → length (whole_frame b f) ≡ length f
unfolding whole_frame
frame_length b [] = refl
frame_length b (p ∷ []) = refl
frame_length b (p ∷ q ∷ ps) = ap suc (frame_length false (q ∷ ps))

module _ (came : ℕ → Bool) where
  -- nothing held and no B: nothing comes of the rest of the frame
  broken : (ps : Pieces) (ks : List ℕ) (ss : List Segment) →
      walk came [] ks (whole_frame false ps ++ ss) ≡ walk came [] (rest ks (length ps)) ss
  unfolding whole_frame
  broken [] ks ss = rw (rest-none ks) refl
  broken (p ∷ []) [] ss = rw (rest-nil 1) refl
  broken (p ∷ []) (k ∷ ks) ss = rw (rest-cons k ks 0, rest-none ks) (miss (came k) true p (λ h. walk came h ks ss))
  broken (p ∷ q ∷ ps) [] ss = rw (rest-nil (length (p ∷ q ∷ ps))) refl
  broken (p ∷ q ∷ ps) (k ∷ ks) ss =
      rw (rest-cons k ks (length (q ∷ ps)))
      (miss (came k) false p (λ h. walk came h ks (whole_frame false (q ∷ ps) ++ ss)) ∙ broken (q ∷ ps) ks ss)

  -- x ∷ h is all that came of the frame so far
  going : (x : ℕ) (h : List ℕ) (ps : Pieces) (ks : List ℕ) (ss : List Segment) → 1 ≤ length ps →
      length (x ∷ h) + length (joined ps) ≤ longest → length ps ≤ length ks →
      walk came (x ∷ h) ks (whole_frame false ps ++ ss)
      ≡ keep (every came (part ks 0 (length ps))) ((x ∷ h) ++ joined ps) (walk came [] (rest ks (length ps)) ss)
  unfolding whole_frame
  going x h [] ks ss some fits enough = absurd (omega arith)
  going x h (p ∷ []) [] ss some fits enough = absurd (omega arith)
  going x h (p ∷ []) (k ∷ ks) ss some fits enough =
      rw (part_front k ks 0, part_none ks 0, rest-cons k ks 0, rest-none ks)
      (last (came k) x h p (λ i. walk came i ks ss) (omega (arith, fits, length-append (x ∷ h) p, length-joined p [])))
  going x h (p ∷ q ∷ ps) [] ss some fits enough = absurd (omega arith)
  going x h (p ∷ q ∷ ps) (k ∷ ks) ss some fits enough =
      let n = length (q ∷ ps) in
      rw (part_front k ks n, rest-cons k ks n)
      (more (came k) (every came (part ks 0 n)) x h p (q ∷ ps) (walk came [] (rest ks n) ss)
      (λ i. walk came i ks (whole_frame false (q ∷ ps) ++ ss))
      (omega (arith, fits, length-append (x ∷ h) p, length-joined p (q ∷ ps)))
      (going x (h ++ p) (q ∷ ps) ks ss (omega arith) (omega (arith, fits, length-append h p, length-joined p (q ∷ ps))) (omega arith))
      (broken (q ∷ ps) ks ss))

  -- one frame: it is given where its every segment came, and nothing of it stays held
  whole : (f : Pieces) (ks : List ℕ) (ss : List Segment) → FrameSized f → Each Filled f → length f ≤ length ks →
      walk came [] ks (whole_frame true f ++ ss)
      ≡ keep (every came (part ks 0 (length f))) (joined f) (walk came [] (rest ks (length f)) ss)
  unfolding whole_frame
  whole [] ks ss sized filled enough = absurd (omega (arith, sized.0, length-joined-none))
  whole (p ∷ []) [] ss sized filled enough = absurd (omega arith)
  whole (p ∷ []) (k ∷ ks) ss sized filled enough =
      rw (part_front k ks 0, part_none ks 0, rest-cons k ks 0, rest-none ks)
      (only (came k) p (λ i. walk came i ks ss) (omega (arith, sized.1, length-joined p [])))
  whole (p ∷ q ∷ ps) [] ss sized filled enough = absurd (omega arith)
  whole ([] ∷ q ∷ ps) (k ∷ ks) ss sized filled enough = absurd (omega (arith, filled.0))
  whole ((x ∷ h) ∷ q ∷ ps) (k ∷ ks) ss sized filled enough =
      let n = length (q ∷ ps) in
      rw (part_front k ks n, rest-cons k ks n)
      (first (came k) (every came (part ks 0 n)) (x ∷ h) (q ∷ ps) (walk came [] (rest ks n) ss)
      (λ i. walk came i ks (whole_frame false (q ∷ ps) ++ ss))
      (omega (arith, sized.1, length-joined (x ∷ h) (q ∷ ps)))
      (going x h (q ∷ ps) ks ss (omega arith) (omega (arith, sized.1, length-joined (x ∷ h) (q ∷ ps))) (omega arith))
      (broken (q ∷ ps) ks ss))

  -- a frame that is not finished is not delivered
  unended : (first : Bool) (held : List ℕ) (ks : List ℕ) (ps : Pieces) → walk came held ks (begun_frame first ps) ≡ []
  unfolding begun_frame
  unended first held [] ps = refl
  unended first held (k ∷ ks) [] = refl
  unended first held (k ∷ ks) (p ∷ ps) =
      let s : Segment = record { begins = first; ends = false; body = p } in
      rw (no_frame (came k) held s refl) (unended false (attempt (came k) held s).held ks ps)

  -- all frames, and behind them the one that is not finished
  pub frames_survive : (fs : List Pieces) (unfinished : Pieces) (ks : List ℕ) → Each FrameSized fs → Each (Each Filled) fs →
      length (in_turn fs ++ begun_frame true unfinished) ≤ length ks →
      walk came [] ks (in_turn fs ++ begun_frame true unfinished) ≡ survivors came fs ks
  unfolding in_turn
  frames_survive [] unfinished ks sized filled enough = unended true [] ks unfinished
  frames_survive (f ∷ fs) unfinished ks sized filled enough =
      let others : List Segment = in_turn fs ++ begun_frame true unfinished in
      let split = append_assoc (whole_frame true f) (in_turn fs) (begun_frame true unfinished) in
      let n : length f + length others ≤ length ks =
      omega (arith, enough, length-append (whole_frame true f) others, frame_length true f, ap length split) in
      rw split
      (whole f ks others sized.0 filled.0 (omega arith)
      ∙ ap (keep (every came (part ks 0 (length f))) (joined f))
      (frames_survive fs unfinished (rest ks (length f)) sized.1 filled.1 (omega (arith, length_rest ks (length f)))))
