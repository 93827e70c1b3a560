-- Pieces passed on and dropped, computed at their limits.
use Prim.Native.Nat.{ℕ}
use mathlib.Core.Path.{◌≡◌, refl}
use mathlib.Core.Bool.{Bool, true, false}
use mathlib.Core.List.{List, [], ◌∷◌}
use lib.ListN.{replicate}
use Rattle.packet.specs.Segments.{Segment}
use Rattle.join.specs.Join.{delivering, dropping, in_order}
use Rattle.pass.specs.Pass.{pass_all, unnumbered_fate, dmpt_fate}

abbrev segment : Bool → Bool → ℕ → Segment
segment b e n = record { begins = b; ends = e; body = replicate n 9 }

abbrev frame : List ℕ → Segment
frame bytes = record { begins = true; ends = true; body = bytes }

-- Without a number what is held is dropped first, where the first segment would end it too. A whole frame is delivered at 2,047 bytes and
-- at 2,048, and dropped at 2,049; a segment without B, without E or without both is dropped.
each_segment : (unnumbered_fate 2048 (1 ∷ 2 ∷ []) (segment false true 3 ∷ []) ≡ dropping (1 ∷ 2 ∷ 9 ∷ 9 ∷ 9 ∷ []))
    × (unnumbered_fate 2048 [] (segment true true 2047 ∷ []) ≡ delivering (replicate 2047 9))
    × (unnumbered_fate 2048 [] (segment true true 2048 ∷ []) ≡ delivering (replicate 2048 9))
    × (unnumbered_fate 2048 [] (segment true true 2049 ∷ []) ≡ dropping (replicate 2049 9))
    × (unnumbered_fate 2048 [] (segment true false 1 ∷ []) ≡ dropping (9 ∷ []))
    × (unnumbered_fate 2048 [] (segment false true 1 ∷ []) ≡ dropping (9 ∷ []))
    × (unnumbered_fate 2048 [] (segment false false 1 ∷ []) ≡ dropping (9 ∷ []))
unfolding unnumbered_fate pass_all in_order
each_segment = (refl, refl, refl, refl, refl, refl, refl)

-- Several: the whole frames come out in their order, nothing is held behind them, and the longest frame may be another.
several : (unnumbered_fate 2048 (1 ∷ 2 ∷ []) (segment false true 3 ∷ frame (4 ∷ 5 ∷ []) ∷ frame (6 ∷ []) ∷ segment true false 2 ∷ [])
    ≡ record { delivered = (4 ∷ 5 ∷ []) ∷ (6 ∷ []) ∷ []; dropped = 1 ∷ 2 ∷ 9 ∷ 9 ∷ 9 ∷ 9 ∷ 9 ∷ []; held = [] })
    × (unnumbered_fate 4 (7 ∷ []) (frame (1 ∷ 2 ∷ 3 ∷ 4 ∷ []) ∷ frame (1 ∷ 2 ∷ 3 ∷ 4 ∷ 5 ∷ []) ∷ [])
    ≡ record { delivered = (1 ∷ 2 ∷ 3 ∷ 4 ∷ []) ∷ []; dropped = 7 ∷ 1 ∷ 2 ∷ 3 ∷ 4 ∷ 5 ∷ []; held = [] })
unfolding unnumbered_fate pass_all in_order
several = (refl, refl)

-- MPEG packets are told apart by all 13 bits of the PID, and by no other.
mpegs_by_pid : (dmpt_fate [] ((0x47 ∷ 0x1F ∷ 0xFF ∷ []) ∷ []) ≡ dropping (0x47 ∷ 0x1F ∷ 0xFF ∷ []))
    × (dmpt_fate [] ((0x47 ∷ 0xFF ∷ 0xFF ∷ []) ∷ []) ≡ dropping (0x47 ∷ 0xFF ∷ 0xFF ∷ []))
    × (dmpt_fate [] ((0x47 ∷ 0x0F ∷ 0xFF ∷ []) ∷ []) ≡ delivering (0x47 ∷ 0x0F ∷ 0xFF ∷ []))
    × (dmpt_fate [] ((0x47 ∷ 0x1F ∷ 0x7F ∷ []) ∷ []) ≡ delivering (0x47 ∷ 0x1F ∷ 0x7F ∷ []))
unfolding dmpt_fate pass_all in_order
mpegs_by_pid = (refl, refl, refl, refl)
