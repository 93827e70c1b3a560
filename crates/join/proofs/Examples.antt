-- The join rule computed at its limits. (Whole data calls are computed in crate `cases`, which has the time for it.)
use Rattle.std.proofs.Common.{◌≡◌, ℕ, Bool, true, false, List, [], ◌∷◌, ◌++◌, replicate, refl}
use Rattle.packet.specs.Segments.{Segment}
use Rattle.join.specs.Join.{delivering, dropping, keeping, settled_by, settled, fate_by, fate, at_gap, in_order, psp_fate}

-- The join rule at its limits: 2,047, 2,048 and 2,049 joined bytes, with E and without.
abbrev segment : Bool → Bool → ℕ → Segment
segment b e n = record { begins = b; ends = e; body = replicate n 9 }

joins : (fate 2048 (replicate 2046 1) (segment false true 1) ≡ delivering (replicate 2046 1 ++ (9 ∷ [])))
    × (fate 2048 (replicate 2047 1) (segment false true 1) ≡ delivering (replicate 2047 1 ++ (9 ∷ [])))
    × (fate 2048 (replicate 2048 1) (segment false true 1) ≡ dropping (replicate 2048 1 ++ (9 ∷ [])))
    × (fate 2048 (replicate 2047 1) (segment false false 1) ≡ keeping (replicate 2047 1 ++ (9 ∷ [])))
    × (fate 2048 (replicate 2048 1) (segment false false 1) ≡ dropping (replicate 2048 1 ++ (9 ∷ [])))
    × (fate 2048 [] (segment true true 2048) ≡ delivering (replicate 2048 9))
    × (fate 2048 [] (segment true true 2049) ≡ dropping (replicate 2049 9))
    × (fate 2048 [] (segment true false 2049) ≡ dropping (replicate 2049 9))
    × (fate 2048 (1 ∷ []) (segment false true 3) ≡ delivering (1 ∷ 9 ∷ 9 ∷ 9 ∷ []))
unfolding fate fate_by settled settled_by
joins = (refl, refl, refl, refl, refl, refl, refl, refl, refl)

-- B with bytes held drops those first; without B and with nothing held, the segment is dropped
begins : (fate 2048 (1 ∷ 2 ∷ []) (segment true true 3) ≡ record { delivered = (9 ∷ 9 ∷ 9 ∷ []) ∷ []; dropped = 1 ∷ 2 ∷ []; held = [] })
    × (fate 2048 (1 ∷ 2 ∷ []) (segment true false 3) ≡ record { delivered = []; dropped = 1 ∷ 2 ∷ []; held = 9 ∷ 9 ∷ 9 ∷ [] })
    × (fate 2048 (1 ∷ 2 ∷ []) (segment true true 2049) ≡ dropping (1 ∷ 2 ∷ replicate 2049 9))
    × (fate 2048 [] (segment false true 3) ≡ dropping (9 ∷ 9 ∷ 9 ∷ []))
    × (fate 2048 [] (segment false false 3) ≡ dropping (9 ∷ 9 ∷ 9 ∷ []))
unfolding fate fate_by settled settled_by
begins = (refl, refl, refl, refl, refl)

-- A gap, of 1 or of more, drops what is held before the first segment; the tail of an overlong frame is not held as a new one; frames
-- come out in the order of their segments; and the longest frame may be another.
abbrev frame : List ℕ → Segment
frame bytes = record { begins = true; ends = true; body = bytes }

in_order_lem : (psp_fate 2048 0 (1 ∷ 2 ∷ []) (segment false true 3 ∷ []) ≡ delivering (1 ∷ 2 ∷ 9 ∷ 9 ∷ 9 ∷ []))
    × (psp_fate 2048 1 (1 ∷ 2 ∷ []) (segment false true 3 ∷ []) ≡ dropping (1 ∷ 2 ∷ 9 ∷ 9 ∷ 9 ∷ []))
    × (psp_fate 2048 2 (1 ∷ 2 ∷ []) (segment false true 3 ∷ []) ≡ dropping (1 ∷ 2 ∷ 9 ∷ 9 ∷ 9 ∷ []))
    × (psp_fate 2048 0 (replicate 2048 1) (segment false false 1 ∷ []) ≡ dropping (replicate 2048 1 ++ (9 ∷ [])))
    × (psp_fate 2048 0 [] (segment false true 1 ∷ segment true true 2 ∷ segment true false 3 ∷ [])
    ≡ record { delivered = (9 ∷ 9 ∷ []) ∷ []; dropped = 9 ∷ []; held = 9 ∷ 9 ∷ 9 ∷ [] })
    × (psp_fate 2048 0 (7 ∷ []) (frame (1 ∷ []) ∷ frame (2 ∷ 3 ∷ []) ∷ [])
    ≡ record { delivered = (1 ∷ []) ∷ (2 ∷ 3 ∷ []) ∷ []; dropped = 7 ∷ []; held = [] })
    × (psp_fate 4 0 [] (frame (1 ∷ 2 ∷ 3 ∷ 4 ∷ []) ∷ []) ≡ delivering (1 ∷ 2 ∷ 3 ∷ 4 ∷ []))
    × (psp_fate 4 0 [] (frame (1 ∷ 2 ∷ 3 ∷ 4 ∷ 5 ∷ []) ∷ []) ≡ dropping (1 ∷ 2 ∷ 3 ∷ 4 ∷ 5 ∷ []))
unfolding psp_fate in_order at_gap fate fate_by settled settled_by
in_order_lem = (refl, refl, refl, refl, refl, refl, refl, refl)
