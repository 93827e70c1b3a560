-- Numbers, stretches and counts, by computation.
use Prim.Native.Nat.{ℕ}
use mathlib.Core.Path.{◌≡◌, refl}
use mathlib.Core.Bool.{true, false}
use mathlib.Core.List.{List, [], ◌∷◌}
use lib.Dec.{eqb, ltb}
use Rattle.octets.specs.Bytes.{be16_at, be32_at, two, four}
use Rattle.octets.specs.Stretch.{part, rest, put, joined, lengths_of, cut_by}
use Rattle.octets.specs.Count.{any, least, sum_to, up_to}

numbers : (be16_at (0x12 ∷ 0x34 ∷ 0x56 ∷ []) 1 ≡ 0x3456) × (be32_at (0x12 ∷ 0x34 ∷ 0x56 ∷ 0x78 ∷ []) 0 ≡ 0x12345678)
    × (two 0x1234 ≡ 0x12 ∷ 0x34 ∷ []) × (four 0x12345678 ≡ 0x12 ∷ 0x34 ∷ 0x56 ∷ 0x78 ∷ [])
numbers = (refl, refl, refl, refl)

abbrev list : List ℕ
list = 10 ∷ 11 ∷ 12 ∷ 13 ∷ 14 ∷ []

stretches : (part list 1 3 ≡ 11 ∷ 12 ∷ 13 ∷ []) × (rest list 3 ≡ 13 ∷ 14 ∷ []) × (put list 1 (8 ∷ 9 ∷ []) ≡ 10 ∷ 8 ∷ 9 ∷ 13 ∷ 14 ∷ [])
    × (put list 5 [] ≡ list)
unfolding part rest put
stretches = (refl, refl, refl, refl)

back_to_back : (joined ((1 ∷ 2 ∷ []) ∷ (3 ∷ []) ∷ []) ≡ 1 ∷ 2 ∷ 3 ∷ []) × (lengths_of ((1 ∷ 2 ∷ []) ∷ (3 ∷ []) ∷ []) ≡ 2 ∷ 1 ∷ [])
    × (cut_by (2 ∷ 1 ∷ []) (1 ∷ 2 ∷ 3 ∷ 4 ∷ []) ≡ (1 ∷ 2 ∷ []) ∷ (3 ∷ []) ∷ [])
unfolding joined lengths_of cut_by
back_to_back = (refl, refl, refl)

counts : (any (eqb 3) 3 ≡ false) × (any (eqb 3) 4 ≡ true) × (least (ltb 1) 9 ≡ 2) × (least (ltb 9) 9 ≡ 9) × (sum_to (λ k. k) 4 ≡ 6)
    × (up_to (λ k. k) 3 ≡ 0 ∷ 1 ∷ 2 ∷ [])
unfolding any least sum_to up_to
counts = (refl, refl, refl, refl, refl, refl)
