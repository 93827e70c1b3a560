-- Stretches of a list of bytes (or of 16-bit lengths): read out, replaced, laid back to back and taken apart again. These are
-- all the words that the rest has for cutting lists, and they are shut: what is known of them stands in proofs/Stretches.antt.
-- Wherever document 01 says that every other byte stays as it was, the definition says `put`.
use Rattle.std.specs.Prelude.{ℕ, ◌+◌, List, [], ◌∷◌, ◌++◌, length, take, drop}

-- the n elements from place `from` on
unfoldable pub part : List ℕ → ℕ → ℕ → List ℕ
part list from n = take n (drop from list)

-- all elements from place `from` on
unfoldable pub rest : List ℕ → ℕ → List ℕ
rest list from = drop from list

-- `list` with `new` in the place of as many elements from place `at` on, and all others as they were. (It is said only where the list
-- has so many: then it is as long as before, `length-put`.)
unfoldable pub put : List ℕ → ℕ → List ℕ → List ℕ
put list at new = take at list ++ new ++ drop (at + length new) list

-- stretches back to back, and the length of each
unfoldable pub joined : List (List ℕ) → List ℕ
joined [] = []
joined (s ∷ more) = s ++ joined more

unfoldable pub lengths_of : List (List ℕ) → List ℕ
lengths_of [] = []
lengths_of (s ∷ more) = length s ∷ lengths_of more

-- the other way: bytes taken apart again into stretches of the given lengths; what is left over belongs to none
unfoldable pub cut_by : List ℕ → List ℕ → List (List ℕ)
cut_by [] bytes = []
cut_by (n ∷ more) bytes = take n bytes ∷ cut_by more (drop n bytes)
