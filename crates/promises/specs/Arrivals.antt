-- The network (document 01, "Demand 3 and the next rule suppose"). The sender's packets have the places 0, 1, 2, .. in the order of
-- sending, and no two have the same place, however often the 16-bit numbers have begun again. An arrival is the place of the packet that
-- arrives: so one list of places says what was lost, what came again and what came late.
use Rattle.std.specs.Prelude.{ℕ, suc, ◌+◌, ◌≤◌, ◌<◌, max, ◌≡◌, Bool, true, false, cond, List, [], ◌∷◌, ◌++◌, ltb, eqb, length, get_or, replicate}
use Rattle.octets.specs.Stretch.{part, joined}
use Rattle.octets.specs.Count.{sum_to}
use Rattle.octets.specs.Each.{Each}
use Rattle.flow.specs.Flow.{half}
use Rattle.packet.specs.Header.{Packet, sub, segment_count}
use Rattle.sender.specs.Rules.{Pieces}

-- The bound: each arrival after the first is less than 32,768 places ahead of the place expected next, and at most 32,768 behind it.
-- Expected next is the place behind the farthest that has arrived.
abbrev pub WithinBound : ℕ → List ℕ → Type 0
WithinBound expected [] = Unit {0}
WithinBound expected (x ∷ more) = (x < expected + half) × (expected ≤ x + half) × WithinBound (max expected (suc x)) more

abbrev pub Window : List ℕ → Type 0
Window [] = Unit {0}
Window (x ∷ more) = WithinBound (suc x) more

-- The packet at place k arrived before any packet sent after it: there is an arrival of it, and no earlier arrival is of a later packet.
pub record InTime (arrivals : List ℕ) (k : ℕ) : Type 0 where
  pub arrival : ℕ
  pub there : arrival < length arrivals
  pub of_it : get_or arrivals arrival 0 ≡ k
  pub none_later : (j : ℕ) → j < arrival → get_or arrivals j 0 ≤ k

-- The same as a test: of the arrivals that are not of earlier packets the first is of this one.
unfoldable pub in_time : List ℕ → ℕ → Bool
in_time [] k = false
in_time (x ∷ more) k = cond (ltb x k) (in_time more k) (eqb x k)

-- `in_time_is_meant`: test and meaning agree.
abbrev pub InTimeIsMeant : Type 0
InTimeIsMeant =
    (arrivals : List ℕ) (k : ℕ) → (in_time arrivals k ≡ true → InTime arrivals k) × (InTime arrivals k → in_time arrivals k ≡ true)

-- the place of the packet of each segment, in the order of sending
unfoldable pub places_from : ℕ → List Packet → List ℕ
places_from n [] = []
places_from n (p ∷ more) = replicate (segment_count (sub p)) n ++ places_from (suc n) more

-- the places of the packets that carry frame number i: those of its segments, which stand behind the segments of the frames before it
unfoldable pub carriers : List Pieces → List Packet → ℕ → List ℕ
carriers frames packets i =
    part (places_from 0 packets) (sum_to (λ j. length (get_or frames j [])) i) (length (get_or frames i []))

-- frame number i: every packet of it arrived before any packet sent after that one
abbrev pub Whole : List ℕ → List Pieces → List Packet → ℕ → Type 0
Whole arrivals frames packets i = Each (InTime arrivals) (carriers frames packets i)

-- `out` is what remains of the frames, numbered from i on, when exactly the whole ones are kept: their bytes as they were, in order.
pub data Kept (whole : ℕ → Type 0) : ℕ → List Pieces → List (List ℕ) → Type 0 where
  no_more : {i : ℕ} → Kept whole i [] []
  kept : {i : ℕ} {f : Pieces} {fs : List Pieces} {out : List (List ℕ)} → whole i → Kept whole (suc i) fs out →
      Kept whole i (f ∷ fs) (joined f ∷ out)
  lost : {i : ℕ} {f : Pieces} {fs : List Pieces} {out : List (List ℕ)} → (whole i → ⊥) → Kept whole (suc i) fs out →
      Kept whole i (f ∷ fs) out
