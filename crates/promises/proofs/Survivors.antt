-- The frames that survive the walk are the whole ones: told by the list that is left on the way, and told by number.
use Prim.Native.Nat.{ℕ, suc, ◌+◌}
use mathlib.Core.Path.{◌≡◌, refl, sym, ap, ◌∙◌}
use mathlib.Core.Bool.{Bool, true, false, false≢true}
use mathlib.Core.List.{List, [], ◌∷◌}
use lib.ListN.{length, drop, get_or}
use Rattle.refusal.proofs.Laws.{and_left, and_right}
use Rattle.octets.specs.Stretch.{part, rest, joined}
use Rattle.octets.proofs.Stretches.{part-rest_front, rest-none, rest-rest}
use Rattle.octets.proofs.Elements.{drop-first, drop-others}
use Rattle.octets.specs.Count.{sum_to}
use Rattle.octets.specs.Each.{Each}
use Rattle.packet.specs.Header.{Packet}
use Rattle.sender.specs.Rules.{Pieces}
use Rattle.promises.specs.Arrivals.{InTime, in_time, places_from, carriers, Whole, Kept, no_more, kept, lost}
use Rattle.promises.proofs.InTime.{in_time_is_meant}
use Rattle.promises.proofs.Walk.{every, keep, survivors}

-- the test of a list of places, and its meaning
every_means : (arrivals ks : List ℕ) → every (in_time arrivals) ks ≡ true → Each (InTime arrivals) ks
every_means arrivals [] e = tt
every_means arrivals (k ∷ ks) e =
    let here = in_time arrivals k in
    let behind = every (in_time arrivals) ks in
    ((in_time_is_meant arrivals k).0 (and_left here behind e), every_means arrivals ks (and_right here behind e))

meant_every : (arrivals ks : List ℕ) → Each (InTime arrivals) ks → every (in_time arrivals) ks ≡ true
meant_every arrivals [] e = refl
meant_every arrivals (k ∷ ks) e = rw ((in_time_is_meant arrivals k).1 e.0) (meant_every arrivals ks e.1)

module _ (arrivals : List ℕ) (frames : List Pieces) (packets : List Packet) where
  abbrev before : ℕ → ℕ
  before i = sum_to (λ j. length (get_or frames j [])) i

  -- one frame, by the test of its places
  one_kept : (t : Bool) (i : ℕ) (f : Pieces) (fs : List Pieces) (out : List (List ℕ)) →
      every (in_time arrivals) (carriers frames packets i) ≡ t →
      Kept (Whole arrivals frames packets) (suc i) fs out → Kept (Whole arrivals frames packets) i (f ∷ fs) (keep t (joined f) out)
  one_kept true i f fs out e more = kept (every_means arrivals (carriers frames packets i) e) more
  one_kept false i f fs out e more = lost (λ w. false≢true (sym e ∙ meant_every arrivals (carriers frames packets i) w)) more

  -- from frame number i on: `fs` are the frames still to come and `ks` the places of their segments
  kept_from : (i : ℕ) (fs : List Pieces) (ks : List ℕ) → drop i frames ≡ fs → rest (places_from 0 packets) (before i) ≡ ks →
      Kept (Whole arrivals frames packets) i fs (survivors (in_time arrivals) fs ks)
  unfolding carriers sum_to
  kept_from i [] ks here there = no_more
  kept_from i (f ∷ fs) ks here there =
      let places = places_from 0 packets in
      let n = length f in
      let f-is : get_or frames i [] ≡ f = drop-first f fs frames i [] here in
      let its-places : carriers frames packets i ≡ part ks 0 n =
      ap (λ (g : Pieces). part places (before i) (length g)) f-is
      ∙ sym (part-rest_front places (before i) n)
      ∙ ap (λ (l : List ℕ). part l 0 n) there in
      let others : rest places (before i + length (get_or frames i [])) ≡ rest ks n =
      ap (λ (g : Pieces). rest places (before i + length g)) f-is
      ∙ sym (rest-rest places (before i) n)
      ∙ ap (λ (l : List ℕ). rest l n) there in
      one_kept (every (in_time arrivals) (part ks 0 n)) i f fs (survivors (in_time arrivals) fs (rest ks n))
      (ap (every (in_time arrivals)) its-places)
      (kept_from (suc i) fs (rest ks n) (drop-others f fs frames i here) others)

  pub survivors_kept : Kept (Whole arrivals frames packets) 0 frames (survivors (in_time arrivals) frames (places_from 0 packets))
  unfolding sum_to
  survivors_kept = kept_from 0 frames (places_from 0 packets) refl (rest-none (places_from 0 packets))
