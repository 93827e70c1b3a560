-- Where packets are only lost, one lost fewer takes no frame away and alters none: a packet that is in time among fewer arrivals is so
-- among more, so a frame that is whole among fewer is whole among more, and demand 3 says of both what comes out.
use Prim.Native.Nat.{ℕ, suc, ◌≤◌}
use mathlib.Core.Path.{◌≡◌, sym, ◌∙◌}
use mathlib.Core.Bool.{Bool, true, false, cond, false≢true}
use mathlib.Core.List.{List, [], ◌∷◌, Memᴰ, Sublistᴰ}
use native.Mathlib.Omega.{arith}
use lib.Dec.{ltb, eqb}
use borrow.Author.Tests.{lt-ltb, le-ltb, eq-eqb, eqb-true}
use Rattle.octets.proofs.Elements.{each_too}
use Rattle.packet.specs.Header.{Packet}
use Rattle.sender.specs.Rules.{Pieces}
use Rattle.promises.specs.Arrivals.{InTime, in_time, carriers, Whole}
use Rattle.promises.specs.Demand.{Sending, Run, comes_out, WholeIn, Demand3, Rising, ComeOut, FewerLost}
use Rattle.promises.proofs.InTime.{in_time_is_meant}
use Rattle.promises.proofs.Numbered.{Numbered, BothNumbered, kept_numbers}

-- Arrivals that rise: to arrive is to arrive in time.
in_time_arrives : (xs : List ℕ) (k : ℕ) → in_time xs k ≡ true → Memᴰ k xs
unfolding in_time
in_time_arrives [] k e = absurd (false≢true e)
in_time_arrives (x ∷ xs) k e = pick (ltb x k) (in_time_arrives xs k) e
  where
    pick : (t : Bool) → (in_time xs k ≡ true → Memᴰ k xs) → cond t (in_time xs k) (eqb x k) ≡ true → Memᴰ k (x ∷ xs)
    pick true later e' = Memᴰ.tail (later e')
    pick false later e' = Memᴰ.head (sym (eqb-true x k e'))

rises_from : (n : ℕ) (xs : List ℕ) (k : ℕ) → Rising n xs → Memᴰ k xs → n ≤ k
rises_from n [] k r m = elim m [ ]
rises_from n (x ∷ xs) k r (Memᴰ.head e) = omega arith
rises_from n (x ∷ xs) k r (Memᴰ.tail m) = omega (arith, rises_from (suc x) xs k r.1 m)

arrives_in_time : (n : ℕ) (xs : List ℕ) (k : ℕ) → Rising n xs → Memᴰ k xs → in_time xs k ≡ true
unfolding in_time
arrives_in_time n [] k r m = elim m [ ]
arrives_in_time n (x ∷ xs) k r (Memᴰ.head e) = rw (le-ltb x k (omega arith)) (eq-eqb x k (sym e))
arrives_in_time n (x ∷ xs) k r (Memᴰ.tail m) =
    rw (lt-ltb x k (rises_from (suc x) xs k r.1 m)) (arrives_in_time (suc x) xs k r.1 m)

arrives_too : {xs ys : List ℕ} → Sublistᴰ xs ys → (k : ℕ) → Memᴰ k xs → Memᴰ k ys
arrives_too Sublistᴰ.slnil k m = m
arrives_too (Sublistᴰ.cons s) k m = Memᴰ.tail (arrives_too s k m)
arrives_too (Sublistᴰ.cons-cons e s) k (Memᴰ.head d) = Memᴰ.head (d ∙ e)
arrives_too (Sublistᴰ.cons-cons e s) k (Memᴰ.tail m) = Memᴰ.tail (arrives_too s k m)

pub only_lost : {xs ys : List ℕ} → Rising 0 ys → Sublistᴰ xs ys → (k : ℕ) → InTime xs k → InTime ys k
only_lost {xs} {ys} q among k t =
    (in_time_is_meant ys k).0 (arrives_in_time 0 ys k q (arrives_too among k (in_time_arrives xs k ((in_time_is_meant xs k).1 t))))

-- and so a frame that is whole among fewer arrivals is whole among more
pub whole_too : {xs ys : List ℕ} → Rising 0 ys → Sublistᴰ xs ys → (frames : List Pieces) (packets : List Packet) (i : ℕ) →
    Whole xs frames packets i → Whole ys frames packets i
whole_too {xs} {ys} q among frames packets i w = each_too (InTime xs) (InTime ys) (carriers frames packets i) (only_lost q among) w

-- the frames of a run by their numbers, as demand 3 gives them
come_out_by : (s : Sending) (r : Run s) (numbers : List ℕ) → Numbered (WholeIn s r) s.frames 0 (comes_out s r) numbers →
    ComeOut s r numbers
come_out_by s r numbers n =
    record {
      in_order = n.in_order;
      were_sent = n.were_sent;
      all_whole = n.all_whole;
      no_other = λ i below w. n.no_other i (omega arith) below w;
      their_bytes = n.their_bytes;
    }

-- `fewer_lost` follows from demand 3
pub fewer_by_demand : Demand3 → FewerLost
fewer_by_demand demand s worse better q among =
    let whole : (i : ℕ) → WholeIn s worse i → WholeIn s better i = whole_too q among s.frames s.packets in
    let b : BothNumbered (WholeIn s worse) (WholeIn s better) s.frames (comes_out s worse) (comes_out s better) =
    kept_numbers whole (demand s worse) (demand s better) in
    record {
      of_worse = b.of_first;
      of_better = b.of_second;
      come_out = come_out_by s worse b.of_first b.first;
      come_out_too = come_out_by s better b.of_second b.second;
      among = b.among;
    }
