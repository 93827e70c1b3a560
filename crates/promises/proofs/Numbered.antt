-- The frames that are kept, by their numbers, so that two frames with equal bytes are told apart. Where more frames are whole, the numbers
-- of those that were kept before are among the numbers of those that are kept now.
use Prim.Native.Nat.{ℕ, suc, ◌≤◌, ◌<◌}
use mathlib.Core.Path.{◌≡◌, refl, sym, ap, subst}
use mathlib.Core.List.{List, [], ◌∷◌, map, Memᴰ}
use mathlib.Core.List.{Sublistᴰ}
use mathlib.Core.Logic.{⊎_elim}
use native.Mathlib.Omega.{arith}
use native.Mathlib.Nat.{eq-or-lt_of_le}
use lib.ListN.{length, drop, get_or}
use Rattle.octets.specs.Stretch.{joined}
use Rattle.octets.specs.Each.{Each}
use Rattle.octets.proofs.Elements.{drop-first, drop-others, drop-some, drop-none}
use Rattle.sender.specs.Rules.{Pieces}
use Rattle.promises.specs.Arrivals.{Kept, no_more, kept, lost}
use Rattle.promises.specs.Demand.{Rising}

-- the numbers of the frames that are kept
abbrev pub numbers_of : {whole : ℕ → Type 0} {i : ℕ} {fs : List Pieces} {out : List (List ℕ)} → Kept whole i fs out → List ℕ
numbers_of no_more = []
numbers_of (kept {i} w more) = i ∷ numbers_of more
numbers_of (lost w more) = numbers_of more

-- What these numbers are. Of all the frames those from number i on are looked at: the numbers rise, each is of a frame that was sent and is
-- whole, no whole frame is missing, and the bytes are theirs.
pub record Numbered (whole : ℕ → Type 0) (frames : List Pieces) (i : ℕ) (out : List (List ℕ)) (numbers : List ℕ) : Type 0 where
  pub in_order : Rising i numbers
  pub were_sent : Each (λ j. j < length frames) numbers
  pub all_whole : Each whole numbers
  pub no_other : (j : ℕ) → i ≤ j → j < length frames → whole j → Memᴰ j numbers
  pub their_bytes : out ≡ map (λ j. joined (get_or frames j [])) numbers

rising_less : (i : ℕ) (numbers : List ℕ) → Rising (suc i) numbers → Rising i numbers
rising_less i [] r = tt
rising_less i (n ∷ numbers) r = (omega arith, r.1)

module _ (whole : ℕ → Type 0) (frames : List Pieces) where
  pub numbered : {i : ℕ} {fs : List Pieces} {out : List (List ℕ)} → drop i frames ≡ fs → (k : Kept whole i fs out) →
      Numbered whole frames i out (numbers_of k)
  numbered {i} e no_more =
      record {
        in_order = tt;
        were_sent = tt;
        all_whole = tt;
        no_other = λ j from below w. absurd (omega (arith, drop-none frames i e));
        their_bytes = refl;
      }
  numbered {i} e (kept {f = f} {fs = fs} w more) =
      let r = numbered (drop-others f fs frames i e) more in
      record {
        in_order = (omega arith, r.in_order);
        were_sent = (drop-some f fs frames i e, r.were_sent);
        all_whole = (w, r.all_whole);
        no_other = λ j from below v.
            ⊎_elim (λ s. Memᴰ.head {xs = numbers_of more} (sym s)) (λ s. Memᴰ.tail (r.no_other j s below v))
            (eq-or-lt_of_le from);
        their_bytes = rw (drop-first f fs frames i [] e) (ap (λ rest. joined f ∷ rest) r.their_bytes);
      }
  numbered {i} e (lost {f = f} {fs = fs} w more) =
      let r = numbered (drop-others f fs frames i e) more in
      record {
        in_order = rising_less i (numbers_of more) r.in_order;
        were_sent = r.were_sent;
        all_whole = r.all_whole;
        no_other = λ j from below v. ⊎_elim (λ s. absurd (w (subst whole (sym s) v))) (λ s. r.no_other j s below v) (eq-or-lt_of_le from);
        their_bytes = r.their_bytes;
      }

-- what is kept where fewer frames are whole is among what is kept where more are
pub kept-among : {whole whole' : ℕ → Type 0} {i : ℕ} {fs : List Pieces} {out out' : List (List ℕ)} → ((j : ℕ) → whole j → whole' j) →
    (k : Kept whole i fs out) (k' : Kept whole' i fs out') → Sublistᴰ (numbers_of k) (numbers_of k')
kept-among m no_more no_more = Sublistᴰ.slnil
kept-among m (kept w more) (kept w' more') = Sublistᴰ.cons-cons refl (kept-among m more more')
kept-among m (kept {i} w more) (lost n more') = absurd (n (m i w))
kept-among m (lost n more) (kept w' more') = Sublistᴰ.cons (kept-among m more more')
kept-among m (lost n more) (lost n' more') = kept-among m more more'

-- Both together, for all frames: the numbers of what is kept, either way, and that the first are among the second.
pub record BothNumbered (whole whole' : ℕ → Type 0) (frames : List Pieces) (out out' : List (List ℕ)) : Type 0 where
  pub of_first : List ℕ
  pub of_second : List ℕ
  pub first : Numbered whole frames 0 out of_first
  pub second : Numbered whole' frames 0 out' of_second
  pub among : Sublistᴰ of_first of_second

pub kept_numbers : {whole whole' : ℕ → Type 0} {frames : List Pieces} {out out' : List (List ℕ)} → ((j : ℕ) → whole j → whole' j) →
    Kept whole 0 frames out → Kept whole' 0 frames out' → BothNumbered whole whole' frames out out'
kept_numbers {whole} {whole'} {frames} m k k' =
    record {
      of_first = numbers_of k;
      of_second = numbers_of k';
      first = numbered whole frames refl k;
      second = numbered whole' frames refl k';
      among = kept-among m k k';
    }
