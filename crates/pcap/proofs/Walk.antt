-- A walk over a file's records: one step, that the definitions' bound on the steps (as many as the file has bytes) never cuts it short,
-- where it stops, and that records with their headers are never more than the file has. A loop over a file carries the records still to
-- come, `records_from (length file) file at little`, and where the walk will stop, `place_from (length file) file at little`.
use Prim.Native.Nat.{ℕ, zero, suc, ◌+◌, ◌-◌, ◌*◌, ◌<◌, ◌≤◌}
use mathlib.Core.Path.{◌≡◌, refl, sym, ap, ◌∙◌}
use mathlib.Core.Bool.{Bool, true, false, cond, and-true}
use mathlib.Core.List.{List, [], ◌∷◌}
use mathlib.Core.Logic.{⊎_elim}
use native.Mathlib.Omega.{arith}
use lib.Dec.{ltb}
use lib.ListN.{length}
use denote.Ref.{Bor}
use Rattle.refusal.specs.Refusal.{first, ◌when◌}
use Rattle.refusal.proofs.Laws.{cond-true, cond-false}
use Rattle.octets.specs.Stretch.{joined}
use Rattle.octets.proofs.Counts.{true-or-false}
use Rattle.octets.proofs.Stretches.{length-joined-none, length-joined}
use Rattle.octets.specs.Order.{u32_at}
use Rattle.pcap.specs.File.{is_little, bad_header, left, whole, after, bytes_at, records_from, place_from, wire_from, first_place}
use Rattle.pcap.specs.File.{records, last_place, stops}
use Rattle.pcap.specs.Reader.{opened, moved, handed_out}
use Rattle.pcap.specs.declared.reader.Reader.{Reader}
use Rattle.pcap.proofs.Reading.{first-inside, whole-short, whole-inside, size-whole, after-whole, length_bytes}

-- One step, n + 1 at most: at a whole record, and where there is none.
module _ (n : ℕ) (file : List ℕ) (at : ℕ) (little : Bool) where
  pub records_more : whole file at little ≡ true →
      records_from (suc n) file at little ≡ bytes_at file at little ∷ records_from n file (after file at little) little
  unfolding records_from
  records_more h = cond-true _ _ _ h

  pub place_more : whole file at little ≡ true → place_from (suc n) file at little ≡ place_from n file (after file at little) little
  unfolding place_from
  place_more h = cond-true _ _ _ h

  pub wire_more : whole file at little ≡ true →
      wire_from (suc n) file at little ≡ u32_at little file (at + 12) ∷ wire_from n file (after file at little) little
  unfolding wire_from
  wire_more h = cond-true _ _ _ h

pub records_end : (n : ℕ) (file : List ℕ) (at : ℕ) (little : Bool) → whole file at little ≡ false → records_from n file at little ≡ []
unfolding records_from
records_end zero file at little h = refl
records_end (suc n) file at little h = cond-false _ _ _ h

pub place_end : (n : ℕ) (file : List ℕ) (at : ℕ) (little : Bool) → whole file at little ≡ false → place_from n file at little ≡ at
unfolding place_from
place_end zero file at little h = refl
place_end (suc n) file at little h = cond-false _ _ _ h

pub wire_end : (n : ℕ) (file : List ℕ) (at : ℕ) (little : Bool) → whole file at little ≡ false → wire_from n file at little ≡ []
unfolding wire_from
wire_end zero file at little h = refl
wire_end (suc n) file at little h = cond-false _ _ _ h

-- A step leaves less of the file, and stays in it.
module _ (file : List ℕ) (at : ℕ) (little : Bool) (h : whole file at little ≡ true) where
  pub step_falls : left file (after file at little) < left file at
  step_falls = omega (arith, whole-inside file at little h, after-whole file at little h)

  pub step_inside : after file at little ≤ length file
  step_inside = omega (arith, whole-inside file at little h, after-whole file at little h)

-- By whether a whole record stands at a place; where no byte is left, none does.
module _ {X : Type 0} (file : List ℕ) (at : ℕ) (little : Bool) where
  pub whole-or-not : (whole file at little ≡ true → X) → (whole file at little ≡ false → X) → X
  whole-or-not there none = ⊎_elim there none (true-or-false (whole file at little))

none_left : (file : List ℕ) (at : ℕ) (little : Bool) → left file at ≤ 0 → whole file at little ≡ false
none_left file at little e = whole-short file at little (omega (arith, e))

-- The bound is enough: any two that are not less than the bytes left come to the same.
module _ (file : List ℕ) (little : Bool) where
  records_none : (n m at : ℕ) → whole file at little ≡ false → records_from n file at little ≡ records_from m file at little
  records_none n m at h = records_end n file at little h ∙ sym (records_end m file at little h)

  pub records_enough : (n m at : ℕ) → left file at ≤ n → left file at ≤ m → records_from n file at little ≡ records_from m file at little
  records_enough zero m at en em = records_none zero m at (none_left file at little en)
  records_enough (suc n) zero at en em = records_none (suc n) zero at (none_left file at little em)
  records_enough (suc n) (suc m) at en em =
      whole-or-not file at little
      (λ h.
      let falls = step_falls file at little h in
      let same = records_enough n m (after file at little) (omega (arith, en, falls)) (omega (arith, em, falls)) in
      records_more n file at little h
      ∙ ap (λ (l : List (List ℕ)). bytes_at file at little ∷ l) same
      ∙ sym (records_more m file at little h))
      (records_none (suc n) (suc m) at)

  place_none : (n m at : ℕ) → whole file at little ≡ false → place_from n file at little ≡ place_from m file at little
  place_none n m at h = place_end n file at little h ∙ sym (place_end m file at little h)

  pub place-enough : (n m at : ℕ) → left file at ≤ n → left file at ≤ m → place_from n file at little ≡ place_from m file at little
  place-enough zero m at en em = place_none zero m at (none_left file at little en)
  place-enough (suc n) zero at en em = place_none (suc n) zero at (none_left file at little em)
  place-enough (suc n) (suc m) at en em =
      whole-or-not file at little
      (λ h.
      let falls = step_falls file at little h in
      let same = place-enough n m (after file at little) (omega (arith, en, falls)) (omega (arith, em, falls)) in
      place_more n file at little h ∙ same ∙ sym (place_more m file at little h))
      (place_none (suc n) (suc m) at)

-- So a step at a whole record leaves the rest to the same bound.
module _ (file : List ℕ) (at : ℕ) (little : Bool) (h : whole file at little ≡ true) where
  abbrev fewer : ℕ
  fewer = length file - 1

  one_fewer : length file ≡ suc fewer
  one_fewer = omega (arith, whole-inside file at little h)

  still_enough : left file (after file at little) ≤ fewer
  still_enough = omega (arith, step_falls file at little h)

  pub records_step : records_from (length file) file at little
      ≡ bytes_at file at little ∷ records_from (length file) file (after file at little) little
  records_step =
      let next = after file at little in
      let same = records_enough file little fewer (length file) next still_enough (omega arith) in
      ap (λ (n : ℕ). records_from n file at little) one_fewer
      ∙ records_more fewer file at little h
      ∙ ap (λ (l : List (List ℕ)). bytes_at file at little ∷ l) same

  pub place_step : place_from (length file) file at little ≡ place_from (length file) file (after file at little) little
  place_step =
      let next = after file at little in
      ap (λ (n : ℕ). place_from n file at little) one_fewer
      ∙ place_more fewer file at little h
      ∙ place-enough file little fewer (length file) next still_enough (omega arith)

-- Where a walk stops: in the file, and no whole record stands there.
module _ (file : List ℕ) (little : Bool) where
  pub place_inside : (n at : ℕ) → at ≤ length file → place_from n file at little ≤ length file
  unfolding place_from
  place_inside zero at inside = inside
  place_inside (suc n) at inside =
      whole-or-not file at little
      (λ h. omega (arith, place_more n file at little h, place_inside n (after file at little) (step_inside file at little h)))
      (λ h. omega (arith, place_end (suc n) file at little h, inside))

  none_at : (n at : ℕ) → whole file at little ≡ false → whole file (place_from n file at little) little ≡ false
  none_at n at h = ap (λ (p : ℕ). whole file p little) (place_end n file at little h) ∙ h

  pub none-there : (n at : ℕ) → left file at ≤ n → whole file (place_from n file at little) little ≡ false
  none-there zero at enough = none_at zero at (none_left file at little enough)
  none-there (suc n) at enough =
      whole-or-not file at little
      (λ h.
      let further = none-there n (after file at little) (omega (arith, enough, step_falls file at little h)) in
      ap (λ (p : ℕ). whole file p little) (place_more n file at little h) ∙ further)
      (none_at (suc n) at)

module _ (file : List ℕ) where
  pub last_inside : last_place file ≤ length file
  unfolding last_place
  last_inside = place_inside file (is_little file) (length file) (first_place file) (first-inside file)

  pub none_last : whole file (last_place file) (is_little file) ≡ false
  unfolding last_place
  none_last = none-there file (is_little file) (length file) (first_place file) (omega arith)

  -- so why a walk stops there is what the import's refusals ask
  pub walk_stops : first (stops file (last_place file) (is_little file))
      ≡ first (61 when bad_header file ∷ 62 when ltb (last_place file) (length file) ∷ [])
  walk_stops = rw (none_last, and-true) refl

-- Records with their headers are never more than the file has from there on.
module _ (file : List ℕ) (little : Bool) where
  abbrev taken : List (List ℕ) → ℕ
  taken l = 16 * length l + length (joined l)

  taken_none : taken [] ≡ 0
  taken_none = omega (arith, length-joined-none)

  taken_more : (s : List ℕ) (l : List (List ℕ)) → taken (s ∷ l) ≡ 16 + length s + taken l
  taken_more s l = omega (arith, length-joined s l)

  taken_end : (n at : ℕ) → whole file at little ≡ false → taken (records_from n file at little) ≤ left file at
  taken_end n at h = omega (arith, ap taken (records_end n file at little h), taken_none)

  pub records_within : (n at : ℕ) →
      16 * length (records_from n file at little) + length (joined (records_from n file at little)) ≤ length file - at
  unfolding records_from
  records_within zero at = omega (arith, taken_none)
  records_within (suc n) at =
      whole-or-not file at little
      (λ h.
      let next = after file at little in
      omega (
        arith,
        ap taken (records_more n file at little h),
        taken_more (bytes_at file at little) (records_from n file next little),
        length_bytes file at little,
        size-whole file at little h,
        after-whole file at little h,
        whole-inside file at little h,
        records_within n next,
      ))
      (taken_end (suc n) at)

-- A caller's walk, from a file's first record on, hands out the file's records.
hands_out-from : (n : ℕ) (r : Reader) → handed_out n r ≡ records_from n r.file.now r.at r.little
unfolding handed_out records_from
hands_out-from zero r = refl
hands_out-from (suc n) r =
    let bytes = r.file.now in
    let there = whole bytes r.at r.little in
    ap (λ (l : List (List ℕ)). cond there (bytes_at bytes r.at r.little ∷ l) []) (hands_out-from n (moved r))

pub walk_hands_out : (f : Bor (List ℕ)) → handed_out (length f.now) (opened f) ≡ records f.now
unfolding records
walk_hands_out f = hands_out-from (length f.now) (opened f)
