-- What the survey of the frames finds, over plain variables: the first frame is sound or it is not (`bad_frame`), and `Surveying`, the
-- invariant of the loop that goes through all, with a begin, a turn and its ends. It speaks of the frames that are still to come: none
-- before them was bad.
use Prim.Native.Nat.{ℕ, ◌+◌, ◌-◌, ◌≤◌, ◌<◌}
use mathlib.Core.Path.{◌≡◌, refl, sym, ap, ◌∙◌}
use mathlib.Core.Bool.{Bool, true, false, not, ◌||◌, ◌&&◌, or_assoc, true≢false}
use mathlib.Core.Logic.{◌⊎◌, inl, inr, ⊎_elim}
use mathlib.Core.List.{List, [], ◌∷◌}
use native.Mathlib.Omega.{arith}
use lib.Dec.{eqb, ltb, leb}
use lib.ListN.{length}
use borrow.Author.Tests.{ltb-false, leb-true, leb-false, eqb-true, eqb-false, le-ltb, le-leb, lt-leb, eq-eqb, ne_eqb, not-false}
use Rattle.octets.specs.Bytes.{byte_at, be16_at}
use Rattle.octets.specs.Stretch.{part, rest}
use Rattle.octets.proofs.Counts.{true-or-false, or-false-left, or-false-right}
use Rattle.octets.proofs.Stretches.{length_part, length_rest, byte_part, byte_rest, rest-none, rest-rest, rest_past, rest_byte}
use Rattle.flow.specs.Flow.{longest}
use Rattle.ts.specs.Packet.{fill_byte}
use Rattle.mpeg.specs.Frame.{field_at, beside_field, good}
use Rattle.mpeg.specs.Write.{bad_frames, left_at}
use Rattle.mpeg.specs.Inside.Writing.{bad_first}
use Rattle.mpeg.proofs.Frames.{good_says}

-- One frame.
-- A frame that may be written is there, and as long as one can be.
pub record Sized (bytes : List ℕ) (n : ℕ) : Type 0 where
  pub there : n ≤ length bytes
  pub enough : beside_field ≤ n
  pub not_long : n ≤ longest

pub sized : (bytes : List ℕ) (n : ℕ) → bad_first bytes n ≡ false → Sized bytes n
unfolding bad_first
sized bytes n h =
    let p = part bytes 0 n in
    let is-good = not-false (good p) (or-false-right (ltb (length bytes) n) (not (good p)) h) in
    let there = ltb-false (length bytes) n (or-false-left (ltb (length bytes) n) (not (good p)) h) in
    let long : length p ≡ n = length_part bytes 0 n (omega (arith, there)) in
    let says = good_says p is-good in
    record { there = there; enough = omega (arith, says.its_length, long); not_long = omega (arith, says.short, long) }

module _ (bytes : List ℕ) (start size : ℕ) (inside : start ≤ length bytes) where
  abbrev from-here : List ℕ
  from-here = rest bytes start

  long_here : length from-here ≡ length bytes - start
  long_here = length_rest bytes start

  pub unsized : ((ltb size beside_field || ltb longest size) || ltb (length bytes) (start + size)) ≡ true → true ≡ bad_first from-here size
  unsized h =
      ⊎_elim (λ t. sym t) (λ f. absurd (true≢false (sym h ∙ none (sized from-here size f)))) (true-or-false (bad_first from-here size))
    where
      none : Sized from-here size → ((ltb size beside_field || ltb longest size) || ltb (length bytes) (start + size)) ≡ false
      none s =
          let is_there : start + size ≤ length bytes = omega (arith, inside, s.there, long_here) in
          rw (le-ltb size beside_field s.enough, le-ltb longest size s.not_long, le-ltb (length bytes) (start + size) is_there) refl

  module _ (h : ((ltb size beside_field || ltb longest size) || ltb (length bytes) (start + size)) ≡ false) where
    pub enough : beside_field ≤ size
    enough =
        ltb-false size beside_field
        (or-false-left (ltb size beside_field) _ (or-false-left (ltb size beside_field || ltb longest size) _ h))

    not_long : size ≤ longest
    not_long =
        ltb-false longest size (or-false-right (ltb size beside_field) _ (or-false-left (ltb size beside_field || ltb longest size) _ h))

    pub there : start + size ≤ length bytes
    there = ltb-false (length bytes) (start + size) (or-false-right (ltb size beside_field || ltb longest size) _ h)

    pub judged : (said : ℕ) → said ≡ be16_at bytes (start + field_at) →
        (not (eqb (said + beside_field) size) || eqb (byte_at bytes start) fill_byte) ≡ bad_first from-here size
    unfolding bad_first good
    judged said e =
        let p = part from-here 0 size in
        let long : length p ≡ size = length_part from-here 0 size (omega (arith, long_here, there)) in
        let byte : (i : ℕ) → i < size → byte_at p i ≡ byte_at bytes (start + i) =
        λ i l.
        let same : 0 + i ≡ i = omega arith in
        byte_part from-here 0 size i l ∙ byte_rest bytes start (0 + i) ∙ ap (λ (j : ℕ). byte_at bytes (start + j)) same in
        let front : start + 0 ≡ start = omega arith in
        let first : byte_at p 0 ≡ byte_at bytes start = byte 0 (omega (arith, enough)) ∙ ap (byte_at bytes) front in
        let high : byte_at p field_at ≡ byte_at bytes (start + field_at) = byte field_at (omega (arith, enough)) in
        let behind : start + (field_at + 1) ≡ start + field_at + 1 = omega arith in
        let low : byte_at p (field_at + 1) ≡ byte_at bytes (start + field_at + 1) =
        byte (field_at + 1) (omega (arith, enough)) ∙ ap (byte_at bytes) behind in
        let here : ltb (length from-here) size ≡ false = le-ltb (length from-here) size (omega (arith, long_here, there)) in
        rw (here, long, le-leb size longest not_long, high, low, first, e)
        (both (eqb (be16_at bytes (start + field_at) + beside_field) size) (eqb (byte_at bytes start) fill_byte))
      where
        both : (x y : Bool) → (not x || y) ≡ not (x && not y)
        both true true = refl
        both true false = refl
        both false y = refl

-- A frame and those behind it.
bad_next : (n : ℕ) (more bytes : List ℕ) → bad_frames (n ∷ more) bytes ≡ (bad_first bytes n || bad_frames more (rest bytes n))
unfolding bad_frames bad_first
bad_next n more bytes = sym (or_assoc (ltb (length bytes) n) (not (good (part bytes 0 n))) (bad_frames more (rest bytes n)))

left_past : (n : ℕ) (more : List ℕ) (place : ℕ) → n ≤ place → left_at (n ∷ more) place ≡ left_at more (place - n)
unfolding left_at
left_past n more place h = rw (le-leb n place h) refl

left_starts : (n : ℕ) (more : List ℕ) (place : ℕ) → 0 < n → place ≡ 0 → left_at (n ∷ more) place ≡ 0
unfolding left_at
left_starts n more place h e = rw (lt-leb n place (omega (arith, h, e)), eq-eqb place 0 e) refl

left-inside : (n : ℕ) (more : List ℕ) (place : ℕ) → 0 < place → place < n → left_at (n ∷ more) place ≡ n - place
unfolding left_at
left-inside n more place h l =
    let begun : place ≡ 0 → ⊥ = λ e. omega (arith, h, e) in
    rw (lt-leb n place l, ne_eqb place 0 begun) refl

-- what is left of a frame is there: of the first, ..
left-first : (n : ℕ) (more bytes : List ℕ) (place : ℕ) → n ≤ length bytes → left_at more (place - n) ≤ length bytes - n - (place - n) →
    left_at (n ∷ more) place ≤ length bytes - place
left-first n more bytes place there behind = by (true-or-false (leb n place)) (true-or-false (eqb place 0))
  where
    by : (leb n place ≡ true) ⊎ (leb n place ≡ false) → (eqb place 0 ≡ true) ⊎ (eqb place 0 ≡ false) →
        left_at (n ∷ more) place ≤ length bytes - place
    by (inl t) q = let past = leb-true n place t in omega (arith, left_past n more place past, behind, past)
    by (inr t) (inl q) =
        let zero-here = eqb-true place 0 q in
        omega (arith, left_starts n more place (omega (arith, leb-false n place t)) zero-here)
    by (inr t) (inr q) =
        let begun = eqb-false place 0 q in
        let some : 0 < place = omega (arith, begun) in
        omega (arith, left-inside n more place some (leb-false n place t), there)

-- .. and of all
pub left_there : (lengths bytes : List ℕ) (place : ℕ) → bad_frames lengths bytes ≡ false → left_at lengths place ≤ length bytes - place
unfolding left_at
left_there [] bytes place h = omega arith
left_there (n ∷ more) bytes place h =
    let here : (bad_first bytes n || bad_frames more (rest bytes n)) ≡ false = sym (bad_next n more bytes) ∙ h in
    let there = (sized bytes n (or-false-left (bad_first bytes n) (bad_frames more (rest bytes n)) here)).there in
    let behind = left_there more (rest bytes n) (place - n) (or-false-right (bad_first bytes n) (bad_frames more (rest bytes n)) here) in
    left-first n more bytes place there (omega (arith, behind, length_rest bytes n))

-- The loop that goes through all frames: k of them are sound and end at `start`, and the last of those that start before the place ends at
-- `begun`.
pub record Surveying (bytes lengths : List ℕ) (place begun start k : ℕ) : Type 0 where
  pub in_lengths : k ≤ length lengths
  pub in_bytes : start ≤ length bytes
  pub to_come : bad_frames lengths bytes ≡ bad_frames (rest lengths k) (rest bytes start)
  pub ahead : start ≤ place → (begun ≤ place) × (left_at lengths place ≡ left_at (rest lengths k) (place - start))
  pub behind : place < start → left_at lengths place ≡ begun - place

pub survey_begin : (bytes lengths : List ℕ) (place : ℕ) → Surveying bytes lengths place place 0 0
survey_begin bytes lengths place =
    let same : place - 0 ≡ place = omega arith in
    record {
      in_lengths = omega arith;
      in_bytes = omega arith;
      to_come = rw (rest-none lengths, rest-none bytes) refl;
      ahead = λ h. (omega arith, rw (rest-none lengths, same) refl);
      behind = λ h. absurd (omega (arith, h));
    }

module _ {bytes lengths : List ℕ} {place begun start k : ℕ} (s : Surveying bytes lengths place begun start k) where
  module _ (n : ℕ) (more : k < length lengths) (e : n ≡ byte_at lengths k) where
    next : rest lengths k ≡ n ∷ rest lengths (k + 1)
    next = rest_byte lengths k more ∙ ap (λ (m : ℕ). m ∷ rest lengths (k + 1)) (sym e)

    these : bad_frames lengths bytes ≡ (bad_first (rest bytes start) n || bad_frames (rest lengths (k + 1)) (rest bytes (start + n)))
    these =
        s.to_come ∙ ap (λ (l : List ℕ). bad_frames l (rest bytes start)) next ∙ bad_next n (rest lengths (k + 1)) (rest bytes start)
        ∙ ap (λ (l : List ℕ). bad_first (rest bytes start) n || bad_frames (rest lengths (k + 1)) l) (rest-rest bytes start n)

    -- it is bad: the frames passed are not all
    pub survey_stop : true ≡ bad_first (rest bytes start) n → true ≡ bad_frames lengths bytes
    survey_stop h = sym (these ∙ rw (← h) refl)

    module _ (sound : false ≡ bad_first (rest bytes start) n) where
      fits : Sized (rest bytes start) n
      fits = sized (rest bytes start) n (sym sound)

      pub survey_inside : start + n ≤ length bytes
      survey_inside = omega (arith, fits.there, s.in_bytes, length_rest bytes start)

      left-next : start ≤ place → left_at lengths place ≡ left_at (n ∷ rest lengths (k + 1)) (place - start)
      left-next h = (s.ahead h).1 ∙ ap (λ (l : List ℕ). left_at l (place - start)) next

      -- it starts before the place
      pub survey_begun : (begun' : ℕ) → start < place → begun' ≡ start + n → Surveying bytes lengths place begun' (start + n) (k + 1)
      survey_begun begun' l f =
          record {
            in_lengths = omega arith;
            in_bytes = survey_inside;
            to_come = these ∙ rw (← sound) refl;
            ahead = λ h. (
              omega (arith, f, h),
              left-next (omega (arith, l))
                  ∙ left_past n (rest lengths (k + 1)) (place - start) (omega (arith, h))
                  ∙ ap (left_at (rest lengths (k + 1))) (further h),
            );
            behind = λ h.
                left-next (omega (arith, l))
                ∙ left-inside n (rest lengths (k + 1)) (place - start) (omega (arith, l)) (omega (arith, l, h)) ∙ left_of;
          }
        where
          further : start + n ≤ place → place - start - n ≡ place - (start + n)
          further h = omega (arith, h)

          left_of : n - (place - start) ≡ begun' - place
          left_of = omega (arith, f, l)

      -- it starts there, or behind
      pub survey_kept : (begun' : ℕ) → place ≤ start → begun' ≡ begun → Surveying bytes lengths place begun' (start + n) (k + 1)
      survey_kept begun' l f =
          record {
            in_lengths = omega arith;
            in_bytes = survey_inside;
            to_come = these ∙ rw (← sound) refl;
            ahead = λ h. absurd (omega (arith, h, l, fits.enough));
            behind = λ h. ⊎_elim
                (λ (q : eqb place start ≡ true).
                let here = eqb-true place start q in
                let ended : 0 ≡ begun' - place = omega (arith, f, (s.ahead (omega (arith, here))).0) in
                left-next (omega (arith, here))
                ∙ left_starts n (rest lengths (k + 1)) (place - start) (omega (arith, fits.enough)) (omega (arith, here)) ∙ ended)
                (λ (q : eqb place start ≡ false). s.behind (omega (arith, l, eqb-false place start q)) ∙ ap (λ (b : ℕ). b - place) (sym f))
                (true-or-false (eqb place start));
          }

  module _ (done : length lengths ≤ k) where
    pub left_over : not (eqb start (length bytes)) ≡ bad_frames lengths bytes
    unfolding bad_frames
    left_over =
        sym (s.to_come ∙ rw (rest_past lengths k done, length_rest bytes start) (ap not (by (true-or-false (eqb start (length bytes))))))
      where
        by : (eqb start (length bytes) ≡ true) ⊎ (eqb start (length bytes) ≡ false) →
            eqb (length bytes - start) 0 ≡ eqb start (length bytes)
        by (inl e) = eq-eqb (length bytes - start) 0 (omega (arith, eqb-true start (length bytes) e)) ∙ sym e
        by (inr d) =
            let other = eqb-false start (length bytes) d in
            ne_eqb (length bytes - start) 0 (λ z. other (omega (arith, z, s.in_bytes))) ∙ sym d

    pub survey_left : begun - place ≡ left_at lengths place
    unfolding left_at
    survey_left = ⊎_elim
        (λ (t : leb start place ≡ true).
        let a = s.ahead (leb-true start place t) in
        let ended : begun - place ≡ 0 = omega (arith, a.0) in
        ended ∙ sym (a.1 ∙ ap (λ (l : List ℕ). left_at l (place - start)) (rest_past lengths k done)))
        (λ (t : leb start place ≡ false). sym (s.behind (leb-false start place t)))
        (true-or-false (leb start place))
