-- How addresses are read: of one of Ethernet the groups so far (`Grouping`, the loop's invariant), of one of IPv4 the numbers between the
-- dots, each of which is looked for behind the one before.
use Prim.Native.Nat.{ℕ, zero, suc, ◌+◌, ◌-◌, ◌*◌, ◌<◌, ◌≤◌}
use mathlib.Core.Path.{◌≡◌, refl, sym, ap, ◌∙◌}
use mathlib.Core.Bool.{Bool, true, false, cond, not, ◌&&◌, ◌||◌, and-eq-true_iff, and-false, true≢false}
use mathlib.Core.List.{List, [], ◌∷◌}
use native.Mathlib.Omega.{arith}
use native.Mathlib.Nat.{not-suc-le-zero}
use lib.Dec.{eqb, leb, ltb}
use lib.ListN.{length, take, drop, set}
use borrow.Author.Tests.{eqb-true, leb-true, leb-false, le-leb, lt-leb, lt-ltb, ltb-false, le-ltb, eq-eqb, ne_eqb}
use Rattle.std.specs.Prelude.{Option, Some, None}
use Rattle.std.specs.List.{position, position_or_len}
use Rattle.std.proofs.lemmas.List.Quantifiers.{position-Some}
use Rattle.octets.specs.Bytes.{byte_at}
use Rattle.octets.specs.Count.{any, up_to}
use Rattle.octets.specs.Stretch.{part, rest, put}
use Rattle.octets.proofs.Counts.{any_none, none_more, none_all, any_at, up_to-none, length-up_to, least_at, least-none}
use Rattle.octets.proofs.Stretches.{length-put, put-nil, put-up_to_more, put_whole, set-put, length_rest, byte_rest, rest-rest, rest-none}
use Rattle.octets.proofs.Stretches.{part_to_end, part-rest_front, sliced_rest, sliced_front}
use Rattle.tool.specs.Number.{digit_of, are_digits, value_of, said_by, said}
use Rattle.tool.specs.Address.{mac_groups, mac_text, group_of, bad_group, group_said, mac_said}
use Rattle.tool.specs.Address.{zero_in_front, to_255, octet_said, is_dot_from, dot_from, first_dot, together, ipv4_said}

abbrev zeros : List ℕ
zeros = 0 ∷ 0 ∷ 0 ∷ 0 ∷ 0 ∷ 0 ∷ []

-- what a group says
pub no_group : (text : List ℕ) (k : ℕ) → None ≡ group_said text k → bad_group text k ≡ true
no_group text k = by (bad_group text k)
  where
    by : (t : Bool) → None ≡ cond t None (Some (group_of text k)) → t ≡ true
    by true h = refl
    by false h = grind (arith, h)

pub group_is : (text : List ℕ) (k byte : ℕ) → Some byte ≡ group_said text k → (bad_group text k ≡ false) × (byte ≡ group_of text k)
group_is text k byte = by (bad_group text k)
  where
    by : (t : Bool) → Some byte ≡ cond t None (Some (group_of text k)) → (t ≡ false) × (byte ≡ group_of text k)
    by true h = grind (arith, h)
    by false h = (refl, grind (arith, h))

pub record Grouping (text bytes : List ℕ) (k : ℕ) : Type 0 where
  pub within : k ≤ mac_groups
  pub good_so_far : any (bad_group text) k ≡ false
  pub so_far : bytes ≡ put zeros 0 (up_to (group_of text) k)

pub mac_length : (text : List ℕ) → (length text ≡ mac_text → ⊥) → None ≡ mac_said text
unfolding mac_said
mac_length text other = rw (ne_eqb (length text) mac_text other) refl

pub grouping_begin : (text : List ℕ) → Grouping text zeros 0
grouping_begin text =
    record {
      within = omega arith;
      good_so_far = any_none (bad_group text);
      so_far = sym (ap (put zeros 0) (up_to-none (group_of text)) ∙ put-nil zeros 0);
    }

module _ {text bytes : List ℕ} {k : ℕ} (g : Grouping text bytes k) where
  pub grouping_length : length bytes ≡ mac_groups
  grouping_length =
      ap length g.so_far
      ∙ length-put zeros 0 (up_to (group_of text) k) (omega (arith, length-up_to (group_of text) k, g.within))

  -- a bad group; one group more; and all of them
  pub mac_bad : k < mac_groups → None ≡ group_said text k → None ≡ mac_said text
  unfolding mac_said
  mac_bad more bad = rw (any_at (bad_group text) mac_groups k (no_group text k bad) more) (by (not (eqb (length text) mac_text)))
    where
      by : (t : Bool) → None ≡ cond (t || true) None (Some (up_to (group_of text) mac_groups))
      by true = refl
      by false = refl

  pub grouping_turn : (byte : ℕ) → k < mac_groups → Some byte ≡ group_said text k → Grouping text (set bytes k byte) (k + 1)
  grouping_turn byte more good =
      let is = group_is text k byte good in
      record {
        within = omega (arith, more);
        good_so_far = none_more (bad_group text) k g.good_so_far is.0;
        so_far =
            set-put bytes k byte (omega (arith, more, grouping_length))
            ∙ ap (λ (n : ℕ). put bytes k (n ∷ [])) is.1
            ∙ ap (λ (n : ℕ). put bytes n (group_of text k ∷ [])) (omega arith)
            ∙ put-up_to_more zeros 0 (group_of text) k (omega (arith, more)) g.so_far;
      }

  pub mac_good : mac_groups ≤ k → length text ≡ mac_text → Some bytes ≡ mac_said text
  unfolding mac_said
  mac_good past long =
      let all : k ≡ mac_groups = omega (arith, past, g.within) in
      let every : any (bad_group text) mac_groups ≡ false = ap (any (bad_group text)) (sym all) ∙ g.good_so_far in
      let whole : bytes ≡ up_to (group_of text) mac_groups =
      g.so_far ∙ ap (λ (n : ℕ). put zeros 0 (up_to (group_of text) n)) all
      ∙ put_whole zeros (up_to (group_of text) mac_groups) (sym (length-up_to (group_of text) mac_groups)) in
      rw (eq-eqb (length text) mac_text long, every, whole) refl

-- Addresses of IPv4: one of the four numbers.
pub octet_bad : (text : List ℕ) → zero_in_front text ≡ true → None ≡ octet_said text
unfolding octet_said
octet_bad text zero-first = rw zero-first refl

module _ (text : List ℕ) (good : zero_in_front text ≡ false) where
  pub octet_none : None ≡ said text → None ≡ octet_said text
  unfolding octet_said to_255
  octet_none e = rw (good, sym e) refl

  module _ (value : ℕ) (is : Some value ≡ said text) where
    pub octet_large : 255 < value → None ≡ octet_said text
    unfolding octet_said to_255
    octet_large large = rw (good, sym is, lt-ltb 255 value large) refl

    pub octet_good : value ≤ 255 → Some value ≡ octet_said text
    unfolding octet_said to_255
    octet_good small = rw (good, sym is, le-ltb 255 value small) refl

-- where no byte passes a test, each fails it
no_position : (p : ℕ → Bool) (xs : List ℕ) → length xs ≤ position_or_len p xs → (k : ℕ) → k < length xs → p (byte_at xs k) ≡ false
no_position p [] h k inside = absurd (not-suc-le-zero inside)
no_position p (x ∷ xs) h k inside = by (p x) refl k inside h (no_position p xs)
  where
    by : (t : Bool) → p x ≡ t → (k : ℕ) → k < suc (length xs) → suc (length xs) ≤ cond (not t) (1 + position_or_len p xs) 0 →
        (length xs ≤ position_or_len p xs → (k : ℕ) → k < length xs → p (byte_at xs k) ≡ false) → p (byte_at (x ∷ xs) k) ≡ false
    by true e k inside h more = absurd (not-suc-le-zero h)
    by false e zero inside h more = e
    by false e (suc k) inside h more = more (omega (arith, h)) k (omega (arith, inside))

missed : (p : ℕ → Bool) (xs : List ℕ) → None ≡ position p xs → length xs ≤ position_or_len p xs
missed p xs = by (ltb (position_or_len p xs) (length xs)) refl
  where
    by : (t : Bool) → ltb (position_or_len p xs) (length xs) ≡ t → None ≡ cond t (Some (position_or_len p xs)) None →
        length xs ≤ position_or_len p xs
    by true e h = grind (arith, h)
    by false e h = ltb-false (position_or_len p xs) (length xs) e

-- the first dot from a place on, as it is looked for in what stands there
abbrev is_dot : ℕ → Bool
is_dot byte = eqb byte 46

module _ (text : List ℕ) (from : ℕ) where
  dot_at : (k : ℕ) → from ≤ k → is_dot_from text from k ≡ is_dot (byte_at (rest text from) (k - from))
  dot_at k past = rw (le-leb from k past, byte_rest text from (k - from)) (ap (λ (n : ℕ). is_dot (byte_at text n)) (omega (arith, past)))

  dot_before : (k : ℕ) → k < from → is_dot_from text from k ≡ false
  dot_before k short = rw (lt-leb from k short) refl

  pub dot_found : (i : ℕ) → Some i ≡ first_dot (rest text from) → (dot_from text from ≡ from + i) × (from + i < length text)
  unfolding dot_from
  dot_found i there =
      let found = position-Some is_dot (rest text from) i 0 (sym there) in
      let inside : from + i < length text = omega (arith, found.0, length_rest text from) in
      let here : is_dot_from text from (from + i) ≡ true =
      dot_at (from + i) (omega arith) ∙ ap (λ (n : ℕ). is_dot (byte_at (rest text from) n)) (omega arith) ∙ found.1 in (
        least_at (is_dot_from text from) (length text) (from + i)
            (none_all (is_dot_from text from) (from + i) (before found.2)) here inside,
        inside,
      )
    where
      before : ((k : ℕ) → k < i → is_dot (byte_at (rest text from) k) ≡ false) → (k : ℕ) → k < from + i → is_dot_from text from k ≡ false
      before none k short = by (leb from k) refl
        where
          by : (t : Bool) → leb from k ≡ t → is_dot_from text from k ≡ false
          by true e = let past = leb-true from k e in dot_at k past ∙ none (k - from) (omega (arith, past, short))
          by false e = dot_before k (leb-false from k e)

  pub dot_missed : None ≡ first_dot (rest text from) → dot_from text from ≡ length text
  unfolding dot_from
  dot_missed none = least-none (is_dot_from text from) (length text) (none_all (is_dot_from text from) (length text) each)
    where
      each : (k : ℕ) → k < length text → is_dot_from text from k ≡ false
      each k inside = by (leb from k) refl
        where
          by : (t : Bool) → leb from k ≡ t → is_dot_from text from k ≡ false
          by true e = let past = leb-true from k e in
              dot_at k past
              ∙ no_position is_dot (rest text from) (missed is_dot (rest text from) none) (k - from)
              (omega (arith, past, inside, length_rest text from))
          by false e = dot_before k (leb-false from k e)

pub dot_past : (text : List ℕ) (from : ℕ) → length text ≤ from → dot_from text from ≡ length text
unfolding dot_from
dot_past text from past =
    least-none (is_dot_from text from) (length text)
    (none_all (is_dot_from text from) (length text) (λ k inside. dot_before text from k (omega (arith, past, inside))))

-- A dot is no digit: a text with one says no number of the four.
digits_at : (base : ℕ) (l : List ℕ) (i : ℕ) → are_digits base l ≡ true → i < length l → ltb (digit_of (byte_at l i)) base ≡ true
unfolding are_digits
digits_at base [] i all inside = absurd (not-suc-le-zero inside)
digits_at base (byte ∷ more) zero all inside = ((and-eq-true_iff (ltb (digit_of byte) base) (are_digits base more)).0 all).0
digits_at base (byte ∷ more) (suc i) all inside =
    digits_at base more i ((and-eq-true_iff (ltb (digit_of byte) base) (are_digits base more)).0 all).1 (omega (arith, inside))

dotted : (text : List ℕ) (i : ℕ) → Some i ≡ first_dot text → are_digits 10 text ≡ false
dotted text i there = by (are_digits 10 text) refl
  where
    by : (t : Bool) → are_digits 10 text ≡ t → t ≡ false
    by false e = refl
    by true e =
        let found = position-Some is_dot text i 0 (sym there) in
        let is : byte_at text i ≡ 46 = eqb-true (byte_at text i) 46 found.1 in
        absurd (true≢false (sym (digits_at 10 text i e found.0) ∙ ap (λ (byte : ℕ). ltb (digit_of byte) 10) is))

pub dotted_octet : (text : List ℕ) (i : ℕ) → Some i ≡ first_dot text → None ≡ octet_said text
unfolding octet_said to_255 said said_by
dotted_octet text i there = by (leb 2 (length text)) (eqb (byte_at text 0) 48) refl refl
  where
    no_digits : (t : Bool) → None ≡ to_255 (cond (t && false) (Some (value_of 10 text)) None)
    no_digits true = refl
    no_digits false = refl

    by : (t u : Bool) → leb 2 (length text) ≡ t → eqb (byte_at text 0) 48 ≡ u → None ≡ octet_said text
    by true true e f = rw (e, f) refl
    by true false e f = rw (e, f, rest-none text, dotted text i there) (no_digits (ltb 0 (length text)))
    by false u e f = rw (e, rest-none text, dotted text i there) (no_digits (ltb 0 (length text)))

no_fourth : (a b c : Option ℕ) → None ≡ together a b c None
unfolding together
no_fourth None b c = refl
no_fourth (Some a) None c = refl
no_fourth (Some a) (Some b) None = refl
no_fourth (Some a) (Some b) (Some c) = refl

-- what stands behind a place, as a slice of it is taken
abbrev behind : List ℕ → ℕ → List ℕ
behind l from = take (length l - from) (drop from l)

-- The whole address: what is missing where a dot is, and what four numbers say.
module _ (text : List ℕ) where
  abbrev end : ℕ
  end = length text

  abbrev first : ℕ
  first = dot_from text 0

  abbrev second : ℕ
  second = dot_from text (first + 1)

  abbrev third : ℕ
  third = dot_from text (second + 1)

  no_third : end ≤ third → None ≡ ipv4_said text
  unfolding ipv4_said
  no_third late = rw (le-ltb third end late) refl

  pub no_first_dot : None ≡ first_dot text → None ≡ ipv4_said text
  no_first_dot none =
      let one = dot_missed text 0 (none ∙ ap first_dot (sym (rest-none text))) in
      let two = dot_past text (first + 1) (omega (arith, one)) in
      let three = dot_past text (second + 1) (omega (arith, two)) in
      no_third (omega (arith, three))

  module _ (i : ℕ) (is-i : Some i ≡ first_dot text) where
    abbrev behind_first : List ℕ
    behind_first = behind text (i + 1)

    one : (first ≡ i) × (i < end)
    one = let found = dot_found text 0 i (is-i ∙ ap first_dot (sym (rest-none text))) in (omega (arith, found.0), omega (arith, found.1))

    rest_first : rest text (first + 1) ≡ behind_first
    rest_first = ap (λ (n : ℕ). rest text (n + 1)) one.0 ∙ sym (sliced_rest text (i + 1))

    pub no_second_dot : None ≡ first_dot behind_first → None ≡ ipv4_said text
    no_second_dot none =
        let two = dot_missed text (first + 1) (none ∙ ap first_dot (sym rest_first)) in
        let three = dot_past text (second + 1) (omega (arith, two)) in
        no_third (omega (arith, three))

    module _ (j : ℕ) (is-j : Some j ≡ first_dot behind_first) where
      abbrev behind_second : List ℕ
      behind_second = behind behind_first (j + 1)

      two : (second ≡ first + 1 + j) × (first + 1 + j < end)
      two = dot_found text (first + 1) j (is-j ∙ ap first_dot (sym rest_first))

      rest_second : rest text (second + 1) ≡ behind_second
      rest_second =
          ap (rest text) (omega (arith, two.0)) ∙ sym (rest-rest text (first + 1) (j + 1))
          ∙ ap (λ (l : List ℕ). rest l (j + 1)) rest_first ∙ sym (sliced_rest behind_first (j + 1))

      pub no_third_dot : None ≡ first_dot behind_second → None ≡ ipv4_said text
      no_third_dot none = no_third (omega (arith, dot_missed text (second + 1) (none ∙ ap first_dot (sym rest_second))))

      module _ (k : ℕ) (is-k : Some k ≡ first_dot behind_second) where
        abbrev behind_third : List ℕ
        behind_third = behind behind_second (k + 1)

        three : (third ≡ second + 1 + k) × (second + 1 + k < end)
        three = dot_found text (second + 1) k (is-k ∙ ap first_dot (sym rest_second))

        rest_third : rest text (third + 1) ≡ behind_third
        rest_third =
            ap (rest text) (omega (arith, three.0)) ∙ sym (rest-rest text (second + 1) (k + 1))
            ∙ ap (λ (l : List ℕ). rest l (k + 1)) rest_second ∙ sym (sliced_rest behind_second (k + 1))

        -- what the four parts say
        abbrev parts : Option ℕ
        parts =
            together (octet_said (take i text)) (octet_said (take j behind_first)) (octet_said (take k behind_second))
            (octet_said behind_third)

        last_dot : dot_from text (third + 1) ≡ end → parts ≡ ipv4_said text
        unfolding ipv4_said
        last_dot past =
            let inside : ltb third end ≡ true = lt-ltb third end (omega (arith, three.0, three.1)) in
            let a : part text 0 first ≡ take i text = ap (part text 0) one.0 ∙ sym (sliced_front text i) in
            let b : part text (first + 1) (second - (first + 1)) ≡ take j behind_first =
            ap (part text (first + 1)) (omega (arith, two.0)) ∙ sym (part-rest_front text (first + 1) j)
            ∙ ap (λ (l : List ℕ). part l 0 j) rest_first ∙ sym (sliced_front behind_first j) in
            let c : part text (second + 1) (third - (second + 1)) ≡ take k behind_second =
            ap (part text (second + 1)) (omega (arith, three.0)) ∙ sym (part-rest_front text (second + 1) k)
            ∙ ap (λ (l : List ℕ). part l 0 k) rest_second ∙ sym (sliced_front behind_second k) in
            let d : part text (third + 1) (end - (third + 1)) ≡ behind_third = part_to_end text (third + 1) ∙ rest_third in
            rw (inside, eq-eqb (dot_from text (third + 1)) end past, a, b, c, d) refl

        one_more : (l : ℕ) → Some l ≡ first_dot behind_third → parts ≡ ipv4_said text
        unfolding ipv4_said
        one_more l there =
            let fourth = dot_found text (third + 1) l (there ∙ ap first_dot (sym rest_third)) in
            let apart : eqb (dot_from text (third + 1)) end ≡ false =
            ne_eqb (dot_from text (third + 1)) end (λ e. omega (arith, fourth.0, fourth.1, e)) in
            rw (apart, and-false (ltb third end), sym (dotted_octet behind_third l there))
            (sym (no_fourth (octet_said (take i text)) (octet_said (take j behind_first)) (octet_said (take k behind_second))))

        four_parts : parts ≡ ipv4_said text
        four_parts = by (first_dot behind_third) refl
          where
            by : (dot : Option ℕ) → dot ≡ first_dot behind_third → parts ≡ ipv4_said text
            by None e = last_dot (dot_missed text (third + 1) (e ∙ ap first_dot (sym rest_third)))
            by (Some l) e = one_more l e

        -- one of them says nothing; and all four say a number
        pub first_none : None ≡ octet_said (take i text) → None ≡ ipv4_said text
        unfolding together
        first_none e =
            ap (λ (o : Option ℕ).
            together o (octet_said (take j behind_first)) (octet_said (take k behind_second)) (octet_said behind_third)) e
            ∙ four_parts

        module _ (a : ℕ) (is-a : Some a ≡ octet_said (take i text)) where
          pub second_none : None ≡ octet_said (take j behind_first) → None ≡ ipv4_said text
          unfolding together
          second_none e =
              ap (λ (o : Option ℕ). together (Some a) o (octet_said (take k behind_second)) (octet_said behind_third)) e
              ∙ ap (λ (o : Option ℕ).
              together o (octet_said (take j behind_first)) (octet_said (take k behind_second)) (octet_said behind_third)) is-a
              ∙ four_parts

          module _ (b : ℕ) (is-b : Some b ≡ octet_said (take j behind_first)) where
            pub third_none : None ≡ octet_said (take k behind_second) → None ≡ ipv4_said text
            unfolding together
            third_none e =
                ap (λ (o : Option ℕ). together (Some a) (Some b) o (octet_said behind_third)) e
                ∙ ap (λ (o : Option ℕ). together (Some a) o (octet_said (take k behind_second)) (octet_said behind_third)) is-b
                ∙ ap (λ (o : Option ℕ).
                together o (octet_said (take j behind_first)) (octet_said (take k behind_second)) (octet_said behind_third)) is-a
                ∙ four_parts

            module _ (c : ℕ) (is-c : Some c ≡ octet_said (take k behind_second)) where
              third_said : together (Some a) (Some b) (Some c) (octet_said behind_third) ≡ ipv4_said text
              third_said =
                  ap (λ (o : Option ℕ). together (Some a) (Some b) o (octet_said behind_third)) is-c
                  ∙ ap (λ (o : Option ℕ). together (Some a) o (octet_said (take k behind_second)) (octet_said behind_third)) is-b
                  ∙ ap (λ (o : Option ℕ).
                  together o (octet_said (take j behind_first)) (octet_said (take k behind_second)) (octet_said behind_third)) is-a
                  ∙ four_parts

              pub fourth_none : None ≡ octet_said behind_third → None ≡ ipv4_said text
              unfolding together
              fourth_none e = ap (together (Some a) (Some b) (Some c)) e ∙ third_said

              pub all_four : (d : ℕ) → Some d ≡ octet_said behind_third → Some (a * 16777216 + b * 65536 + c * 256 + d) ≡ ipv4_said text
              unfolding together
              all_four d is-d =
                  let worth : a * 16777216 + b * 65536 + c * 256 + d ≡ ((a * 256 + b) * 256 + c) * 256 + d = omega arith in
                  ap (λ (n : ℕ). Some n) worth ∙ ap (together (Some a) (Some b) (Some c)) is-d ∙ third_said
