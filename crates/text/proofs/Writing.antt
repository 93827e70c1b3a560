-- Texts one behind the other are one text; and the digits of a number.
use Prim.Native.Nat.{ℕ, zero, suc, ◌+◌, ◌*◌, ◌/◌, ◌%◌, ◌<◌, ◌≤◌}
use mathlib.Core.Path.{◌≡◌, refl, sym, ap, subst, ◌∙◌}
use mathlib.Core.Bool.{true, false, cond}
use mathlib.Core.Logic.{⊎_elim}
use mathlib.Core.List.{List, [], ◌∷◌, ◌++◌, map, append_assoc, append-nil}
use native.Mathlib.Omega.{arith}
use lib.Dec.{ltb}
use lib.ListN.{length, set, length-append}
use borrow.Author.Tests.{lt-ltb, le-ltb, ltb-true, ltb-false}
use Rattle.octets.specs.Bytes.{byte_at}
use Rattle.octets.specs.Stretch.{part, put, joined}
use Rattle.octets.proofs.Counts.{true-or-false}
use Rattle.octets.proofs.Stretches.{length-put, put-nil, put_more, put-before, set-put, part_all, part_none, part-part_front}
use Rattle.octets.proofs.Stretches.{part_one}
use Rattle.octets.proofs.Stretches.{joined-none, joined-map_more}
use Rattle.text.specs.declared.Text.{Text}
use Rattle.text.specs.Text.{Appended, digits, decimal, most_digits, hex_digit, hex_byte, hex, column, space, Wrote}

-- What is written behind a text makes it longer.
pub wrote-length : {a b : List ℕ} {at next : ℕ} {s : List ℕ} → Wrote a b at next s → length b ≡ length a
wrote-length {a} {b} {at} {next} {s} w = ap length w.there ∙ length-put a at s w.inside

pub wrote_then : {a b c : List ℕ} {at middle next : ℕ} {s t : List ℕ} → Wrote a b at middle s → Wrote b c middle next t →
    Wrote a c at next (s ++ t)
wrote_then {a} {b} {c} {at} {middle} {next} {s} {t} v w =
    record {
      there = put_more a at s t middle v.inside v.there v.next_place w.there;
      next_place = omega (arith, v.next_place, w.next_place, length-append s t);
      inside = omega (arith, v.next_place, w.inside, wrote-length v, length-append s t);
    }

-- what is written, and the place behind it, leave nothing open
pub wrote_unique : {a b c : List ℕ} {at next further : ℕ} {s : List ℕ} → Wrote a b at next s → Wrote a c at further s → (b ≡ c)
    × (next ≡ further)
wrote_unique v w = (v.there ∙ sym w.there, v.next_place ∙ sym w.next_place)

pub wrote_none : (a : List ℕ) (at : ℕ) → at ≤ length a → Wrote a a at at []
wrote_none a at h = record { there = sym (put-nil a at); next_place = omega arith; inside = omega (arith, h) }

pub wrote_as : {a b : List ℕ} {at next : ℕ} {s t : List ℕ} → s ≡ t → Wrote a b at next s → Wrote a b at next t
wrote_as {a} {b} {at} {next} {s} {t} e w =
    record {
      there = w.there ∙ ap (put a at) e;
      next_place = w.next_place ∙ ap (λ (l : List ℕ). at + length l) e;
      inside = omega (arith, w.inside, ap length e);
    }

pub wrote_byte : (a : List ℕ) (at byte : ℕ) → at < length a → Wrote a (set a at byte) at (at + 1) (byte ∷ [])
wrote_byte a at byte h = record { there = set-put a at byte h; next_place = refl; inside = omega (arith, h) }

pub wrote-column : {a b c : List ℕ} {at middle next : ℕ} (n : ℕ) → Wrote a b at middle space → Wrote b c middle next (decimal n) →
    Wrote a c at next (column n)
unfolding column
wrote-column n v w = wrote_then v w

-- who lent the room finds there what was written from its start on
pub wrote_whole : (first last : Text) {room room' words : List ℕ} → Appended first last words → first.room.now ≡ room → first.length ≡ 0 →
    room' ≡ last.room.now → Wrote room room' 0 last.length words
wrote_whole first last {words = words} w same none found =
    rw (← same, found) (subst (λ (n : ℕ). Wrote first.room.now last.room.now n last.length words) none w)

-- The digits of a number: turns that are enough are all alike.
digits-enough : (a b n : ℕ) → n < a → n < b → digits a n ≡ digits b n
unfolding digits
digits-enough zero b n h k = absurd (omega arith)
digits-enough (suc a) zero n h k = absurd (omega arith)
digits-enough (suc a) (suc b) n h k =
    ⊎_elim
    (λ (one : ltb n 10 ≡ true). rw one refl)
    (λ (more : ltb n 10 ≡ false).
    let ten = ltb-false n 10 more in
    ap (λ (l : List ℕ). cond (ltb n 10) ((48 + n) ∷ []) (l ++ ((48 + n % 10) ∷ [])))
    (digits-enough a b (n / 10) (omega (arith, ten)) (omega (arith, ten))))
    (true-or-false (ltb n 10))

pub decimal_one : (n : ℕ) → n ≤ 9 → decimal n ≡ (48 + n) ∷ []
unfolding decimal digits
decimal_one n h = rw (lt-ltb n 10 (omega arith)) refl

opened : (n : ℕ) → 9 < n → decimal n ≡ digits n (n / 10) ++ ((48 + n % 10) ∷ [])
unfolding decimal digits
opened n h = rw (le-ltb n 10 (omega arith)) refl

closed : (n : ℕ) → 9 < n → digits n (n / 10) ≡ decimal (n / 10)
unfolding decimal
closed n h = digits-enough n (suc (n / 10)) (n / 10) (omega arith) (omega arith)

pub decimal_more : (n : ℕ) → 9 < n → decimal n ≡ decimal (n / 10) ++ ((48 + n % 10) ∷ [])
decimal_more n h = opened n h ∙ ap (λ (l : List ℕ). l ++ ((48 + n % 10) ∷ [])) (closed n h)

one_digit : (n : ℕ) → n ≤ 9 → length (decimal n) ≡ 1
one_digit n h = ap length (decimal_one n h)

digit_more : (n : ℕ) → 9 < n → length (decimal n) ≡ length (decimal (n / 10)) + 1
digit_more n h = ap length (decimal_more n h) ∙ length-append (decimal (n / 10)) ((48 + n % 10) ∷ [])

-- a number below ten times a bound has at most one digit more than those below the bound
abbrev AtMost : ℕ → ℕ → Type 0
AtMost bound count = (n : ℕ) → n < bound → length (decimal n) ≤ count

ten_fold : (bound count : ℕ) → 0 < count → AtMost bound count → (n : ℕ) → n / 10 < bound → length (decimal n) ≤ count + 1
ten_fold bound count some few n h =
    ⊎_elim
    (λ (more : ltb 9 n ≡ true). omega (arith, digit_more n (ltb-true 9 n more), few (n / 10) h))
    (λ (one : ltb 9 n ≡ false). omega (arith, some, one_digit n (ltb-false 9 n one)))
    (true-or-false (ltb 9 n))

one_at_most : AtMost 10 1
one_at_most n h = omega (arith, one_digit n (omega (arith, h)))

at_most_2 : AtMost 100 2
at_most_2 n h = ten_fold 10 1 (omega arith) one_at_most n (omega (arith, h))

at_most_3 : AtMost 1000 3
at_most_3 n h = ten_fold 100 2 (omega arith) at_most_2 n (omega (arith, h))

at_most_4 : AtMost 10000 4
at_most_4 n h = ten_fold 1000 3 (omega arith) at_most_3 n (omega (arith, h))

at_most_5 : AtMost 100000 5
at_most_5 n h = ten_fold 10000 4 (omega arith) at_most_4 n (omega (arith, h))

at_most_6 : AtMost 1000000 6
at_most_6 n h = ten_fold 100000 5 (omega arith) at_most_5 n (omega (arith, h))

at_most_7 : AtMost 10000000 7
at_most_7 n h = ten_fold 1000000 6 (omega arith) at_most_6 n (omega (arith, h))

at_most_8 : AtMost 100000000 8
at_most_8 n h = ten_fold 10000000 7 (omega arith) at_most_7 n (omega (arith, h))

at_most_9 : AtMost 1000000000 9
at_most_9 n h = ten_fold 100000000 8 (omega arith) at_most_8 n (omega (arith, h))

at_most_10 : AtMost 10000000000 10
at_most_10 n h = ten_fold 1000000000 9 (omega arith) at_most_9 n (omega (arith, h))

some_digit : (n : ℕ) → 0 < length (decimal n)
some_digit n =
    ⊎_elim
    (λ (more : ltb 9 n ≡ true). omega (arith, digit_more n (ltb-true 9 n more)))
    (λ (one : ltb 9 n ≡ false). omega (arith, one_digit n (ltb-false 9 n one)))
    (true-or-false (ltb 9 n))

pub decimal-short : (n : ℕ) → n < 4294967296 → length (decimal n) ≤ most_digits
decimal-short n h = at_most_10 n (omega (arith, h))

-- Digits counted: of those of the number, the ones of what is left are still to count, but for one.
pub record Counting (number count left : ℕ) : Type 0 where
  pub to_count : count + length (decimal left) ≡ length (decimal number) + 1
  pub few : count ≤ most_digits

pub counting_turn : {number count left : ℕ} → number < 4294967296 → Counting number count left → 9 < left →
    Counting number (count + 1) (left / 10)
counting_turn {number} {count} {left} small c more =
    record {
      to_count = omega (arith, c.to_count, digit_more left more);
      few = omega (arith, c.to_count, digit_more left more, some_digit (left / 10), decimal-short number small);
    }

pub counting_end : {number count left : ℕ} → Counting number count left → left ≤ 9 → (count ≡ length (decimal number))
    × (count ≤ most_digits)
counting_end {number} {count} {left} c last = (omega (arith, c.to_count, one_digit left last), c.few)

-- Digits written from the last to the first: behind the place stand the digits that are done, and what is left has those before it.
pub record Spelling (before : List ℕ) (at number : ℕ) (text : List ℕ) (place left : ℕ) : Type 0 where
  pub done : List ℕ
  pub so_far : text ≡ put before place done
  pub whole : decimal left ++ done ≡ decimal number
  pub place_is : place ≡ at + length (decimal left)
  pub inside : at + length (decimal number) ≤ length before

spelling_length : {before : List ℕ} {at number : ℕ} {text : List ℕ} {place left : ℕ} (s : Spelling before at number text place left) →
    length (decimal left) + length s.done ≡ length (decimal number)
spelling_length {before} {at} {number} {text} {place} {left} s = sym (length-append (decimal left) s.done) ∙ ap length s.whole

pub spelling_long : {before : List ℕ} {at number : ℕ} {text : List ℕ} {place left : ℕ} → Spelling before at number text place left →
    length text ≡ length before
spelling_long {before} {at} {number} {text} {place} {left} s =
    ap length s.so_far ∙ length-put before place s.done (omega (arith, s.place_is, spelling_length s, s.inside))

pub spelling_begin : (before : List ℕ) (at number count : ℕ) → count ≡ length (decimal number) →
    at + length (decimal number) ≤ length before →
    Spelling before at number before (at + count) number
spelling_begin before at number count e h =
    record {
      done = [];
      so_far = sym (put-nil before (at + count));
      whole = append-nil (decimal number);
      place_is = ap (λ (n : ℕ). at + n) e;
      inside = h;
    }

module _ {before : List ℕ} {at number : ℕ} {text : List ℕ} {place left : ℕ} (s : Spelling before at number text place left) where
  -- the place lies behind the start, and in the slice
  pub place_behind : at < place
  place_behind = omega (arith, s.place_is, some_digit left)

  pub place_inside : place ≤ length before
  place_inside = omega (arith, s.place_is, spelling_length s, s.inside)

  pub spelling_turn : (digit : ℕ) → 9 < left → digit ≡ 48 + left % 10 → (at' : ℕ) → at' + 1 ≡ place →
      Spelling before at number (set text at' digit) at' (left / 10)
  spelling_turn digit more e at' p =
      record {
        done = digit ∷ s.done;
        so_far =
            set-put text at' digit (omega (arith, p, place_inside, spelling_long s))
            ∙ ap (λ (l : List ℕ). put l at' (digit ∷ [])) (s.so_far ∙ ap (λ (n : ℕ). put before n s.done) (sym p))
            ∙ put-before before at' (digit ∷ []) s.done (omega (arith, p, place_inside));
        whole =
            sym (append_assoc (decimal (left / 10)) (digit ∷ []) s.done)
            ∙ ap (λ (d : ℕ). (decimal (left / 10) ++ (d ∷ [])) ++ s.done) e
            ∙ ap (λ (l : List ℕ). l ++ s.done) (sym (decimal_more left more))
            ∙ s.whole;
        place_is = omega (arith, s.place_is, digit_more left more, p);
        inside = s.inside;
      }

  pub spelling_end : (digit : ℕ) → left ≤ 9 → digit ≡ 48 + left → (count : ℕ) → count ≡ length (decimal number) →
      Wrote before (set text at digit) at (at + count) (decimal number)
  spelling_end digit last e count c =
      let first-place : place ≡ at + 1 = omega (arith, s.place_is, one_digit left last) in
      record {
        there =
            set-put text at digit (omega (arith, first-place, place_inside, spelling_long s))
            ∙ ap (λ (l : List ℕ). put l at (digit ∷ [])) (s.so_far ∙ ap (λ (n : ℕ). put before n s.done) first-place)
            ∙ put-before before at (digit ∷ []) s.done (omega (arith, first-place, place_inside))
            ∙ ap (put before at) (ap (λ (d : ℕ). d ∷ s.done) e ∙ ap (λ (l : List ℕ). l ++ s.done) (sym (decimal_one left last))
            ∙ s.whole);
        next_place = ap (λ (n : ℕ). at + n) c;
        inside = s.inside;
      }

-- Bytes written in hexadecimal, one after another.
pub record Hexing (before : List ℕ) (at : ℕ) (bytes text : List ℕ) (next i : ℕ) : Type 0 where
  pub within : i ≤ length bytes
  pub wrote : Wrote before text at next (hex (part bytes 0 i))
  pub next_is : next ≡ at + 2 * i

pub hexing_begin : (before : List ℕ) (at : ℕ) (bytes : List ℕ) → at ≤ length before → Hexing before at bytes before at 0
unfolding hex
hexing_begin before at bytes h =
    let none : hex (part bytes 0 0) ≡ [] = ap hex (part_none bytes 0) ∙ joined-none in
    record { within = omega arith; wrote = wrote_as (sym none) (wrote_none before at h); next_is = omega arith }

hex_more : (bytes : List ℕ) (i : ℕ) → i < length bytes → hex (part bytes 0 i) ++ hex_byte (byte_at bytes i) ≡ hex (part bytes 0 (i + 1))
unfolding hex
hex_more bytes i h =
    sym (joined-map_more hex_byte (part bytes 0 i) (byte_at bytes i))
    ∙ ap (λ (l : List ℕ). joined (map hex_byte (part bytes 0 i ++ l))) (sym (part_one bytes i h))
    ∙ ap (λ (l : List ℕ). joined (map hex_byte l)) (part-part_front bytes i 1)

module _ {before : List ℕ} {at : ℕ} {bytes text : List ℕ} {next i : ℕ} (x : Hexing before at bytes text next i) where
  pub hexing_turn : {text' : List ℕ} {next' : ℕ} (high low : ℕ) → i < length bytes → high ≡ hex_digit (byte_at bytes i / 16) →
      low ≡ hex_digit (byte_at bytes i % 16) → Wrote text text' next next' (high ∷ low ∷ []) →
      Hexing before at bytes text' next' (i + 1)
  hexing_turn high low more eh el two =
      let pair : high ∷ low ∷ [] ≡ hex_byte (byte_at bytes i) =
      ap (λ (h : ℕ). h ∷ low ∷ []) eh ∙ ap (λ (l : ℕ). hex_digit (byte_at bytes i / 16) ∷ l ∷ []) el in
      record {
        within = omega (arith, more);
        wrote =
            wrote_as (ap (λ (l : List ℕ). hex (part bytes 0 i) ++ l) pair ∙ hex_more bytes i more) (wrote_then x.wrote two);
        next_is = omega (arith, x.next_is, two.next_place);
      }

  pub hexing_end : length bytes ≤ i → Wrote before text at next (hex bytes)
  hexing_end past =
      let all : i ≡ length bytes = omega (arith, x.within, past) in
      wrote_as (ap hex (ap (λ (n : ℕ). part bytes 0 n) all ∙ part_all bytes)) x.wrote
