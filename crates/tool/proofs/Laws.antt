-- Reading a number undoes writing it: the text of a number in decimal says that number.
use Rattle.std.specs.Prelude.{Some}
use Prim.Native.Nat.{ℕ, zero, suc, ◌+◌, ◌*◌, ◌/◌, ◌%◌, ◌<◌, ◌≤◌}
use mathlib.Core.Path.{◌≡◌, refl, sym, ap, ◌∙◌}
use mathlib.Core.Bool.{Bool, true, false, ◌&&◌, and-eq-true_iff, true≢false}
use mathlib.Core.List.{List, [], ◌∷◌, ◌++◌}
use native.Mathlib.Omega.{arith}
use native.Mathlib.Nat.{not-suc-le-zero}
use lib.Dec.{eqb, leb, ltb}
use lib.ListN.{length, length-append}
use borrow.Author.Tests.{eqb-true, le-leb, lt-ltb, ltb-true, ltb-false}
use Rattle.octets.proofs.Stretches.{rest-none}
use Rattle.text.specs.Text.{decimal}
use Rattle.text.proofs.Writing.{decimal_one, decimal_more}
use Rattle.tool.specs.Number.{digit_of, are_digits, value_from, value_of, said_by, is_hexadecimal, said}

-- the byte of a digit has its value
digit_value : (d : ℕ) → d < 10 → digit_of (48 + d) ≡ d
digit_value d h =
    let low : leb 48 (48 + d) ≡ true = le-leb 48 (48 + d) (omega arith) in
    let high : leb (48 + d) 57 ≡ true = le-leb (48 + d) 57 (omega arith) in
    rw (low, high) (omega arith)

-- one digit more behind others
value_more : (base value : ℕ) (l : List ℕ) (byte : ℕ) →
    value_from base value (l ++ (byte ∷ [])) ≡ base * value_from base value l + digit_of byte
unfolding value_from
value_more base value [] byte = refl
value_more base value (x ∷ l) byte = value_more base (base * value + digit_of x) l byte

digits_more : (base : ℕ) (l : List ℕ) (byte : ℕ) → are_digits base l ≡ true → ltb (digit_of byte) base ≡ true →
    are_digits base (l ++ (byte ∷ [])) ≡ true
unfolding are_digits
digits_more base [] byte all one = rw one refl
digits_more base (x ∷ l) byte all one =
    let both = (and-eq-true_iff (ltb (digit_of x) base) (are_digits base l)).0 all in
    rw both.0 (digits_more base l byte both.1 one)

-- what the text of a number is
record Says (n : ℕ) : Type 0 where
  all_digits : are_digits 10 (decimal n) ≡ true
  its_value : value_of 10 (decimal n) ≡ n
  some : 1 ≤ length (decimal n)

says_one : (n : ℕ) → n < 10 → Says n
unfolding are_digits value_from
says_one n h =
    let text = decimal_one n (omega arith) in
    let value : digit_of (48 + n) ≡ n = digit_value n h in
    let digit : ltb (digit_of (48 + n)) 10 ≡ true = ap (λ (d : ℕ). ltb d 10) value ∙ lt-ltb n 10 h in
    let sum : 10 * 0 + digit_of (48 + n) ≡ n = omega (arith, value) in
    record {
      all_digits = ap (are_digits 10) text ∙ rw digit refl;
      its_value = ap (value_of 10) text ∙ sum;
      some = omega (arith, ap length text);
    }

says_more : (n : ℕ) → 10 ≤ n → Says (n / 10) → Says n
says_more n h front =
    let text = decimal_more n (omega arith) in
    let value : digit_of (48 + n % 10) ≡ n % 10 = digit_value (n % 10) (omega arith) in
    let digit : ltb (digit_of (48 + n % 10)) 10 ≡ true = ap (λ (d : ℕ). ltb d 10) value ∙ lt-ltb (n % 10) 10 (omega arith) in
    record {
      all_digits = ap (are_digits 10) text ∙ digits_more 10 (decimal (n / 10)) (48 + n % 10) front.all_digits digit;
      its_value =
          let whole = ap (value_of 10) text ∙ value_more 10 0 (decimal (n / 10)) (48 + n % 10) in
          omega (arith, whole, value, front.its_value);
      some = omega (arith, ap length text, length-append (decimal (n / 10)) ((48 + n % 10) ∷ []));
    }

says : (turns n : ℕ) → n < turns → Says n
says zero n h = absurd (not-suc-le-zero h)
says (suc turns) n h = by (ltb n 10) refl (says turns (n / 10))
  where
    by : (t : Bool) → ltb n 10 ≡ t → (n / 10 < turns → Says (n / 10)) → Says n
    by true e more = says_one n (ltb-true n 10 e)
    by false e more = says_more n (ltb-false n 10 e) (more (omega (arith, h, ltb-false n 10 e)))

-- digits alone do not begin as a number in hexadecimal does: x is none of them
no_digit : (y byte : ℕ) → (ltb (digit_of byte) 10 ≡ false) → ltb (digit_of y) 10 ≡ true → eqb y byte ≡ false
no_digit y byte no-digit-there is_digit = by (eqb y byte) refl
  where
    by : (t : Bool) → eqb y byte ≡ t → t ≡ false
    by true e = absurd (true≢false (sym is_digit ∙ ap (λ (n : ℕ). ltb (digit_of n) 10) (eqb-true y byte e) ∙ no-digit-there))
    by false e = refl

digits_alone : (l : List ℕ) → are_digits 10 l ≡ true → is_hexadecimal l ≡ false
unfolding are_digits
digits_alone [] all = refl
digits_alone (x ∷ []) all = refl
digits_alone (x ∷ y ∷ l) all =
    let behind = ((and-eq-true_iff (ltb (digit_of x) 10) (ltb (digit_of y) 10 && are_digits 10 l)).0 all).1 in
    let second = ((and-eq-true_iff (ltb (digit_of y) 10) (are_digits 10 l)).0 behind).0 in
    let long : leb 2 (suc (suc (length l))) ≡ true = le-leb 2 (suc (suc (length l))) (omega arith) in
    rw (long, no_digit y 120 refl second, no_digit y 88 refl second) (by (eqb x 48))
  where
    by : (t : Bool) → (t && false) ≡ false
    by true = refl
    by false = refl

pub said_of_decimal : (n : ℕ) → n < 10000000000 → said (decimal n) ≡ Some n
unfolding said said_by
said_of_decimal n h =
    let t = says (suc n) n (omega arith) in
    let l = decimal n in
    let some : ltb 0 (length l) ≡ true = lt-ltb 0 (length l) t.some in
    let low : ltb n 10000000000 ≡ true = lt-ltb n 10000000000 h in
    rw (digits_alone l t.all_digits, rest-none l, some, t.all_digits, t.its_value, low) refl
