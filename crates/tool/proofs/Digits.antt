-- How a number is read, digit by digit: what the digits from the first place on say is what is read so far with those that are left
-- (`Reading`, the loop's invariant).
use Prim.Native.Nat.{ℕ, suc, ◌+◌, ◌*◌, ◌<◌, ◌≤◌}
use mathlib.Core.Path.{◌≡◌, refl, sym, ap, ◌∙◌}
use mathlib.Core.Bool.{Bool, true, false, cond, ◌&&◌, ◌||◌}
use mathlib.Core.List.{List, [], ◌∷◌}
use Rattle.std.specs.Prelude.{Some, None}
use native.Mathlib.Omega.{arith}
use native.Mathlib.Nat.{mul-suc, mul-le-mul_left, mul-le-mul_right}
use lib.Dec.{leb, ltb}
use lib.ListN.{length}
use borrow.Author.Tests.{leb-true, leb-false, ltb-true, ltb-false, lt-ltb, le-ltb}
use Rattle.octets.specs.Bytes.{byte_at}
use Rattle.octets.specs.Stretch.{rest}
use Rattle.octets.proofs.Counts.{or-false-left, or-false-right}
use Rattle.octets.proofs.Stretches.{rest_byte, rest_past, rest-none}
use Rattle.tool.specs.Number.{digit_of, are_digits, value_from, value_of, digit_said, said_by, is_hexadecimal, said}

-- a number does not fall as digits are read
value_grows : (base value : ℕ) (l : List ℕ) → 1 ≤ base → value ≤ value_from base value l
unfolding value_from
value_grows base value [] h = omega arith
value_grows base value (byte ∷ more) h =
    let times : 1 * value ≤ base * value = mul-le-mul_right value h in
    omega (arith, times, value_grows base (base * value + digit_of byte) more h)

-- what a byte says as a digit
pub no_digit_said : (byte : ℕ) → None ≡ digit_said byte → 16 ≤ digit_of byte
no_digit_said byte = by (ltb (digit_of byte) 16) refl
  where
    by : (t : Bool) → ltb (digit_of byte) 16 ≡ t → None ≡ cond t (Some (digit_of byte)) None → 16 ≤ digit_of byte
    by true e h = grind (arith, h)
    by false e h = omega (arith, ltb-false (digit_of byte) 16 e)

pub digit_is : (digit byte : ℕ) → Some digit ≡ digit_said byte → (digit ≡ digit_of byte) × (digit < 16)
digit_is digit byte = by (ltb (digit_of byte) 16) refl
  where
    by : (t : Bool) → ltb (digit_of byte) 16 ≡ t → Some digit ≡ cond t (Some (digit_of byte)) None → (digit ≡ digit_of byte) × (digit < 16)
    by true e h = let is : digit ≡ digit_of byte = grind (arith, h) in (is, omega (arith, is, ltb-true (digit_of byte) 16 e))
    by false e h = grind (arith, h)

pub record Reading (base greatest : ℕ) (text : List ℕ) (value i : ℕ) : Type 0 where
  pub inside : i ≤ length text
  pub digits-left : are_digits base text ≡ are_digits base (rest text i)
  pub value_left : value_of base text ≡ value_from base value (rest text i)
  pub below : value < base * (greatest + 1)

module _ (base greatest : ℕ) (text : List ℕ) (some : 1 ≤ base) where
  abbrev limit : ℕ
  limit = base * (greatest + 1)

  pub read-begin : Reading base greatest text 0 0
  read-begin =
      let least : base * 1 ≤ limit = mul-le-mul_left base (omega arith) in
      record {
        inside = omega arith;
        digits-left = ap (are_digits base) (sym (rest-none text));
        value_left = ap (value_of base) (sym (rest-none text));
        below = omega (arith, least);
      }

  module _ {value i : ℕ} (r : Reading base greatest text value i) where
    -- one digit more
    module _ (more : i < length text) where
      pub read_turn : (digit : ℕ) → Some digit ≡ digit_said (byte_at text i) → (leb base digit || ltb greatest value) ≡ false →
          Reading base greatest text (base * value + digit) (i + 1)
      unfolding are_digits value_from
      read_turn digit said right =
          let e = (digit_is digit (byte_at text i) said).0 in
          let small : digit < base = leb-false base digit (or-false-left (leb base digit) (ltb greatest value) right) in
          let room : value ≤ greatest = ltb-false greatest value (or-false-right (leb base digit) (ltb greatest value) right) in
          let next = rest_byte text i more in
          let is_digit : ltb (digit_of (byte_at text i)) base ≡ true = ap (λ (d : ℕ). ltb d base) (sym e) ∙ lt-ltb digit base small in
          let room-left : base * suc value ≤ limit = mul-le-mul_left base (omega (arith, room)) in
          record {
            inside = omega (arith, more);
            digits-left =
                r.digits-left ∙ ap (are_digits base) next ∙ ap (λ (t : Bool). t && are_digits base (rest text (i + 1))) is_digit;
            value_left =
                r.value_left ∙ ap (value_from base value) next
                ∙ ap (λ (d : ℕ). value_from base (base * value + d) (rest text (i + 1))) (sym e);
            below = omega (arith, room-left, mul-suc base value, small);
          }

      -- a byte that is no digit, and a digit too many
      read_other : base ≤ digit_of (byte_at text i) → None ≡ said_by base limit text
      unfolding are_digits said_by
      read_other large =
          let no_digit : ltb (digit_of (byte_at text i)) base ≡ false = le-ltb (digit_of (byte_at text i)) base large in
          let wrong : are_digits base text ≡ false =
          r.digits-left ∙ ap (are_digits base) (rest_byte text i more)
          ∙ ap (λ (t : Bool). t && are_digits base (rest text (i + 1))) no_digit in
          rw wrong (by (ltb 0 (length text)))
        where
          by : (t : Bool) → None ≡ cond (t && false) (Some (value_of base text)) None
          by true = refl
          by false = refl

      said-next : value_of base text ≡ value_from base (base * value + digit_of (byte_at text i)) (rest text (i + 1))
      unfolding value_from
      said-next = r.value_left ∙ ap (value_from base value) (rest_byte text i more)

      read_long : greatest < value → None ≡ said_by base limit text
      unfolding said_by
      read_long long =
          let times : limit ≤ base * value = mul-le-mul_left base (omega (arith, long)) in
          let grown = value_grows base (base * value + digit_of (byte_at text i)) (rest text (i + 1)) some in
          let over : ltb (value_of base text) limit ≡ false =
          le-ltb (value_of base text) limit (omega (arith, said-next, grown, times)) in
          rw over (by (ltb 0 (length text)) (are_digits base text))
        where
          by : (t d : Bool) → None ≡ cond (t && (d && false)) (Some (value_of base text)) None
          by true true = refl
          by true false = refl
          by false d = refl

      pub read_nothing : base ≤ 16 → None ≡ digit_said (byte_at text i) → None ≡ said_by base limit text
      read_nothing low h = read_other (omega (arith, low, no_digit_said (byte_at text i) h))

      pub read_wrong : (digit : ℕ) → Some digit ≡ digit_said (byte_at text i) → (leb base digit || ltb greatest value) ≡ true →
          None ≡ said_by base limit text
      read_wrong digit said h = by (leb base digit) refl
        where
          is : digit ≡ digit_of (byte_at text i)
          is = (digit_is digit (byte_at text i) said).0

          by : (t : Bool) → leb base digit ≡ t → None ≡ said_by base limit text
          by true e = read_other (omega (arith, is, leb-true base digit e))
          by false e = read_long (ltb-true greatest value (sym (ap (λ (t : Bool). t || ltb greatest value) e) ∙ h))

    -- no digit more
    pub read_end : length text ≤ i → 1 ≤ length text → Some value ≡ said_by base limit text
    unfolding said_by are_digits value_from
    read_end past full =
        let at_end : rest text i ≡ [] = rest_past text i past in
        let there : ltb 0 (length text) ≡ true = lt-ltb 0 (length text) full in
        let all : are_digits base text ≡ true = r.digits-left ∙ ap (are_digits base) at_end in
        let is : value_of base text ≡ value = r.value_left ∙ ap (value_from base value) at_end in
        let low : ltb value limit ≡ true = lt-ltb value limit r.below in
        rw (there, all, is, low) refl

  pub read_none : length text ≡ 0 → None ≡ said_by base limit text
  unfolding said_by
  read_none empty = rw empty refl

-- the two ways to say a number
pub said_hexadecimal : (text : List ℕ) → is_hexadecimal text ≡ true → said_by 16 (16 * (268435455 + 1)) (rest text 2) ≡ said text
unfolding said
said_hexadecimal text h = rw h refl

pub said-decimal : (text : List ℕ) → is_hexadecimal text ≡ false → said_by 10 (10 * (999999999 + 1)) text ≡ said text
unfolding said
said-decimal text h = rw (h, rest-none text) refl
