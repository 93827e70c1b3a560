-- The segment table: where an entry lies, and the invariants of the loops that go through it. An entry's width is a number of its own, so
-- that nothing here changes when another edition of the header brings wider entries.
use Prim.Native.Nat.{ℕ, ◌+◌, ◌*◌, ◌/◌, ◌%◌, ◌<◌, ◌≤◌}
use mathlib.Core.Path.{◌≡◌, refl, sym, ap, ◌∙◌}
use mathlib.Core.Bool.{Bool, true, false, not, ◌||◌}
use mathlib.Core.List.{List}
use native.Mathlib.Omega.{arith}
use lib.Dec.{eqb, leb}
use borrow.Author.Tests.{eq-eqb, ne_eqb, eqb-true, eqb-false, leb-true, leb-false, not-false}
use Rattle.octets.specs.Count.{any, sum_to}
use Rattle.octets.proofs.Numbers.{mul-before}
use Rattle.octets.proofs.Counts.{or-false-left, or-false-right, any_none, any_more, sum-none, sum_more}
use Rattle.packet.specs.Header.{header_length, segment_count}
use Rattle.packet.specs.Segments.{b_bit, e_bit, length_values, entry_at, begins_in, ends_in, length_in, length_at}
use Rattle.packet.specs.Psp.{bad_entry, bad_at}

-- the first two bytes of entry k lie in a packet that has room for n entries
pub entry_within : (width k n room : ℕ) → 2 ≤ width → k < n → header_length + width * n ≤ room → header_length + width * k + 1 < room
entry_within width k n room w h r = omega (arith, mul-before width k n h)

-- how long the segments of the first k of n entries are together
pub record Summing (width : ℕ) (sub : List ℕ) (n total k : ℕ) : Type 0 where
  pub within : k ≤ n
  pub sum : total ≡ sum_to (length_at width sub) k
  pub small : total ≤ length_values * k

pub sum-begin : (width : ℕ) (sub : List ℕ) (n : ℕ) → Summing width sub n 0 0
sum-begin width sub n = record { within = omega arith; sum = sym (sum-none (length_at width sub)); small = omega arith }

pub sum_turn : {width : ℕ} {sub : List ℕ} {n total k entry size : ℕ} →
    Summing width sub n total k → k < n → entry ≡ entry_at width sub k → size ≡ length_in entry → Summing width sub n (total + size) (k + 1)
sum_turn {width} {sub} {n} {total} {k} {entry} {size} s l e z =
    let size_is : size ≡ length_at width sub k = z ∙ ap length_in e in
    let less : size < length_values = omega arith in
    record {
      within = omega arith;
      sum = rw (sum_more (length_at width sub) k, s.sum, size_is) refl;
      small = omega (arith, s.small);
    }

-- An entry of 16 bits between the first and the last is bad where it is not above B and E.
abbrev marks : ℕ → Bool
marks entry = eqb (length_in entry) 0 || not (begins_in entry) || not (ends_in entry)

marks_by : (low fault : Bool) (entry : ℕ) → entry < 65536 → leb entry (b_bit + e_bit) ≡ low → marks entry ≡ fault → low ≡ fault
marks_by true true entry small l f = refl
marks_by true false entry small l f =
    let whole = or-false-left (eqb (length_in entry) 0 || not (begins_in entry)) (not (ends_in entry)) f in
    let ends : entry / e_bit % 2 ≡ 1 =
    eqb-true _ _ (not-false (ends_in entry) (or-false-right (eqb (length_in entry) 0 || not (begins_in entry)) (not (ends_in entry)) f)) in
    let begins : entry / b_bit % 2 ≡ 1 =
    eqb-true _ _ (not-false (begins_in entry) (or-false-right (eqb (length_in entry) 0) (not (begins_in entry)) whole)) in
    let some : entry % length_values ≡ 0 → ⊥ = eqb-false _ _ (or-false-left (eqb (length_in entry) 0) (not (begins_in entry)) whole) in
    let below : entry ≤ b_bit + e_bit = leb-true _ _ l in
    absurd (omega (arith, some))
marks_by false fault entry small l f =
    let above : b_bit + e_bit < entry = leb-false _ _ l in
    let some : eqb (length_in entry) 0 ≡ false = ne_eqb (length_in entry) 0 (λ z. omega arith) in
    let begins : begins_in entry ≡ true = eq-eqb (entry / b_bit % 2) 1 (omega arith) in
    let ends : ends_in entry ≡ true = eq-eqb (entry / e_bit % 2) 1 (omega arith) in
    sym (rw (some, begins, ends) refl) ∙ f

pub middle_bad : (n k entry : ℕ) → 1 ≤ k → k + 1 < n → entry < 65536 → leb entry (b_bit + e_bit) ≡ bad_entry n k entry
middle_bad n k entry behind before small =
    simp (ne_eqb k 0 (λ z. omega arith), ne_eqb (k + 1) n (λ z. omega arith))
    (marks_by (leb entry (b_bit + e_bit)) (marks entry) entry small refl refl)

-- what the survey of a table has found after k of n entries
pub record Surveying (width : ℕ) (sub : List ℕ) (n total : ℕ) (spoilt : Bool) (k : ℕ) : Type 0 where
  pub summed : Summing width sub n total k
  pub faults : spoilt ≡ any (bad_at width sub) k

pub survey_turn : {width : ℕ} {sub : List ℕ} {total : ℕ} {spoilt : Bool} {k : ℕ} {count entry size : ℕ} {bad : Bool} →
    Surveying width sub count total spoilt k → k < count → count ≡ segment_count sub → entry ≡ entry_at width sub k →
    size ≡ length_in entry → bad ≡ bad_entry count k entry → Surveying width sub count (total + size) (spoilt || bad) (k + 1)
survey_turn {width} {sub} {total} {spoilt} {k} {count} {entry} {size} {bad} s l c e z b =
    let bad-is : bad ≡ bad_at width sub k = b ∙ ap (bad_entry count k) e ∙ ap (λ (m : ℕ). bad_entry m k (entry_at width sub k)) c in
    record {
      summed = sum_turn s.summed l e z;
      faults = rw (any_more (bad_at width sub) k, s.faults, bad-is) refl;
    }

-- .. after the first
pub survey_first : {width : ℕ} {sub : List ℕ} {count entry size : ℕ} {bad : Bool} →
    1 ≤ count → count ≡ segment_count sub → entry ≡ entry_at width sub 0 →
    size ≡ length_in entry → bad ≡ bad_entry count 0 entry → Surveying width sub count size bad 1
survey_first {width} {sub} {count} {entry} {size} {bad} l c e z b =
    let none : Surveying width sub count 0 false 0 =
    record { summed = sum-begin width sub count; faults = sym (any_none (bad_at width sub)) } in
    let one : Surveying width sub count (0 + size) (false || bad) (0 + 1) = survey_turn none l c e z b in
    let bare : 0 + size ≡ size = omega arith in
    rw bare at one

pub survey_end : {width : ℕ} {sub : List ℕ} {n total : ℕ} {spoilt : Bool} {k : ℕ} →
    Surveying width sub n total spoilt k → n ≤ k → Surveying width sub n total spoilt n
survey_end {width} {sub} {n} {total} {spoilt} {k} s l =
    let done : k ≡ n = omega (arith, s.summed.within) in
    rw done at s
