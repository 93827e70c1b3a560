-- The checksum of a header is right (RFC 1071): the ones' complement sum of a header that has it is 0xFFFF.
use Prim.Native.Nat.{ℕ, ◌+◌, ◌-◌, ◌*◌, ◌/◌, ◌<◌, ◌≤◌}
use mathlib.Core.Path.{◌≡◌, ap, ◌∙◌}
use mathlib.Core.Bool.{true, false}
use mathlib.Core.Logic.{⊎_elim}
use native.Mathlib.Omega.{arith}
use lib.Dec.{ltb}
use borrow.Author.Tests.{ltb-true, ltb-false}
use Rattle.octets.specs.Bytes.{be16_at, two}
use Rattle.octets.specs.Count.{sum_to}
use Rattle.octets.proofs.Counts.{true-or-false}
use Rattle.pcap.specs.declared.Addresses.{Addresses}
use Rattle.pcap.specs.Ipv4.{word_sum, folded, ones_sum, checksum, ipv4_with, ipv4_header}

-- a multiple of 0xFFFF is folded into that
sum_full : (n : ℕ) → 0 < n → n < 20 → folded (65535 * n) ≡ 65535
sum_full n one small = omega arith

multiple : (m n : ℕ) → m ≡ 65535 * n → 0 < n → n < 20 → folded (folded m) ≡ 65535
multiple m n e one small = ap (λ (k : ℕ). folded (folded k)) e ∙ ap folded (sum_full n one small)

-- The sum of ten words and what is missing to 0xFFFF: of 65536 h + l it is h + 1 times 0xFFFF, or h + 2 times where h and l overflow again.
module _ (s : ℕ) (some : 0 < s) (few : s < 655360) where
  fits_once : folded s < 65536 → s + (65535 - folded (folded s)) ≡ 65535 * (s / 65536 + 1)
  fits_once fits = let same : folded (folded s) ≡ folded s = omega arith in omega arith

  overflows_once : 65536 ≤ folded s → s + (65535 - folded (folded s)) ≡ 65535 * (s / 65536 + 2)
  overflows_once over = let less : folded (folded s) + 65535 ≡ folded s = omega arith in omega arith

  pub folded_full : folded (folded (s + (65535 - folded (folded s)))) ≡ 65535
  folded_full =
      let m = s + (65535 - folded (folded s)) in
      ⊎_elim
      (λ (h : ltb (folded s) 65536 ≡ true).
      multiple m (s / 65536 + 1) (fits_once (ltb-true (folded s) 65536 h)) (omega arith) (omega arith))
      (λ (h : ltb (folded s) 65536 ≡ false).
      multiple m (s / 65536 + 2) (overflows_once (ltb-false (folded s) 65536 h)) (omega arith) (omega arith))
      (true-or-false (ltb (folded s) 65536))

-- a number that was written as two bytes is a word, and ten words of which the first is 0x4500 have such a sum
word : (n : ℕ) → be16_at (two n) 0 < 65536
word n = omega arith

ten_words : (total carries s t u v : ℕ) → total < 65536 → carries < 65536 → s < 65536 → t < 65536 → u < 65536 → v < 65536 →
    let sum = 0x4500 + total + 0 + 0 + carries + 0 + s + t + u + v in (0 < sum) × (sum < 655360)
ten_words total carries s t u v a b c d e f = (omega arith, omega arith)

-- the sum of a header's words, and what its checksum adds to it
module _ (by : Addresses) (total carried : ℕ) (short : total < 65536) (small : carried < 256) where
  sum_with : (check : ℕ) → check < 65536 →
      word_sum (ipv4_with by total carried check) 10 ≡ word_sum (ipv4_with by total carried 0) 10 + check
  unfolding sum_to
  sum_with check fits = omega arith

  sum_bounds : (0 < word_sum (ipv4_with by total carried 0) 10) × (word_sum (ipv4_with by total carried 0) 10 < 655360)
  unfolding sum_to
  sum_bounds =
      ten_words (be16_at (two total) 0) (64 * 256 + carried)
      (be16_at (two (by.source / 65536)) 0) (be16_at (two by.source) 0)
      (be16_at (two (by.target / 65536)) 0) (be16_at (two by.target) 0)
      (word total) (omega arith) (word (by.source / 65536)) (word by.source) (word (by.target / 65536)) (word by.target)

  pub header_sums : ones_sum (ipv4_header by total carried) ≡ 65535
  header_sums =
      let sum = word_sum (ipv4_with by total carried 0) 10 in
      let check = checksum (ipv4_with by total carried 0) in
      ap (λ (n : ℕ). folded (folded n)) (sum_with check (omega arith)) ∙ folded_full sum sum_bounds.0 sum_bounds.1
