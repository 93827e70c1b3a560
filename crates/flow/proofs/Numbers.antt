-- The arithmetic of numbers modulo 65,536, done once. `ahead`, `next` and `number_at` are shut, so receiver, sender and D-MPT
-- cite these laws and prove none of it again.
use Prim.Native.Nat.{ℕ, ◌+◌, ◌-◌, ◌%◌, ◌<◌, ◌≤◌}
use mathlib.Core.Path.{◌≡◌}
use native.Mathlib.Omega.{arith}
use Rattle.flow.specs.Numbers.{modulus, ahead, next, number_at}
use Rattle.flow.specs.Flow.{half}

-- A number is below the modulus, and so is a distance.
pub next_below : (n : ℕ) → next n < modulus
unfolding next
next_below n = omega arith

pub ahead_below : (n e : ℕ) → ahead n e < modulus
unfolding ahead
ahead_below n e = omega arith

pub number_at_below : (s i : ℕ) → number_at s i < modulus
unfolding number_at
number_at_below s i = omega arith

-- The expected number is 0 ahead; the number that was accepted last, which is the one before it, is a whole turn less one ahead.
pub ahead-same : (n : ℕ) → n < modulus → ahead n n ≡ 0
unfolding ahead
ahead-same n h = omega arith

pub ahead_again : (n : ℕ) → n < modulus → ahead n (next n) ≡ modulus - 1
unfolding ahead next
ahead_again n h = omega arith

-- Going on by the distance leads from the expected number to the one that arrived.
pub ahead_leads : (n e : ℕ) → n < modulus → e < modulus → (e + ahead n e) % modulus ≡ n
unfolding ahead
ahead_leads n e hn he = omega arith

-- The sender's numbers: the first is its start, and each is the next of the one before.
pub number_at-first : (s : ℕ) → s < modulus → number_at s 0 ≡ s
unfolding number_at
number_at-first s h = omega arith

pub number_at-next : (s i : ℕ) → next (number_at s i) ≡ number_at s (i + 1)
unfolding next number_at
number_at-next s i = omega arith

-- From its second packet on, it numbers as one that starts with the next number.
pub number_at-from-next : (s i : ℕ) → number_at (next s) i ≡ number_at s (i + 1)
unfolding next number_at
number_at-from-next s i = omega arith

-- .. and as one that starts with the number of any of its packets.
pub number_at_on : (s n i : ℕ) → number_at (number_at s n) i ≡ number_at s (n + i)
unfolding number_at
number_at_on s n i = omega arith

-- Within document 01's bound the distance on numbers is the distance on places: at most 32,767 ahead it is that distance, ..
pub ahead_forward : (s m i : ℕ) → m ≤ i → i < m + half → ahead (number_at s i) (number_at s m) ≡ i - m
unfolding ahead number_at
ahead_forward s m i from to = omega arith

-- .. and from 1 to 32,768 behind it is half a turn or more.
pub ahead_behind : (s m i : ℕ) → i < m → m ≤ i + half → half ≤ ahead (number_at s i) (number_at s m)
unfolding ahead number_at
ahead_behind s m i from to = omega arith
