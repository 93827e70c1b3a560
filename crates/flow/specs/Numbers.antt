-- Sequence numbers modulo 65,536 (document 01, "Opening, closing, listening"): the next one, and how far one lies ahead of
-- another. `ahead`, `next` and `number_at` are shut: the arithmetic is done once, in proofs/Numbers.antt, and cited from there.
use Rattle.std.specs.Prelude.{ℕ, ◌+◌, ◌-◌, ◌%◌}

abbrev pub modulus : ℕ
modulus = 65536

-- d = number - expected, modulo 65,536, for an expected number below the modulus. There are no negative numbers here, so the modulus
-- is added first.
unfoldable pub ahead : ℕ → ℕ → ℕ
ahead number expected = (number + modulus - expected) % modulus

-- number + 1, modulo 65,536
unfoldable pub next : ℕ → ℕ
next number = (number + 1) % modulus

-- The number of the packet at place i of a sender that counts one up from `start`: places are not counted modulo 65,536.
unfoldable pub number_at : ℕ → ℕ → ℕ
number_at start i = (start + i) % modulus
