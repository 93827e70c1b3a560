-- Going through the numbers 0, 1, .. below a bound n. Tables (rows, flows, entries) are read by number, and these four are
-- the ways in which a rule goes through one. A loop that has done k turns has computed the same at k.
use Rattle.std.specs.Prelude.{ℕ, zero, suc, ◌+◌, Bool, false, cond, ◌||◌, List, [], ◌∷◌, ◌++◌}

-- some number below n passes the test
unfoldable pub any : (ℕ → Bool) → ℕ → Bool
any test zero = false
any test (suc n) = any test n || test n

-- the least number below n that passes, or n itself where none does
unfoldable pub least : (ℕ → Bool) → ℕ → ℕ
least test zero = zero
least test (suc n) = cond (any test n) (least test n) (cond (test n) n (suc n))

-- f 0 + f 1 + .. + f (n - 1)
unfoldable pub sum_to : (ℕ → ℕ) → ℕ → ℕ
sum_to f zero = 0
sum_to f (suc n) = sum_to f n + f n

-- the list f 0, f 1, .., f (n - 1)
unfoldable pub up_to : {A : Type 0} → (ℕ → A) → ℕ → List A
up_to f zero = []
up_to f (suc n) = up_to f n ++ (f n ∷ [])
