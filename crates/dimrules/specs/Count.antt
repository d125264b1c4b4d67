-- Tests at every number below one: the first that fails, and whether none does. Sums.
-- Assumes nothing.
use Rattle.std.specs.Prelude.{Bool, not, ℕ, zero, suc, ◌+◌, eqb}
use Rattle.lists.specs.Lists.{tab, first_where}

-- the first of 0 .. n - 1 that fails the test; n where none does
unfoldable pub first_failing : ℕ → (ℕ → Bool) → ℕ
first_failing n t = first_where (λ d. not (t d)) (tab n (λ d. d))

-- each of 0 .. n - 1 passes the test
unfoldable pub everywhere : ℕ → (ℕ → Bool) → Bool
everywhere n t = eqb (first_failing n t) n

-- the sum of f 0 .. f (n - 1)
abbrev pub sum_below : ℕ → (ℕ → ℕ) → ℕ
sum_below zero f = 0
sum_below (suc n) f = sum_below n f + f n
