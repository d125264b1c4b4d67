-- The numbers of an attribute list: the place of one, whether it is listed, and how many numbers pass a test.
-- Assumes nothing.
use Rattle.std.specs.Prelude.{List, Bool, ℕ, zero, suc, ◌+◌, length, ltb, eqb}
use Rattle.lists.specs.Lists.{pick, first_where}

-- the first place at which the list has x; its length where it has none
abbrev pub place_in : List ℕ → ℕ → ℕ
place_in l x = first_where (λ y. eqb y x) l

-- x is one of the list's numbers
abbrev pub is_in : List ℕ → ℕ → Bool
is_in l x = ltb (place_in l x) (length l)

-- how many of 0 .. n - 1 pass the test
abbrev pub count_below : (ℕ → Bool) → ℕ → ℕ
count_below t zero = 0
count_below t (suc n) = count_below t n + pick (t n) 1 0
