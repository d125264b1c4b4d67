-- Whole numbers: "Shapes in constraints are whole numbers and never wrap" (01, "The twelve refusals").
-- "An attribute number outside `dense` lies in the signed 64-bit range" (01, "Sizes", 7). The code holds one as a pattern of 64 bits, the number modulo 2^64.
-- Assumes nothing.
use Rattle.std.specs.Prelude.{ℕ, suc, ◌+◌, ◌-◌, ◌/◌, ◌%◌, ◌^◌, ltb, ℤ, pos, negsuc}
use Rattle.lists.specs.Lists.{pick}

-- the pattern of an attribute number: the number modulo 2^64
abbrev pub pattern_of : ℤ → ℕ
pattern_of (pos n) = n % 2 ^ 64
pattern_of (negsuc n) = 2 ^ 64 - suc (n % 2 ^ 64)

-- the attribute number of a pattern
abbrev pub number_of : ℕ → ℤ
number_of w = pick (ltb w (2 ^ 63)) (pos w) (negsuc (2 ^ 64 - 1 - w))

-- the ceiling of a / b
abbrev pub ceil_div : ℕ → ℕ → ℕ
ceil_div a b = (a + b - 1) / b
