-- Attribute numbers as whole numbers: "Shapes in constraints are whole numbers and never wrap" (01, "The twelve refusals").
-- Assumes nothing.
use Rattle.std.specs.Prelude.{Bool, false, ◌&&◌, ℕ, ◌+◌, ◌-◌, ltb, eqb, ℤ, pos, negsuc, ◌+ℤ◌, ◌*ℤ◌}
use Rattle.std.specs.Int.Signed.{le_z, lt_z}
pub use Rattle.shape.specs.Whole.{number_of, ceil_div}

-- the parts of a number above and below 0
abbrev pub up_of : ℤ → ℕ
up_of (pos n) = n
up_of (negsuc n) = 0

abbrev pub down_of : ℤ → ℕ
down_of (pos n) = 0
down_of (negsuc n) = n + 1

abbrev pub eq_int : ℤ → ℤ → Bool
eq_int (pos a) (pos b) = eqb a b
eq_int (pos a) (negsuc b) = false
eq_int (negsuc a) (pos b) = false
eq_int (negsuc a) (negsuc b) = eqb a b

-- 0 <= w
unfoldable pub non_negative : ℕ → Bool
non_negative w = le_z (pos 0) (number_of w)

-- 0 < w
unfoldable pub positive : ℕ → Bool
positive w = lt_z (pos 0) (number_of w)

-- 0 <= w < k
unfoldable pub below : ℕ → ℕ → Bool
below w k = le_z (pos 0) (number_of w) && lt_z (number_of w) (pos k)

-- 0 <= s <= l <= n
unfoldable pub in_order : ℕ → ℕ → ℕ → Bool
in_order s l n = le_z (pos 0) (number_of s) && le_z (number_of s) (number_of l) && le_z (number_of l) (pos n)

-- m is the ceiling of (l - s) / stride, under 0 <= s <= l and 0 < stride
unfoldable pub ceiling_is : ℕ → ℕ → ℕ → ℕ → Bool
ceiling_is s l stride m = ltb 0 stride && eqb m (ceil_div (l - s) stride)

-- m is n + low + max(n - 1, 0) * interior + high, under 0 <= interior
unfoldable pub padded_is : ℕ → ℕ → ℕ → ℕ → ℕ → Bool
padded_is low high interior n m =
    le_z (pos 0) (number_of interior) && eq_int (pos m) (pos n +ℤ number_of low +ℤ pos (n - 1) *ℤ number_of interior +ℤ number_of high)
