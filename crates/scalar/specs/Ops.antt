-- What each operation gives on slots (01, "Element by element").
-- Assumes nothing.
use Rattle.std.specs.Prelude.{ℕ, ◌/◌, ◌%◌, ◌^◌, Bool, not, ◌||◌, pos, negsuc, ◌+ℤ◌, ◌-ℤ◌, ◌*ℤ◌, neg_ℤ, ◌==◌, bit_and, bit_or, bit_xor, int_le, int_lt, unsigned_abs}
use Rattle.std.specs.Int.Signed.{shr_z}
use Rattle.std.specs.Int.Count.{ones_in, count_leading_zeros}
use Rattle.lists.specs.Lists.{pick}
use Rattle.element.specs.Types.{width_of, bool_of, lowest_of, highest_of, all_of, slot_of, value_of, wrap_to}
use Rattle.element.specs.declared.ElementType.{ElementType}
use Rattle.scalar.specs.declared.Unary.{Unary}
use Rattle.scalar.specs.declared.Unary.TheVariants.{Negate, Abs, Sign, Not, CountLeadingZeros, Popcnt}
use Rattle.scalar.specs.declared.Binary.{Binary}
use Rattle.scalar.specs.declared.Binary.TheVariants.{Add, Subtract, Multiply, Maximum, Minimum, And, Or, Xor, ShiftLeft, ShiftRightArithmetic, ShiftRightLogical}
use Rattle.scalar.specs.declared.Direction.{Direction}
use Rattle.scalar.specs.declared.Direction.TheVariants.{Eq, Ne, Ge, Gt, Le, Lt}

-- "add, subtract, multiply, negate, iota, convert wrap. On `i1`, add is or, multiply is and"
unfoldable pub add_of : ElementType → ℕ → ℕ → ℕ
add_of t a b = pick (bool_of t) (bit_or a b) (wrap_to t (value_of t a +ℤ value_of t b))

unfoldable pub subtract_of : ElementType → ℕ → ℕ → ℕ
subtract_of t a b = wrap_to t (value_of t a -ℤ value_of t b)

unfoldable pub multiply_of : ElementType → ℕ → ℕ → ℕ
multiply_of t a b = pick (bool_of t) (bit_and a b) (wrap_to t (value_of t a *ℤ value_of t b))

unfoldable pub negate_of : ElementType → ℕ → ℕ
negate_of t a = wrap_to t (neg_ℤ (value_of t a))

-- element k of an iota dimension
unfoldable pub iota_of : ElementType → ℕ → ℕ
iota_of t k = wrap_to t (pos k)

-- from one type to another: "To `i1`, convert gives false for zero, else true"
unfoldable pub convert_of : ElementType → ElementType → ℕ → ℕ
convert_of from to a = pick (bool_of to) (pick (a == 0) 0 1) (wrap_to to (value_of from a))

-- "abs of the lowest value saturates to the highest"
unfoldable pub abs_of : ElementType → ℕ → ℕ
abs_of t a = pick (int_lt (value_of t a) (pos 0)) (pick (a == lowest_of t) (highest_of t) (slot_of (neg_ℤ (value_of t a)))) a

-- -1, 0 or 1
unfoldable pub sign_of : ElementType → ℕ → ℕ
sign_of t a = pick (int_lt (value_of t a) (pos 0)) (slot_of (negsuc 0)) (pick (a == 0) 0 1)

-- "maximum, minimum, compare by value; on `i1` false is below true"
unfoldable pub lt_of : ElementType → ℕ → ℕ → Bool
lt_of t a b = int_lt (value_of t a) (value_of t b)

unfoldable pub maximum_of : ElementType → ℕ → ℕ → ℕ
maximum_of t a b = pick (lt_of t a b) b a

unfoldable pub minimum_of : ElementType → ℕ → ℕ → ℕ
minimum_of t a b = pick (lt_of t b a) b a

-- two slots of a type are equal where their values are
abbrev pub holds : Direction → ElementType → ℕ → ℕ → Bool
holds Eq t a b = a == b
holds Ne t a b = not (a == b)
holds Ge t a b = not (lt_of t a b)
holds Gt t a b = lt_of t b a
holds Le t a b = not (lt_of t b a)
holds Lt t a b = lt_of t a b

unfoldable pub compare_of : Direction → ElementType → ℕ → ℕ → ℕ
compare_of d t a b = pick (holds d t a b) 1 0

-- "and, or, xor, not": a slot repeats the sign of its value above the type's width, and so does the result
abbrev pub and_of : ElementType → ℕ → ℕ → ℕ
and_of t a b = bit_and a b

abbrev pub or_of : ElementType → ℕ → ℕ → ℕ
or_of t a b = bit_or a b

abbrev pub xor_of : ElementType → ℕ → ℕ → ℕ
xor_of t a b = bit_xor a b

-- every bit of the value changed
unfoldable pub not_of : ElementType → ℕ → ℕ
not_of t a = bit_xor a (all_of t)

-- "count_leading_zeros and popcnt over the type's width"
unfoldable pub count_leading_zeros_of : ElementType → ℕ → ℕ
count_leading_zeros_of t a = count_leading_zeros (width_of t) (a % 2 ^ width_of t)

unfoldable pub popcnt_of : ElementType → ℕ → ℕ
popcnt_of t a = ones_in (width_of t) a

-- "an amount below 0 or at least the width"
abbrev pub amount_out : ElementType → ℕ → Bool
amount_out t b = int_lt (value_of t b) (pos 0) || int_le (pos (width_of t)) (value_of t b)

-- 2 to the power of an amount that is not out
abbrev pub amount_power : ElementType → ℕ → ℕ
amount_power t b = 2 ^ unsigned_abs (value_of t b)

unfoldable pub shift_left_of : ElementType → ℕ → ℕ → ℕ
shift_left_of t a b = pick (amount_out t b) 0 (wrap_to t (value_of t a *ℤ pos (amount_power t b)))

-- the value is divided, rounded down: a negative one keeps its sign, an unsigned one gets zeros;
-- an amount out "gives 0, and -1 for shift_right_arithmetic of a negative"
unfoldable pub shift_right_arithmetic_of : ElementType → ℕ → ℕ → ℕ
shift_right_arithmetic_of t a b =
    slot_of (pick (amount_out t b) (pick (int_lt (value_of t a) (pos 0)) (negsuc 0) (pos 0)) (shr_z (value_of t a) (amount_power t b)))

-- the bits of the value, over the type's width, moved down
unfoldable pub shift_right_logical_of : ElementType → ℕ → ℕ → ℕ
shift_right_logical_of t a b = pick (amount_out t b) 0 (wrap_to t (pos (a % 2 ^ width_of t / amount_power t b)))

-- "clamp is minimum(maximum(x, min), max), even if min exceeds max"
unfoldable pub clamp_of : ElementType → ℕ → ℕ → ℕ → ℕ
clamp_of t min x max = minimum_of t (maximum_of t x min) max

-- on_true where pred is not false
unfoldable pub select_of : ℕ → ℕ → ℕ → ℕ
select_of pred on_true on_false = pick (pred == 0) on_false on_true

abbrev pub unary_of : Unary → ElementType → ℕ → ℕ
unary_of Negate = negate_of
unary_of Abs = abs_of
unary_of Sign = sign_of
unary_of Not = not_of
unary_of CountLeadingZeros = count_leading_zeros_of
unary_of Popcnt = popcnt_of

abbrev pub binary_of : Binary → ElementType → ℕ → ℕ → ℕ
binary_of Add = add_of
binary_of Subtract = subtract_of
binary_of Multiply = multiply_of
binary_of Maximum = maximum_of
binary_of Minimum = minimum_of
binary_of And = and_of
binary_of Or = or_of
binary_of Xor = xor_of
binary_of ShiftLeft = shift_left_of
binary_of ShiftRightArithmetic = shift_right_arithmetic_of
binary_of ShiftRightLogical = shift_right_logical_of
