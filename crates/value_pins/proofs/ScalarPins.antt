-- The examples of the operations on single values hold, by computing the definitions.
-- Assumes nothing.
use mathlib.Core.Path.{◌≡◌, refl}
use lib.Count.{ones_in, count_leading_zeros}
use Rattle.element.specs.Types.{value_of, wrap_to, slot_for}
use Rattle.division.specs.Division.{division_of}
use Rattle.scalar.specs.Ops.{add_of, subtract_of, multiply_of, negate_of, iota_of, convert_of, abs_of, sign_of, lt_of, maximum_of, minimum_of, compare_of, not_of, count_leading_zeros_of, popcnt_of, shift_left_of, shift_right_arithmetic_of, shift_right_logical_of, clamp_of, select_of}
use Rattle.value_pins.specs.Scalars.{ScalarPinsHold}

pub scalar-pins : ScalarPinsHold
unfolding value_of wrap_to slot_for division_of add_of subtract_of multiply_of negate_of iota_of convert_of abs_of sign_of lt_of maximum_of minimum_of compare_of not_of count_leading_zeros_of popcnt_of shift_left_of shift_right_arithmetic_of shift_right_logical_of clamp_of select_of ones_in count_leading_zeros
scalar-pins = refl
