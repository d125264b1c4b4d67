-- The marked rows hold, by computing the definitions.
-- Assumes nothing.
use mathlib.Core.Path.{refl}
use Rattle.lists.specs.Lists.{first_where, all_below}
use Rattle.element.specs.Types.{value_of, wrap_to, slot_for, is_value}
use Rattle.division.specs.Division.{division_of}
use Rattle.scalar.specs.Ops.{abs_of, add_of, convert_of, shift_right_arithmetic_of, shift_right_logical_of, clamp_of, minimum_of, maximum_of, lt_of}
use Rattle.dimrules.specs.Types.{same_element}
use Rattle.checks.specs.Formula.{compared, is_unique}
use Rattle.op_checks.specs.OpChecks.{same_types_checks, abs_checks, convert_checks, clamp_checks, slice_checks, pad_checks, dynamic_slice_checks, reduce_checks}
use Rattle.opcheck.specs.Judged.{checks_by, broken_by}
use Rattle.marked_rows.specs.Table.{MarkedRowsHold}

pub marked-rows : MarkedRowsHold
unfolding division_of abs_of add_of convert_of shift_right_arithmetic_of shift_right_logical_of clamp_of minimum_of maximum_of lt_of value_of wrap_to slot_for is_value first_where all_below broken_by checks_by compared is_unique same_types_checks abs_checks convert_checks clamp_checks slice_checks pad_checks dynamic_slice_checks reduce_checks same_element
marked-rows = refl
