-- An op judged by its row of the op table: what its tables in 000 take (refusal 7), and its first broken constraint (refusal 8).
-- Assumes nothing.
use Rattle.std.specs.Prelude.{List, Bool, ◌&&◌, ℕ, ◌-◌, ◌≤◌, leb}
use Rattle.shape.specs.Dims.{Sized}
use Rattle.dimrules.specs.Count.{everywhere}
use Rattle.dimrules.specs.Whole.{number_of}
use Rattle.dimrules.specs.Dims.{num}
use Rattle.dimrules.specs.Types.{type_at, AllSized}
use Rattle.optable.specs.Takes.{operand_taken, result_taken}
use Rattle.optable.specs.declared.Row.{Row}
use Rattle.optable.specs.declared.Rule.{Rule}
use Rattle.optable.specs.declared.Rule.TheVariants.{SameTypes, Abs, Broadcast, Clamp, Compare, Concatenate, Constant, Convert, DynamicSlice, Iota, Pad, Reduce, Reshape, Reverse, Select, Slice, Transpose}
use Rattle.checks.specs.Check.{Check, broken_number}
use Rattle.checks.specs.Formula.{ints}
use Rattle.op_checks.specs.OpChecks.{types_from, same_types_checks, abs_checks, constant_checks, convert_checks, iota_checks, reshape_checks, compare_checks, select_checks, clamp_checks, reverse_checks, transpose_checks, broadcast_checks, slice_checks, pad_checks, concatenate_checks, dynamic_slice_checks, reduce_checks}
use Rattle.opcheck.specs.declared.Operation.{Operation}

-- the Inputs table takes operand j
unfoldable pub taken_at : Row → Operation → ℕ → Bool
taken_at row o j = operand_taken row j (type_at o.types j).element (type_at o.types j).shape.rank

-- 01, refusal 7: "a wrong number of operands"; "an element type or rank that the op's Inputs or Outputs table in 000 doesn't take"
unfoldable pub taken_by_tables : Row → Operation → Bool
taken_by_tables row o =
    leb row.least o.arity && leb o.arity row.most && everywhere o.arity (taken_at row o) && result_taken row o.result.element

-- 000's constraints of an op: its first operands have 000's names; the attributes of its row are a, b, c, where a number alone is the first of its list
unfoldable pub checks_by : Rule → Operation → List Check
checks_by SameTypes o = same_types_checks (types_from o.types 0 o.arity) o.result
checks_by Abs o = abs_checks (type_at o.types 0) o.result
checks_by Broadcast o = broadcast_checks (type_at o.types 0) (ints o.a) o.result
checks_by Clamp o = clamp_checks (type_at o.types 0) (type_at o.types 1) (type_at o.types 2) o.result
checks_by Compare o = compare_checks (type_at o.types 0) (type_at o.types 1) o.choice o.result
checks_by Concatenate o = concatenate_checks (types_from o.types 0 o.arity) (number_of (num o.a 0)) o.result
checks_by Constant o = constant_checks o.value o.result
checks_by Convert o = convert_checks (type_at o.types 0) o.result
checks_by DynamicSlice o = dynamic_slice_checks (type_at o.types 0) (types_from o.types 1 (o.arity - 1)) (ints o.a) o.result
checks_by Iota o = iota_checks (number_of (num o.a 0)) o.result
checks_by Pad o = pad_checks (type_at o.types 0) (type_at o.types 1) (ints o.a) (ints o.b) (ints o.c) o.result
checks_by Reduce o = reduce_checks (type_at o.types 0) (type_at o.types 1) o.left o.right (ints o.a) o.result
checks_by Reshape o = reshape_checks (type_at o.types 0) o.result
checks_by Reverse o = reverse_checks (type_at o.types 0) (ints o.a) o.result
checks_by Select o = select_checks (type_at o.types 0) (type_at o.types 1) (type_at o.types 2) o.result
checks_by Slice o = slice_checks (type_at o.types 0) (ints o.a) (ints o.b) (ints o.c) o.result
checks_by Transpose o = transpose_checks (type_at o.types 0) (ints o.a) o.result

-- 01, refusal 8: the C number of the op's first broken constraint, 0 for none
unfoldable pub broken_by : Rule → Operation → ℕ
broken_by rule o = broken_number (checks_by rule o)

-- what the reader grants of an op: sizes 1, 2, 5 and 6
pub record ReadSizes (o : Operation) : Type 0 where
  pub arity : o.arity ≤ 8
  pub types : AllSized o.types
  pub result : Sized o.result.shape
  pub value : Sized o.value.shape
  pub numbers : o.a.count ≤ 6
