-- The constraints of an op by its row of the op table: 000's lists (op_checks) on the types and the attributes that are written, attributes by their names.
-- Assumes nothing.
use Rattle.std.specs.Prelude.{ℕ, List, [], ◌∷◌, map, ℤ, pos, get_or, drop}
use Rattle.dimrules.specs.declared.TensorType.{TensorType}
use Rattle.places.specs.Places.{type_in, blank_type}
use Rattle.optable.specs.Table.{value, iota_dimension, broadcast_dimensions, permutation, start_indices, limit_indices, strides, dimension, edge_padding_low, edge_padding_high, interior_padding, dimensions, slice_sizes, compare_type}
use Rattle.optable.specs.declared.Rule.{Rule}
use Rattle.optable.specs.declared.Rule.TheVariants.{SameTypes, Abs, Broadcast, Clamp, Compare, Concatenate, Constant, Convert, DynamicSlice, Iota, Pad, Reduce, Reshape, Reverse, Select, Slice, Transpose}
use Rattle.checks.specs.Check.{Check}
use Rattle.op_checks.specs.OpChecks.{same_types_checks, abs_checks, broadcast_checks, clamp_checks, compare_checks, concatenate_checks, constant_checks, convert_checks, dynamic_slice_checks, iota_checks, pad_checks, reduce_checks, reshape_checks, reverse_checks, select_checks, slice_checks, transpose_checks}
use Rattle.source.specs.Source.{OpText, BodyText, body_from}
use Rattle.verifier.specs.AttributeRules.{first_token, attribute_with, numbers_named, choice_named_by, type_written}

module _ (text : List ℕ) (op : OpText) where
  -- the written types of its operands, of operand j, of its result
  abbrev pub operand_types_of : List TensorType
  operand_types_of = map (type_in text) op.operand_types

  abbrev pub operand_type_of : ℕ → TensorType
  operand_type_of j = get_or operand_types_of j blank_type

  abbrev pub result_type_of : TensorType
  result_type_of = type_in text (first_token op.result_types)

  -- an attribute that is a list, and one that is a number alone
  abbrev pub list_attribute : ℕ → List ℤ
  list_attribute k = numbers_named text k op.attributes

  abbrev pub number_attribute : ℕ → ℤ
  number_attribute k = get_or (list_attribute k) 0 (pos 0)

  -- the type of argument j of its body
  abbrev pub argument_type_of : ℕ → TensorType
  argument_type_of j = type_in text (get_or (body_from (get_or op.bodies 0 [])).argument_types j 0)

  -- 000's constraints of the op, by the list of its row
  unfoldable pub checks_written : Rule → List Check
  checks_written SameTypes = same_types_checks operand_types_of result_type_of
  checks_written Abs = abs_checks (operand_type_of 0) result_type_of
  checks_written Broadcast = broadcast_checks (operand_type_of 0) (list_attribute broadcast_dimensions) result_type_of
  checks_written Clamp = clamp_checks (operand_type_of 0) (operand_type_of 1) (operand_type_of 2) result_type_of
  checks_written Compare = compare_checks (operand_type_of 0) (operand_type_of 1) (choice_named_by text compare_type op.attributes) result_type_of
  checks_written Concatenate = concatenate_checks operand_types_of (number_attribute dimension) result_type_of
  checks_written Constant = constant_checks (type_written text (attribute_with text value op.attributes)) result_type_of
  checks_written Convert = convert_checks (operand_type_of 0) result_type_of
  checks_written DynamicSlice = dynamic_slice_checks (operand_type_of 0) (drop 1 operand_types_of) (list_attribute slice_sizes) result_type_of
  checks_written Iota = iota_checks (number_attribute iota_dimension) result_type_of
  checks_written Pad = pad_checks (operand_type_of 0) (operand_type_of 1) (list_attribute edge_padding_low) (list_attribute edge_padding_high) (list_attribute interior_padding) result_type_of
  checks_written Reduce = reduce_checks (operand_type_of 0) (operand_type_of 1) (argument_type_of 0) (argument_type_of 1) (list_attribute dimensions) result_type_of
  checks_written Reshape = reshape_checks (operand_type_of 0) result_type_of
  checks_written Reverse = reverse_checks (operand_type_of 0) (list_attribute dimensions) result_type_of
  checks_written Select = select_checks (operand_type_of 0) (operand_type_of 1) (operand_type_of 2) result_type_of
  checks_written Slice = slice_checks (operand_type_of 0) (list_attribute start_indices) (list_attribute limit_indices) (list_attribute strides) result_type_of
  checks_written Transpose = transpose_checks (operand_type_of 0) (list_attribute permutation) result_type_of
