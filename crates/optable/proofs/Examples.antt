-- Worked examples of the op table, by computation.
-- Assumes nothing.
use mathlib.Core.Path.{◌≡◌, refl}
use mathlib.Core.Bool.{true, false}
use Rattle.lists.specs.Lists.{first_where}
use Rattle.element.specs.declared.ElementType.TheVariants.{I1, I8, U8}
use Rattle.scan.specs.Ascii.{ascii}
use Rattle.optable.specs.Table.{ops, attributes, choice_kinds, choices, op_names, attribute_names, choice_kind_names, choice_names, row_at, dimension, dimensions, start_indices, strides, comparison_direction, compare_type}
use Rattle.optable.specs.Find.{same, name_place, find_op, find_attribute, find_choice_kind, find_choice, slot_in}
use Rattle.optable.specs.Takes.{takes, operand_taken, result_taken}

module _ where
  -- names in a text: `%r = "stablehlo.add"(..)`; another prefix and another op are no op of the table (3)
  found_add : find_op (ascii "%r = \"stablehlo.add\"(%a)") 5 20 ≡ 1
  unfolding find_op op_names ops name_place first_where same
  found_add = refl

  found-xor : find_op (ascii "\"stablehlo.xor\"") 0 15 ≡ 33
  unfolding find_op op_names ops name_place first_where same
  found-xor = refl

  not-mhlo : find_op (ascii "\"mhlo.add\"") 0 10 ≡ 34
  unfolding find_op op_names ops name_place first_where same
  not-mhlo = refl

  not-gather : find_op (ascii "\"stablehlo.gather\"") 0 18 ≡ 34
  unfolding find_op op_names ops name_place first_where same
  not-gather = refl

  -- a name is the whole stretch: `dimension` begins `dimensions`
  found-dimension : find_attribute (ascii "dimensions") 0 9 ≡ dimension
  unfolding find_attribute attribute_names attributes name_place first_where same
  found-dimension = refl

  found-dimensions : find_attribute (ascii "dimensions") 0 10 ≡ dimensions
  unfolding find_attribute attribute_names attributes name_place first_where same
  found-dimensions = refl

  -- OP-28: `comparison_type` is the choice's kind, `compare_type` the attribute
  not-attribute : find_attribute (ascii "comparison_type") 0 15 ≡ 15
  unfolding find_attribute attribute_names attributes name_place first_where same
  not-attribute = refl

  found-kind : find_choice_kind (ascii "comparison_type") 0 15 ≡ 1
  unfolding find_choice_kind choice_kind_names choice_kinds name_place first_where same
  found-kind = refl

  -- FLOAT is refused (3)
  found_lt : find_choice (ascii "LT") 0 2 ≡ 5
  unfolding find_choice choice_names choices name_place first_where same
  found_lt = refl

  not_float : find_choice (ascii "FLOAT") 0 5 ≡ 8
  unfolding find_choice choice_names choices name_place first_where same
  not_float = refl

  -- compare needs comparison_direction, may have compare_type, and has no dimensions
  compare-slots : ((row_at 5).needed ≡ 1) × (slot_in (row_at 5) comparison_direction ≡ 0) × (slot_in (row_at 5) compare_type ≡ 1) × (slot_in (row_at 5) dimensions ≡ 3)
  unfolding row_at ops slot_in first_where name_place attribute_names attributes same
  compare-slots = (refl, refl, refl, refl)

  -- slice needs three lists; start_indices is foreign to dynamic_slice (OP-33)
  slice-slots : ((row_at 30).needed ≡ 3) × (slot_in (row_at 30) start_indices ≡ 0) × (slot_in (row_at 30) strides ≡ 2) × (slot_in (row_at 11) start_indices ≡ 3)
  unfolding row_at ops slot_in first_where name_place attribute_names attributes same
  slice-slots = (refl, refl, refl, refl)

  -- OP-66: abs i8 -> ui8, negate i8 -> i1, compare -> i8, iota -> i1 are 7; add i8 -> i1 is 8
  outputs : (result_taken (row_at 0) U8 ≡ false) × (result_taken (row_at 16) I1 ≡ false) × (result_taken (row_at 5) I8 ≡ false) × (result_taken (row_at 12) I1 ≡ false) × (result_taken (row_at 1) I1 ≡ true)
  unfolding row_at ops result_taken takes
  outputs = (refl, refl, refl, refl, refl)

  -- OP-69: padding_value and start_indices have rank 0, pad's operand any rank; select's pred is i1
  inputs : (operand_taken (row_at 19) 1 I8 1 ≡ false) × (operand_taken (row_at 19) 0 I8 1 ≡ true) × (operand_taken (row_at 11) 1 I1 0 ≡ false) × (operand_taken (row_at 11) 2 U8 0 ≡ true) × (operand_taken (row_at 25) 0 I8 0 ≡ false)
  unfolding row_at ops operand_taken takes
  inputs = (refl, refl, refl, refl, refl)
