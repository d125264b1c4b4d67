-- The program of a text as evaluating and free runs take it: each op by its class with its types, attributes and operands; a value goes by its number.
-- Assumes nothing.
use Rattle.std.specs.Prelude.{ℕ, List, [], ◌∷◌, ◌++◌, map, ltb, length, get_or}
use Rattle.lists.specs.Lists.{pick}
use Rattle.elementwise.specs.Elementwise.{Tensor}
use Rattle.run.specs.Run.{RunProgram}
use Rattle.ops.specs.OpAttributes.{OpAttributes}
use Rattle.ops.specs.Ops.{Node}
use Rattle.ops.specs.declared.Kind.{Kind}
use Rattle.optable.specs.Table.{value, iota_dimension, broadcast_dimensions, permutation, start_indices, strides, dimension, edge_padding_low, interior_padding, dimensions, comparison_direction, direction_at}
use Rattle.facts.specs.Facts.{kind_by, node_type}
use Rattle.nodes.specs.Nodes.{reducer_at}
use Rattle.values.specs.declared.Value.{Value}
use Rattle.source.specs.Source.{OpText, FunctionText, op_from, function_of, body_from}
use Rattle.verifier.specs.AttributeRules.{attribute_with, choice_named_by, dense_written}
use Rattle.verifier.specs.DefinedValues.{inputs_defined, result_defined}
use Rattle.verifier.specs.BodyForm.{op_number}
use Rattle.verifier.specs.Reasons.{value_of_name}
use Rattle.verifier.specs.ConstraintRules.{operand_types_of, result_type_of, list_attribute, number_attribute}
use Rattle.verifier.specs.Verdict.{row_written}

-- what an op computes: the class of its row, with compare's direction and the op of a reduction's body
unfoldable pub kind_written : List ℕ → OpText → Kind
kind_written text op =
    kind_by (direction_at (choice_named_by text comparison_direction op.attributes)) (reducer_at (op_number text (get_or (body_from (get_or op.bodies 0 [])).ops 0 (op_from []))))
    (row_written text op).class

-- its attributes, by 000's names
unfoldable pub attributes_written : List ℕ → OpText → OpAttributes
attributes_written text op =
    record {
      iota_dimension = number_attribute text op iota_dimension;
      dimension = number_attribute text op dimension;
      broadcast_dimensions = list_attribute text op broadcast_dimensions;
      permutation = list_attribute text op permutation;
      start_indices = list_attribute text op start_indices;
      strides = list_attribute text op strides;
      edge_padding_low = list_attribute text op edge_padding_low;
      interior_padding = list_attribute text op interior_padding;
      dimensions = list_attribute text op dimensions;
    }

-- the elements of a constant's dense value; none of an op without one
unfoldable pub elements_written : List ℕ → OpText → Tensor
elements_written text op =
    let a = attribute_with text value op.attributes in
    pick (ltb 0 (length a.types)) (dense_written text a).elements []

-- an op, the values `known` being defined before it
unfoldable pub node_written : List ℕ → List Value → OpText → Node
node_written text known op =
    record {
      kind = kind_written text op;
      result = node_type (result_type_of text op);
      from = map node_type (operand_types_of text op);
      attributes = attributes_written text op;
      values = elements_written text op;
      operands = map (value_of_name text known) op.operands;
    }

-- the ops before the return, each after the values that are defined before it
unfoldable pub nodes_written : List ℕ → List Value → List OpText → List Node
nodes_written text known [] = []
nodes_written text known (op ∷ []) = []
nodes_written text known (op ∷ (next ∷ later)) = node_written text known op ∷ nodes_written text (known ++ (result_defined text op ∷ [])) (next ∷ later)

-- the values that are defined after them
unfoldable pub defined_after : List ℕ → List Value → List OpText → List Value
defined_after text known [] = known
defined_after text known (op ∷ []) = known
defined_after text known (op ∷ (next ∷ later)) = defined_after text (known ++ (result_defined text op ∷ [])) (next ∷ later)

-- the operands of the return
abbrev pub returned_names : List OpText → List ℕ
returned_names [] = []
returned_names (op ∷ []) = op.operands
returned_names (op ∷ (next ∷ later)) = returned_names (next ∷ later)

-- "The inputs come first, then each op's result in text order"
unfoldable pub values_written : List ℕ → List Value
values_written text = let f = function_of text in defined_after text (inputs_defined text f) f.ops

unfoldable pub program_written : List ℕ → RunProgram Node
program_written text =
    let f = function_of text in
    record {
      inputs = length f.inputs;
      ops = nodes_written text (inputs_defined text f) f.ops;
      returns = map (value_of_name text (values_written text)) (returned_names f.ops);
    }
