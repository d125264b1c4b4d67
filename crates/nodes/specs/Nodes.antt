-- The program of a text as evaluating and free runs take it: each op by its class with its types, attributes and operands, a value by its number.
-- Assumes nothing.
use Rattle.std.specs.Prelude.{ℕ, ◌+◌, List, [], get_or, Option, None, Some}
use Rattle.lists.specs.Lists.{pick, tab}
use Rattle.run.specs.Run.{RunProgram}
use Rattle.scalar.specs.declared.Body.{Body}
use Rattle.scalar.specs.declared.Body.TheVariants.{Add}
use Rattle.shape.specs.Dims.{dims_of}
use Rattle.elementwise.specs.Elementwise.{Tensor}
use Rattle.ops.specs.declared.Kind.{Kind}
use Rattle.ops.specs.Ops.{Node, TensorType as NodeType}
use Rattle.optable.specs.Table.{value, comparison_direction, row_at, direction_at}
use Rattle.attribute.specs.Attribute.{dense_tokens}
use Rattle.dense.specs.Dense.{dense_value}
use Rattle.program.specs.declared.Parts.{Parts}
use Rattle.program.specs.declared.Program.{Program as Places}
use Rattle.program.specs.Parts.{op_at}
use Rattle.program.specs.Program.{program_of}
use Rattle.places.specs.Places.{operand_name, body_open, place_of, type_in}
use Rattle.values.specs.declared.Value.{Value}
use Rattle.values.specs.declared.Values.{Values}
use Rattle.values.specs.Values.{no_value, ops_of, values_in}
use Rattle.attributes.specs.Attributes.{stands, name_of, choice_of}
use Rattle.bodies.specs.Bodies.{body_row}
use Rattle.operands.specs.Operands.{value_named, arity_of}
use Rattle.typing.specs.Typing.{row_named_in, operation_of}
use Rattle.facts.specs.Facts.{kind_by, node_type, node_for}

-- the operation of a body of an op; of an op that may not be a body's, add: an accepted reduce has no such body (proofs/TypedLaw, `typed-reducer`)
abbrev pub operation_by : Option Body → Body
operation_by None = Add
operation_by (Some b) = b

unfoldable pub reducer_at : ℕ → Body
reducer_at row = operation_by (row_at row).reducer

-- what an op computes, by the class of its row; a compare without a direction, EQ: an accepted one has it (proofs/TypedLaw, `typed-direction`)
unfoldable pub op_kind : List ℕ → Parts → Kind
op_kind text op =
    kind_by (direction_at (choice_of text op comparison_direction)) (reducer_at (body_row text (place_of op body_open 0))) (row_named_in text op).class

-- the elements of a constant's dense value; none of an op without one
unfoldable pub dense_elements : List ℕ → Parts → Tensor
dense_elements text op =
    let c = dense_tokens text (name_of text op value) in
    let t = type_in text c.ty in
    pick (stands text op value) (dense_value t.element (dims_of t.shape) text c.literal).elements []

-- the numbers of the values that its operands name, n values being defined before
unfoldable pub operands_of : List ℕ → Parts → List Value → ℕ → List ℕ
operands_of text op values n = tab (arity_of op) (λ j. value_named text values n (place_of op operand_name j))

-- op k
unfoldable pub node_at : List ℕ → Places → Values → ℕ → Node
node_at text p vs k =
    let op = op_at text (get_or p.ops k 0) in
    node_for (op_kind text op) (operation_of text op (row_named_in text op)) (dense_elements text op) (operands_of text op vs.list (vs.inputs + k))

-- the types of the inputs
unfoldable pub input_types : Values → List NodeType
input_types vs = tab vs.inputs (λ i. node_type (get_or vs.list i no_value).ty)

-- the ops in text order, and the values that the return names
unfoldable pub nodes_in : List ℕ → Places → Values → RunProgram Node
nodes_in text p vs =
    record {
      inputs = vs.inputs;
      ops = tab (ops_of p) (node_at text p vs);
      returns = operands_of text (op_at text (get_or p.ops (ops_of p) 0)) vs.list (vs.inputs + ops_of p);
    }

-- the program of a text
unfoldable pub nodes_of : List ℕ → RunProgram Node
nodes_of text = nodes_in text (program_of text) (values_in text (program_of text))

unfoldable pub input_types_of : List ℕ → List NodeType
input_types_of text = input_types (values_in text (program_of text))
