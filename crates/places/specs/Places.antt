-- What stands at the places of a header, an op or a body: how many tokens a part has, where each starts, and the tensor type written there.
-- Assumes nothing.
use Rattle.std.specs.Prelude.{ℕ, ◌+◌, ◌*◌, List, Bool, ◌&&◌, get_or, replicate, eqb}
use Rattle.lists.specs.Lists.{pick}
use Rattle.element.specs.declared.ElementType.TheVariants.{I1}
use Rattle.types.specs.Tensors.{type_of}
use Rattle.types.specs.Tensors.{TypeRead}
use Rattle.dimrules.specs.declared.TensorType.{TensorType}
use Rattle.program.specs.declared.Parts.{Parts}

-- The parts of `program` by number: the quoted names of ops, results' names, operands' names and types, results' types, attributes' names, bodies, the names and
-- types of inputs or of a body's arguments, outputs' types.
abbrev pub op_name : ℕ
op_name = 0

abbrev pub result_name : ℕ
result_name = 1

abbrev pub operand_name : ℕ
operand_name = 2

abbrev pub operand_type : ℕ
operand_type = 3

abbrev pub result_type : ℕ
result_type = 4

abbrev pub attribute_name : ℕ
attribute_name = 5

abbrev pub body_open : ℕ
body_open = 6

abbrev pub input_name : ℕ
input_name = 7

abbrev pub input_type : ℕ
input_type = 8

abbrev pub output_type : ℕ
output_type = 9

-- how many tokens part k has, 9 standing for more than eight
unfoldable pub count_of : Parts → ℕ → ℕ
count_of p k = get_or p.count k 0

-- the first byte of token j of part k, of the first eight
unfoldable pub place_of : Parts → ℕ → ℕ → ℕ
place_of p k j = get_or p.at (8 * k + j) 0

-- tensor<i1>, where no type of 01 stands
abbrev pub blank_type : TensorType
blank_type = record { element = I1; shape = record { rank = 0; dims = replicate 6 0 } }

-- the type that a token says, within sizes 1 and 2 of 01 (reading has refused every other)
abbrev pub type_said : TypeRead → TensorType
type_said t = pick (t.known && eqb t.passed 0) (record { element = t.element; shape = t.shape }) blank_type

-- the type whose token starts at a byte
unfoldable pub type_in : List ℕ → ℕ → TensorType
type_in text at = type_said (type_of text at)

-- the type at token j of part k
unfoldable pub type_of_part : List ℕ → Parts → ℕ → ℕ → TensorType
type_of_part text p k j = type_in text (place_of p k j)
