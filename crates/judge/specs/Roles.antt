-- Classes of roles (the grammar's Symbols).
-- Assumes nothing.
use Rattle.std.specs.Prelude.{ℕ, Bool, true, false, List, [], ◌∷◌, eqb}
use Rattle.lists.specs.Lists.{pick}
use Rattle.grammar.specs.Symbols.{InputName, InputType, OutputType, ResultName, OpName, OperandName, OperandType, ResultType, ArgumentName, ArgumentType, BodyOpName, SingleNumber, ListNumber, DenseType}

-- whether a role is one of these
unfoldable pub among_roles : List ℕ → ℕ → Bool
among_roles [] role = false
among_roles (x ∷ xs) role = pick (eqb x role) true (among_roles xs role)

-- quoted names of ops; the two returns have roles of their own
abbrev pub op_roles : List ℕ
op_roles = OpName ∷ BodyOpName ∷ []

-- every type of a value, and that of a `dense`
abbrev pub type_roles : List ℕ
type_roles = InputType ∷ OutputType ∷ OperandType ∷ ResultType ∷ ArgumentType ∷ DenseType ∷ []

-- "An attribute number outside `dense`"
abbrev pub number_roles : List ℕ
number_roles = SingleNumber ∷ ListNumber ∷ []

-- "operands of an op, inputs, or results", as names and as types; a body's arguments are inputs of 000's FuncInputs
abbrev pub listed_roles : List ℕ
listed_roles = InputName ∷ ArgumentName ∷ ResultName ∷ OperandName ∷ OperandType ∷ ResultType ∷ OutputType ∷ []

-- the items of a list that has a size: size 5 or size 6
abbrev pub item_roles : List ℕ
item_roles = ListNumber ∷ listed_roles
