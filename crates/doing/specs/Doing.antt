-- One op on operands that stand in the store: what it asks, what it answers and what it leaves in its stretch.
-- Assumes nothing.
use Rattle.std.specs.Prelude.{◌≡◌, Result, true, List, [], ℕ, ◌+◌, ◌≤◌, ◌<◌, ltb, length, take, drop, replicate}
use Rattle.lists.specs.Lists.{pick, tab}
use Rattle.run.specs.Run.{Out, gives, on_out}
use Rattle.run.specs.Ways.{by_fold}
use Rattle.shape.specs.Index.{at, size}
use Rattle.shape.specs.Dims.{dims_of}
use Rattle.elementwise.specs.Elementwise.{Tensor, Holds, step_numbers, out_numbers}
use Rattle.elementwise.specs.declared.ZeroDivisor.{ZeroDivisor}
use Rattle.ops.specs.declared.Kind.{Kind}
use Rattle.ops.specs.declared.Kind.TheVariants.{Constant}
use Rattle.ops.specs.Ops.{hlo, way_of}
use Rattle.dense.specs.Dense.{dense_value}
use Rattle.dimrules.specs.Types.{type_at}
use Rattle.opcheck.specs.declared.Operation.{Operation}
use Rattle.facts.specs.Facts.{node_for}

-- how many elements operand j has, as its type is written
abbrev pub size_of : Operation → ℕ → ℕ
size_of o j = size (dims_of (type_at o.types j).shape)

-- operand j, which begins at its place of the slots
abbrev pub arg_in : Operation → List ℕ → List ℕ → ℕ → Tensor
arg_in o places slots j = take (size_of o j) (drop (at places j) slots)

-- the operands
abbrev pub args_in : Operation → List ℕ → List ℕ → List Tensor
args_in o places slots = tab o.arity (arg_in o places slots)

-- the elements of the dense value at a byte, as the op's value attribute has its type
abbrev pub arguments_at : Operation → List ℕ → ℕ → Tensor
arguments_at o text literal = (dense_value o.value.element (dims_of o.value.shape) text literal).elements

-- what the op gives: its tensor, or the first element whose divisor is zero
unfoldable pub op_gives : Kind → Operation → Tensor → List Tensor → Out Tensor ℕ
op_gives kind o values args = by_fold hlo (way_of (node_for kind o values []) kind args)

-- every operand stands within the slots and holds values of its type
pub record OperandsPlaced (o : Operation) (places slots : List ℕ) : Type 0 where
  pub inside : (j : ℕ) → j < o.arity → at places j + size_of o j ≤ length slots
  pub holds : (j : ℕ) → j < o.arity → Holds (type_at o.types j).element (size_of o j) (arg_in o places slots j)

-- a constant's dense value is one of its type
abbrev pub Readable : Kind → Operation → List ℕ → ℕ → Type 0
Readable kind o text literal = kind ≡ Constant → (dense_value o.value.element (dims_of o.value.shape) text literal).ok ≡ true

-- how the op with this number answers, and what it leaves where old stood: its tensor; "zero from the refusing op's first slot"
pub record Done (number : ℕ) (m : Out Tensor ℕ) (r : Result (Unit {0}) ZeroDivisor) (old new : List ℕ) : Type 0 where
  pub answers : step_numbers r ≡ out_numbers number m
  pub leaves : new ≡ on_out m (λ v. v) (λ k. replicate (length old) 0)

-- ---- its parts

-- operand j; past the last one there is nothing
abbrev pub operand_in : Operation → List ℕ → List ℕ → ℕ → Tensor
operand_in o places slots j = pick (ltb j o.arity) (arg_in o places slots j) []

-- the first element of operand d + 1: dynamic_slice's start_indices d
abbrev pub start_in : List ℕ → List ℕ → ℕ → ℕ
start_in places slots d = at slots (at places (d + 1))

-- an op other than a constant gives the tensor
abbrev pub Gives : Kind → Operation → List Tensor → Tensor → Type 0
Gives kind o args v = (values : Tensor) → op_gives kind o values args ≡ gives v

-- an op other than a constant answers r and leaves new where old stood
abbrev pub Answers : ℕ → Kind → Operation → List Tensor → Result (Unit {0}) ZeroDivisor → List ℕ → List ℕ → Type 0
Answers number kind o args r old new = (values : Tensor) → Done number (op_gives kind o values args) r old new
