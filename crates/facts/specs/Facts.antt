-- An accepted op by its class: what reading, 000's tables and its constraints grant of it; and the op and the task that evaluating takes.
-- Assumes nothing.
use Rattle.std.specs.Prelude.{◌≡◌, Bool, true, false, List, [], ◌∷◌, map, ℕ, ◌≤◌, ◌<◌, length, get_or, ℤ}
use Rattle.lists.specs.Lists.{tab}
use Rattle.element.specs.declared.ElementType.TheVariants.{I1}
use Rattle.scalar.specs.declared.Unary.{Unary}
use Rattle.scalar.specs.declared.Unary.TheVariants.{Negate, Abs, Sign, Not, CountLeadingZeros, Popcnt}
use Rattle.scalar.specs.declared.Direction.{Direction}
use Rattle.scalar.specs.declared.Body.{Body}
use Rattle.shape.specs.Dims.{dims_of, Sized, Fills}
use Rattle.shape.specs.declared.Shape.{Shape}
use Rattle.shape.specs.Whole.{number_of}
use Rattle.elementwise.specs.Elementwise.{Tensor}
use Rattle.ops.specs.declared.Move.{Move}
use Rattle.ops.specs.declared.Move.TheVariants.{Reshape, BroadcastInDim, Transpose, Slice, Reverse}
use Rattle.ops.specs.declared.Kind.{Kind}
use Rattle.ops.specs.declared.Kind.TheVariants.{Constant, Iota, Elementwise, Pairwise, Quotient, Compare, Convert, Select, Clamp, Moved, Pad, Concatenate, DynamicSlice, Reduce}
use Rattle.ops.specs.OpAttributes.{attributes_by}
use Rattle.ops.specs.Ops.{Node, TensorType as NodeType}
use Rattle.apply.specs.declared.Task.{Task}
use Rattle.optable.specs.declared.Class.{Class}
use Rattle.optable.specs.declared.Class.TheVariants as class
use Rattle.optable.specs.declared.Takes.{Takes}
use Rattle.optable.specs.declared.Takes.TheVariants.{Any, Integer, Signed, Boolean}
use Rattle.optable.specs.declared.Row.{Row}
use Rattle.optable.specs.declared.Rule.{Rule}
use Rattle.optable.specs.declared.Rule.TheVariants.{SameTypes, Abs as AbsRule, Broadcast as BroadcastRule, Clamp as ClampRule, Compare as CompareRule, Concatenate as ConcatenateRule, Constant as ConstantRule, Convert as ConvertRule, DynamicSlice as DynamicSliceRule, Iota as IotaRule, Pad as PadRule, Reduce as ReduceRule, Reshape as ReshapeRule, Reverse as ReverseRule, Select as SelectRule, Slice as SliceRule, Transpose as TransposeRule}
use Rattle.dimrules.specs.Dims.{list_of}
use Rattle.dimrules.specs.Types.{type_at}
use Rattle.dimrules.specs.declared.TensorType.{TensorType}
use Rattle.dimrules.specs.declared.Numbers.{Numbers}
use Rattle.opcheck.specs.declared.Operation.{Operation}
use Rattle.opcheck.specs.Accepted.{Granted}

-- ---- what reading grants

-- the array of its dimensions is of six numbers
abbrev pub SixDims : Shape → Type 0
SixDims s = length s.dims ≡ 6

-- a shape that was read: within sizes 1 and 2 of 01
pub record ShapeRead (s : Shape) : Type 0 where
  pub sized : Sized s
  pub six : SixDims s

-- an attribute list that was read: within size 6 of 01
pub record ListRead (a : Numbers) : Type 0 where
  pub few : a.count ≤ 6
  pub six : length a.list ≡ 6

-- every type and every attribute list of an op, and the number of its operands (size 5 of 01), as they were read
pub record Shaped (o : Operation) : Type 0 where
  pub arity : o.arity ≤ 8
  pub eight : length o.types ≡ 8
  pub types : (j : ℕ) → j < 8 → ShapeRead (type_at o.types j).shape
  pub result : ShapeRead o.result.shape
  pub value : ShapeRead o.value.shape
  pub left : ShapeRead o.left.shape
  pub right : ShapeRead o.right.shape
  pub a : ListRead o.a
  pub b : ListRead o.b
  pub c : ListRead o.c

-- ---- an op's class, its row of the op table and its constraints

-- abs has its constraint in two parts, C1 and C2
abbrev pub unary_rule : Unary → Rule
unary_rule Abs = AbsRule
unary_rule Negate = SameTypes
unary_rule Sign = SameTypes
unary_rule Not = SameTypes
unary_rule CountLeadingZeros = SameTypes
unary_rule Popcnt = SameTypes

-- each move has constraints of its own
abbrev pub move_rule : Move → Rule
move_rule Reshape = ReshapeRule
move_rule BroadcastInDim = BroadcastRule
move_rule Transpose = TransposeRule
move_rule Slice = SliceRule
move_rule Reverse = ReverseRule

-- the class of constraints
abbrev pub rule_of_kind : Kind → Rule
rule_of_kind Constant = ConstantRule
rule_of_kind Iota = IotaRule
rule_of_kind (Elementwise op) = unary_rule op
rule_of_kind (Pairwise op) = SameTypes
rule_of_kind (Quotient op) = SameTypes
rule_of_kind (Compare d) = CompareRule
rule_of_kind Convert = ConvertRule
rule_of_kind Select = SelectRule
rule_of_kind Clamp = ClampRule
rule_of_kind (Moved m) = move_rule m
rule_of_kind Pad = PadRule
rule_of_kind Concatenate = ConcatenateRule
rule_of_kind DynamicSlice = DynamicSliceRule
rule_of_kind (Reduce body) = ReduceRule

-- the least and the most operands: "concatenate: any, none breaks C3; dynamic_slice: from 1" (01, refusal 7), at most 8 (01, "Sizes", 5)
abbrev pub operand_counts : Kind → ℕ × ℕ
operand_counts Constant = (0, 0)
operand_counts Iota = (0, 0)
operand_counts (Elementwise op) = (1, 1)
operand_counts (Pairwise op) = (2, 2)
operand_counts (Quotient op) = (2, 2)
operand_counts (Compare d) = (2, 2)
operand_counts Convert = (1, 1)
operand_counts Select = (3, 3)
operand_counts Clamp = (3, 3)
operand_counts (Moved m) = (1, 1)
operand_counts Pad = (2, 2)
operand_counts Concatenate = (0, 8)
operand_counts DynamicSlice = (1, 8)
operand_counts (Reduce body) = (2, 2)

-- every operand but the first is "0-dimensional" in 000's tables: dynamic_slice's start_indices, pad's padding_value, reduce's init_values
abbrev pub scalars_of : Kind → Bool
scalars_of Constant = false
scalars_of Iota = false
scalars_of (Elementwise op) = false
scalars_of (Pairwise op) = false
scalars_of (Quotient op) = false
scalars_of (Compare d) = false
scalars_of Convert = false
scalars_of Select = false
scalars_of Clamp = false
scalars_of (Moved m) = false
scalars_of Pad = true
scalars_of Concatenate = false
scalars_of DynamicSlice = true
scalars_of (Reduce body) = true

-- reduce has a body
abbrev pub has_body : Kind → Bool
has_body Constant = false
has_body Iota = false
has_body (Elementwise op) = false
has_body (Pairwise op) = false
has_body (Quotient op) = false
has_body (Compare d) = false
has_body Convert = false
has_body Select = false
has_body Clamp = false
has_body (Moved m) = false
has_body Pad = false
has_body Concatenate = false
has_body DynamicSlice = false
has_body (Reduce body) = true

-- the result is a "tensor of boolean type" in 000's table
abbrev pub boolean_kind : Kind → Bool
boolean_kind Constant = false
boolean_kind Iota = false
boolean_kind (Elementwise op) = false
boolean_kind (Pairwise op) = false
boolean_kind (Quotient op) = false
boolean_kind (Compare d) = true
boolean_kind Convert = false
boolean_kind Select = false
boolean_kind Clamp = false
boolean_kind (Moved m) = false
boolean_kind Pad = false
boolean_kind Concatenate = false
boolean_kind DynamicSlice = false
boolean_kind (Reduce body) = false

-- so in a row
abbrev pub is_boolean : Takes → Bool
is_boolean Any = false
is_boolean Integer = false
is_boolean Signed = false
is_boolean Boolean = true

-- a row of the op table for ops of the class
pub record RowFor (kind : Kind) (row : Row) : Type 0 where
  pub rule : row.rule ≡ rule_of_kind kind
  pub least : row.least ≡ (operand_counts kind).0
  pub most : row.most ≡ (operand_counts kind).1
  pub body : row.body ≡ has_body kind
  pub scalars : row.scalars ≡ scalars_of kind
  pub boolean : is_boolean row.result ≡ boolean_kind kind

-- what an op of a class computes, as evaluating takes it: with compare's direction and the operation of reduce's body, which stand in the text
abbrev pub kind_by : Direction → Body → Class → Kind
kind_by d body class.Constant = Constant
kind_by d body class.Iota = Iota
kind_by d body (class.Elementwise op) = Elementwise op
kind_by d body (class.Pairwise op) = Pairwise op
kind_by d body (class.Quotient op) = Quotient op
kind_by d body class.Compare = Compare d
kind_by d body class.Convert = Convert
kind_by d body class.Select = Select
kind_by d body class.Clamp = Clamp
kind_by d body (class.Moved m) = Moved m
kind_by d body class.Pad = Pad
kind_by d body class.Concatenate = Concatenate
kind_by d body class.DynamicSlice = DynamicSlice
kind_by d body class.Reduce = Reduce body

-- iota_dimension and dimension are each one number, the first of its list
abbrev pub OneNumber : Kind → Operation → Type 0
OneNumber Iota o = o.a.count ≡ 1
OneNumber Concatenate o = o.a.count ≡ 1
OneNumber Constant o = Unit {0}
OneNumber (Elementwise op) o = Unit {0}
OneNumber (Pairwise op) o = Unit {0}
OneNumber (Quotient op) o = Unit {0}
OneNumber (Compare d) o = Unit {0}
OneNumber Convert o = Unit {0}
OneNumber Select o = Unit {0}
OneNumber Clamp o = Unit {0}
OneNumber (Moved m) o = Unit {0}
OneNumber Pad o = Unit {0}
OneNumber DynamicSlice o = Unit {0}
OneNumber (Reduce body) o = Unit {0}

-- an op that is accepted: as reading, 000's tables (refusal 7) and its constraints (refusal 8) leave it
pub record AcceptedAs (kind : Kind) (o : Operation) : Type 0 where
  pub shaped : Shaped o
  pub number : OneNumber kind o
  pub least : (operand_counts kind).0 ≤ o.arity
  pub most : o.arity ≤ (operand_counts kind).1
  pub scalars : scalars_of kind ≡ true → (j : ℕ) → 0 < j → j < o.arity → (type_at o.types j).shape.rank ≡ 0
  pub boolean : boolean_kind kind ≡ true → o.result.element ≡ I1
  pub granted : Granted (rule_of_kind kind) o

-- ---- what evaluating takes

-- first and second are attributes a and c of the op's row: of slice start_indices and strides, of pad edge_padding_low and interior_padding;
-- limit is slice's limit_indices
abbrev pub task_of : Kind → Operation → Task
task_of kind o =
    record {
      kind = kind;
      element = o.result.element;
      source = (type_at o.types 0).element;
      index = (type_at o.types 1).element;
      from = (type_at o.types 0).shape;
      last = (type_at o.types 2).shape;
      to = o.result.shape;
      count = o.a.count;
      first = o.a.list;
      second = o.c.list;
      limit = o.b.list;
    }

-- a type by the list of its dimensions
abbrev pub node_type : TensorType → NodeType
node_type t = record { element = t.element; dims = dims_of t.shape }

-- the numbers of an attribute list
abbrev pub integers_of : Numbers → List ℤ
integers_of a = map number_of (list_of a)

-- values are a constant's elements, operands the numbers of the values that it reads; a and c are the first and the last attribute of the op's row
abbrev pub node_for : Kind → Operation → Tensor → List ℕ → Node
node_for kind o values operands =
    record {
      kind = kind;
      result = node_type o.result;
      from = tab o.arity (λ j. node_type (type_at o.types j));
      attributes = attributes_by kind (integers_of o.a) (integers_of o.c);
      values = values;
      operands = operands;
    }

-- the classes that a task does; the others have functions of their own
abbrev pub DoneByTask : Kind → Type 0
DoneByTask Constant = ⊥
DoneByTask (Quotient op) = ⊥
DoneByTask Concatenate = ⊥
DoneByTask Iota = Unit {0}
DoneByTask (Elementwise op) = Unit {0}
DoneByTask (Pairwise op) = Unit {0}
DoneByTask (Compare d) = Unit {0}
DoneByTask Convert = Unit {0}
DoneByTask Select = Unit {0}
DoneByTask Clamp = Unit {0}
DoneByTask (Moved m) = Unit {0}
DoneByTask Pad = Unit {0}
DoneByTask DynamicSlice = Unit {0}
DoneByTask (Reduce body) = Unit {0}

-- the stretches of the first three operands, as far as the op has them, and of the result
pub record Stretched (o : Operation) (x y z out : Tensor) : Type 0 where
  pub operand-0 : 0 < o.arity → Fills x (type_at o.types 0).shape
  pub operand-1 : 1 < o.arity → Fills y (type_at o.types 1).shape
  pub operand-2 : 2 < o.arity → Fills z (type_at o.types 2).shape
  pub result : Fills out o.result.shape

-- of the operands' tensors args, x, y and z are the first three, as far as the op has them
pub record ArgumentsRead (o : Operation) (args : List Tensor) (x y z : Tensor) : Type 0 where
  pub operand-0 : 0 < o.arity → get_or args 0 [] ≡ x
  pub operand-1 : 1 < o.arity → get_or args 1 [] ≡ y
  pub operand-2 : 2 < o.arity → get_or args 2 [] ≡ z
