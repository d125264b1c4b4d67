-- 01, "The text": "The op table has one row per op: its name, operand count, attributes and body." Each row also has what typing (refusal 7) and
-- constraints (refusal 8) go by, from the op's Inputs, Outputs and Constraints in 000; its class for evaluation ("Element by element", "Shape by
-- shape"); and whether it may be the op of a reduction's body ("Reductions").
-- Assumes nothing.
use Rattle.std.specs.Prelude.{ℕ, ◌+◌, List, [], ◌∷◌, ◌++◌, map, Bool, true, false, length, get_or, ltb, Option, Some, None}
use Prim.Native.String.{String}
use Rattle.lists.specs.Lists.{pick, concat}
use Rattle.division.specs.declared.Division.TheVariants.{Divide, Remainder}
use Rattle.scalar.specs.declared.Unary.TheVariants as unary
use Rattle.scalar.specs.declared.Binary.TheVariants as binary
use Rattle.scalar.specs.declared.Direction.{Direction as CompareDirection}
use Rattle.scalar.specs.declared.Direction.TheVariants.{Eq, Ne, Ge, Gt, Le, Lt}
use Rattle.scalar.specs.declared.Body.{Body}
use Rattle.scalar.specs.declared.Body.TheVariants as body
use Rattle.ops.specs.declared.Move.TheVariants as move
use Rattle.optable.specs.declared.Takes.{Takes}
use Rattle.optable.specs.declared.Takes.TheVariants.{Any, Integer, Signed, Boolean}
use Rattle.optable.specs.declared.Rule.{Rule}
use Rattle.optable.specs.declared.Rule.TheVariants as rule
use Rattle.optable.specs.declared.Class.{Class}
use Rattle.optable.specs.declared.Class.TheVariants.{Constant, Iota, Elementwise, Pairwise, Quotient, Compare, Convert, Select, Clamp, Moved, Pad, Concatenate, DynamicSlice, Reduce}
use Rattle.optable.specs.declared.ValueKind.{ValueKind}
use Rattle.optable.specs.declared.ValueKind.TheVariants as kind
use Rattle.optable.specs.declared.Choice.{Choice}
use Rattle.optable.specs.declared.Choice.TheVariants as choice
use Rattle.optable.specs.declared.Row.{Row}
use Rattle.optable.specs.declared.Word.{Word}
use Rattle.optable.specs.Names.{name_place}
use Rattle.scan.specs.Ascii.{ascii}

-- ---- attributes and choices

-- the kinds of an attribute's value: a list `array<i64: ..>`, a number `0 : i64`, a `dense<..> : type`, and the two kinds of choices,
-- `#stablehlo<comparison_direction ..>` and `#stablehlo<comparison_type ..>`
abbrev pub NumbersKind : ℕ
NumbersKind = 1

abbrev pub Number : ℕ
Number = 2

abbrev pub DenseKind : ℕ
DenseKind = 3

abbrev pub Direction : ℕ
Direction = 4

abbrev pub CompareType : ℕ
CompareType = 5

-- what stands past the end of a table of kinds
abbrev pub no_kind : ℕ
no_kind = 0

-- the number of a kind of the code
abbrev pub kind_number : Option ValueKind → ℕ
kind_number None = no_kind
kind_number (Some kind.Numbers) = NumbersKind
kind_number (Some kind.Number) = Number
kind_number (Some kind.Dense) = DenseKind
kind_number (Some kind.Direction) = Direction
kind_number (Some kind.CompareType) = CompareType

-- a name and the kind that goes with it
pub record Named : Type 0 where
  pub name : List ℕ
  pub kind : ℕ

abbrev named : String → ℕ → Named
named n k = record { name = ascii n; kind = k }

-- every attribute of an op of 01, with its kind by the op's Inputs in 000
unfoldable pub attributes : List Named
attributes =
    named "value" DenseKind
    ∷ named "iota_dimension" Number
    ∷ named "broadcast_dimensions" NumbersKind
    ∷ named "permutation" NumbersKind
    ∷ named "start_indices" NumbersKind
    ∷ named "limit_indices" NumbersKind
    ∷ named "strides" NumbersKind
    ∷ named "dimension" Number
    ∷ named "edge_padding_low" NumbersKind
    ∷ named "edge_padding_high" NumbersKind
    ∷ named "interior_padding" NumbersKind
    ∷ named "dimensions" NumbersKind
    ∷ named "slice_sizes" NumbersKind
    ∷ named "comparison_direction" Direction
    ∷ named "compare_type" CompareType
    ∷ []

unfoldable pub attribute_names : List (List ℕ)
attribute_names = map (λ (a : Named). a.name) attributes

-- an attribute goes by its place among them
abbrev pub attribute_named : String → ℕ
attribute_named n = name_place attribute_names (ascii n)

abbrev pub value : ℕ
value = attribute_named "value"

abbrev pub iota_dimension : ℕ
iota_dimension = attribute_named "iota_dimension"

abbrev pub broadcast_dimensions : ℕ
broadcast_dimensions = attribute_named "broadcast_dimensions"

abbrev pub permutation : ℕ
permutation = attribute_named "permutation"

abbrev pub start_indices : ℕ
start_indices = attribute_named "start_indices"

abbrev pub limit_indices : ℕ
limit_indices = attribute_named "limit_indices"

abbrev pub strides : ℕ
strides = attribute_named "strides"

abbrev pub dimension : ℕ
dimension = attribute_named "dimension"

abbrev pub edge_padding_low : ℕ
edge_padding_low = attribute_named "edge_padding_low"

abbrev pub edge_padding_high : ℕ
edge_padding_high = attribute_named "edge_padding_high"

abbrev pub interior_padding : ℕ
interior_padding = attribute_named "interior_padding"

abbrev pub dimensions : ℕ
dimensions = attribute_named "dimensions"

abbrev pub slice_sizes : ℕ
slice_sizes = attribute_named "slice_sizes"

abbrev pub comparison_direction : ℕ
comparison_direction = attribute_named "comparison_direction"

abbrev pub compare_type : ℕ
compare_type = attribute_named "compare_type"

-- what stands for no attribute: the place past the last one
abbrev pub no_attribute : ℕ
no_attribute = length attributes

-- the first words of choices, with the kind of choice that each begins
unfoldable pub choice_kinds : List Named
choice_kinds = named "comparison_direction" Direction ∷ named "comparison_type" CompareType ∷ []

unfoldable pub choice_kind_names : List (List ℕ)
choice_kind_names = map (λ (a : Named). a.name) choice_kinds

-- a choice: its name and what it says
pub record Chosen : Type 0 where
  pub name : List ℕ
  pub says : Choice

abbrev chosen : String → Choice → Chosen
chosen n c = record { name = ascii n; says = c }

-- the choices that 01 leaves of 000's enums: FLOAT and TOTALORDER are refused (3)
unfoldable pub choices : List Chosen
choices =
    chosen "EQ" (choice.Compares Eq)
    ∷ chosen "NE" (choice.Compares Ne)
    ∷ chosen "GE" (choice.Compares Ge)
    ∷ chosen "GT" (choice.Compares Gt)
    ∷ chosen "LE" (choice.Compares Le)
    ∷ chosen "LT" (choice.Compares Lt)
    ∷ chosen "SIGNED" choice.Signed
    ∷ chosen "UNSIGNED" choice.Unsigned
    ∷ []

unfoldable pub choice_names : List (List ℕ)
choice_names = map (λ (c : Chosen). c.name) choices

-- a choice goes by its place among them; the place past the last one stands for an attribute that is absent
abbrev pub choice_named : String → ℕ
choice_named n = name_place choice_names (ascii n)

abbrev pub no_choice : ℕ
no_choice = length choices

-- the kind of a choice
abbrev pub kind_said : Choice → ℕ
kind_said (choice.Compares d) = Direction
kind_said choice.Signed = CompareType
kind_said choice.Unsigned = CompareType

-- the comparison_direction that it says; EQ for a choice of the other kind, which is refused (7)
abbrev pub direction_said : Choice → CompareDirection
direction_said (choice.Compares d) = d
direction_said choice.Signed = Eq
direction_said choice.Unsigned = Eq

-- ---- ops

-- a row: the quoted name as it stands in a text; the least and the most operands; the attributes that must stand, in the order of
-- 000's Inputs; those that may be absent; whether there is a body; what the first operand, the others and the result may be,
-- and whether the others must have rank 0; which constraints there are; what it computes; and the operation of a body of this op
pub record OpRow : Type 0 where
  pub name : List ℕ
  pub least : ℕ
  pub most : ℕ
  pub required : List ℕ
  pub optional : List ℕ
  pub body : Bool
  pub first : Takes
  pub rest : Takes
  pub scalars : Bool
  pub result : Takes
  pub rule : Rule
  pub class : Class
  pub reducer : Option Body

abbrev pub quoted : String → List ℕ
quoted n = ascii "\"stablehlo." ++ ascii n ++ ascii "\""

-- k operands and the result from one class, of one type: C1 is type(operands) = type(result)
abbrev alike : String → ℕ → Takes → Class → Option Body → OpRow
alike n k t c b =
    record { name = quoted n; least = k; most = k; required = []; optional = []; body = false; first = t; rest = t; scalars = false; result = t; rule = rule.SameTypes; class = c; reducer = b }

-- k operands of any type, the attributes that must stand, and constraints of its own
abbrev shaped : String → ℕ → List ℕ → Rule → Class → OpRow
shaped n k attrs r c =
    record { name = quoted n; least = k; most = k; required = attrs; optional = []; body = false; first = Any; rest = Any; scalars = false; result = Any; rule = r; class = c; reducer = None }

-- "one op of add, multiply, maximum, minimum, and, or, xor" may be a reduction's body
unfoldable pub ops : List OpRow
ops =
    -- "tensor of signed integer, .. type"; C1 and C2 are one rule in two parts
    record { name = quoted "abs"; least = 1; most = 1; required = []; optional = []; body = false; first = Signed; rest = Signed; scalars = false; result = Signed; rule = rule.Abs; class = Elementwise unary.Abs; reducer = None }
    ∷ alike "add" 2 Any (Pairwise binary.Add) (Some body.Add)
    ∷ alike "and" 2 Any (Pairwise binary.And) (Some body.And)
    ∷ shaped "broadcast_in_dim" 1 (broadcast_dimensions ∷ []) rule.Broadcast (Moved move.BroadcastInDim)
    ∷ shaped "clamp" 3 [] rule.Clamp Clamp
    -- result: "tensor of boolean type"; "`compare_type` of compare may be absent"
    ∷ record { name = quoted "compare"; least = 2; most = 2; required = comparison_direction ∷ []; optional = compare_type ∷ []; body = false; first = Any; rest = Any; scalars = false; result = Boolean; rule = rule.Compare; class = Compare; reducer = None }
    -- "concatenate: any, none breaks C3"; at most 8 by size 5
    ∷ record { name = quoted "concatenate"; least = 0; most = 8; required = dimension ∷ []; optional = []; body = false; first = Any; rest = Any; scalars = false; result = Any; rule = rule.Concatenate; class = Concatenate; reducer = None }
    ∷ shaped "constant" 0 (value ∷ []) rule.Constant Constant
    ∷ shaped "convert" 1 [] rule.Convert Convert
    ∷ alike "count_leading_zeros" 1 Integer (Elementwise unary.CountLeadingZeros) None
    ∷ alike "divide" 2 Integer (Quotient Divide) None
    -- "dynamic_slice: from 1"; start_indices: "variadic number of 0-dimensional tensors of integer type"
    ∷ record { name = quoted "dynamic_slice"; least = 1; most = 8; required = slice_sizes ∷ []; optional = []; body = false; first = Any; rest = Integer; scalars = true; result = Any; rule = rule.DynamicSlice; class = DynamicSlice; reducer = None }
    -- output: "tensor of integer, .. type"
    ∷ record { name = quoted "iota"; least = 0; most = 0; required = iota_dimension ∷ []; optional = []; body = false; first = Any; rest = Any; scalars = false; result = Integer; rule = rule.Iota; class = Iota; reducer = None }
    ∷ alike "maximum" 2 Any (Pairwise binary.Maximum) (Some body.Maximum)
    ∷ alike "minimum" 2 Any (Pairwise binary.Minimum) (Some body.Minimum)
    ∷ alike "multiply" 2 Any (Pairwise binary.Multiply) (Some body.Multiply)
    ∷ alike "negate" 1 Integer (Elementwise unary.Negate) None
    ∷ alike "not" 1 Any (Elementwise unary.Not) None
    ∷ alike "or" 2 Any (Pairwise binary.Or) (Some body.Or)
    -- padding_value: "0-dimensional tensor"
    ∷ record { name = quoted "pad"; least = 2; most = 2; required = edge_padding_low ∷ edge_padding_high ∷ interior_padding ∷ []; optional = []; body = false; first = Any; rest = Any; scalars = true; result = Any; rule = rule.Pad; class = Pad; reducer = None }
    ∷ alike "popcnt" 1 Integer (Elementwise unary.Popcnt) None
    -- one input and one start, init_values: "0-dimensional tensors"
    ∷ record { name = quoted "reduce"; least = 2; most = 2; required = dimensions ∷ []; optional = []; body = true; first = Any; rest = Any; scalars = true; result = Any; rule = rule.Reduce; class = Reduce; reducer = None }
    ∷ alike "remainder" 2 Integer (Quotient Remainder) None
    ∷ shaped "reshape" 1 [] rule.Reshape (Moved move.Reshape)
    ∷ shaped "reverse" 1 (dimensions ∷ []) rule.Reverse (Moved move.Reverse)
    -- pred: "tensor of type `i1`"
    ∷ record { name = quoted "select"; least = 3; most = 3; required = []; optional = []; body = false; first = Boolean; rest = Any; scalars = false; result = Any; rule = rule.Select; class = Select; reducer = None }
    ∷ alike "shift_left" 2 Integer (Pairwise binary.ShiftLeft) None
    ∷ alike "shift_right_arithmetic" 2 Integer (Pairwise binary.ShiftRightArithmetic) None
    ∷ alike "shift_right_logical" 2 Integer (Pairwise binary.ShiftRightLogical) None
    ∷ alike "sign" 1 Signed (Elementwise unary.Sign) None
    ∷ shaped "slice" 1 (start_indices ∷ limit_indices ∷ strides ∷ []) rule.Slice (Moved move.Slice)
    ∷ alike "subtract" 2 Integer (Pairwise binary.Subtract) None
    ∷ shaped "transpose" 1 (permutation ∷ []) rule.Transpose (Moved move.Transpose)
    ∷ alike "xor" 2 Any (Pairwise binary.Xor) (Some body.Xor)
    ∷ []

-- an op goes by its place among them
unfoldable pub op_names : List (List ℕ)
op_names = map (λ (o : OpRow). o.name) ops

abbrev pub op_named : String → ℕ
op_named n = name_place op_names (quoted n)

-- an op that may be the op of a reduction's body
abbrev pub may_reduce : Option Body → Bool
may_reduce None = false
may_reduce (Some b) = true

-- ---- the tables as the code holds them

-- every name of the tables: ops, attributes, first words of choices, choices
unfoldable pub names : List (List ℕ)
names = op_names ++ attribute_names ++ choice_kind_names ++ choice_names

-- their bytes, one name after the other
unfoldable pub table_bytes : List ℕ
table_bytes = concat names

-- where each name stands there, from a byte on
abbrev pub places : ℕ → List (List ℕ) → List Word
places at [] = []
places at (n ∷ ns) = record { at = at; len = length n } ∷ places (at + length n) ns

abbrev pub no_word : Word
no_word = record { at = 0; len = 0 }

unfoldable pub word_at : ℕ → Word
word_at i = get_or (places 0 names) i no_word

-- an op's row, with its name's place among the bytes and the numbers of its attributes, those that must stand first
abbrev pub row_of : ℕ → OpRow → Row
row_of at o =
    let attrs = o.required ++ o.optional in
    record { at = at; len = length o.name; least = o.least; most = o.most; needed = length o.required; a = get_or attrs 0 no_attribute; b = get_or attrs 1 no_attribute; c = get_or attrs 2 no_attribute; body = o.body; first = o.first; rest = o.rest; scalars = o.scalars; result = o.result; rule = o.rule; class = o.class; reducer = o.reducer }

abbrev pub rows_from : ℕ → List OpRow → List Row
rows_from at [] = []
rows_from at (o ∷ os) = row_of at o ∷ rows_from (at + length o.name) os

-- what stands past the table's end
abbrev pub no_row : Row
no_row = record { at = 0; len = 0; least = 0; most = 0; needed = 0; a = 0; b = 0; c = 0; body = false; first = Any; rest = Any; scalars = false; result = Any; rule = rule.SameTypes; class = Constant; reducer = None }

unfoldable pub row_at : ℕ → Row
row_at i = get_or (rows_from 0 ops) i no_row

-- the kind of an attribute, of a choice's first word, of a choice
unfoldable pub attribute_kind : ℕ → ℕ
attribute_kind k = get_or (map (λ (a : Named). a.kind) attributes) k no_kind

unfoldable pub choice_form : ℕ → ℕ
choice_form k = get_or (map (λ (a : Named). a.kind) choice_kinds) k no_kind

unfoldable pub said_at : ℕ → Choice
said_at k = get_or (map (λ (c : Chosen). c.says) choices) k (choice.Compares Eq)

unfoldable pub choice_kind : ℕ → ℕ
choice_kind k = pick (ltb k no_choice) (kind_said (said_at k)) no_kind

-- the comparison_direction of choice k; EQ where it is none
unfoldable pub direction_at : ℕ → CompareDirection
direction_at k = direction_said (said_at k)
