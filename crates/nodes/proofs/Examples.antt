-- The classes of ops, directions and bodies by the words that stand in a text; and the program of a text that is accepted.
-- Assumes nothing.
use mathlib.Core.Path.{◌≡◌, refl}
use mathlib.Core.List.{[], ◌∷◌, map}
use Rattle.lists.specs.Lists.{first_where}
use Rattle.division.specs.declared.Division.TheVariants.{Divide, Remainder}
use Rattle.scalar.specs.declared.Unary.TheVariants.{Negate, Abs, Sign, Not, CountLeadingZeros, Popcnt}
use Rattle.scalar.specs.declared.Binary.TheVariants.{Add, Subtract, Multiply, Maximum, Minimum, And, Or, Xor, ShiftLeft, ShiftRightArithmetic, ShiftRightLogical}
use Rattle.scalar.specs.declared.Direction.TheVariants.{Eq, Ne, Ge, Gt, Le, Lt}
use Rattle.scalar.specs.declared.Body.TheVariants.{Add as AddBody, Multiply as MultiplyBody, Maximum as MaximumBody, Minimum as MinimumBody, And as AndBody, Or as OrBody, Xor as XorBody}
use Rattle.ops.specs.declared.Move.TheVariants.{Reshape, BroadcastInDim, Transpose, Slice, Reverse}
use Rattle.ops.specs.declared.Kind.TheVariants.{Constant, Iota, Elementwise, Pairwise, Quotient, Compare, Convert, Select, Clamp, Moved, Pad, Concatenate, DynamicSlice, Reduce}
use Rattle.optable.specs.Table.{ops, op_names, op_named, row_at, choices, choice_names, choice_named, said_at, direction_at}
use Rattle.optable.specs.Find.{same, name_place}
use Rattle.facts.specs.Facts.{kind_by}
use Rattle.nodes.specs.Nodes.{reducer_at}

classes :
    (map (λ n. kind_by Ge OrBody (row_at (op_named n)).class) ("abs" ∷ "count_leading_zeros" ∷ "negate" ∷ "not" ∷ "popcnt" ∷ "sign" ∷ [])
    ≡ Elementwise Abs ∷ Elementwise CountLeadingZeros ∷ Elementwise Negate ∷ Elementwise Not ∷ Elementwise Popcnt ∷ Elementwise Sign ∷ [])
    × (map (λ n. kind_by Ge OrBody (row_at (op_named n)).class)
    ("add" ∷ "and" ∷ "maximum" ∷ "minimum" ∷ "multiply" ∷ "or" ∷ "shift_left" ∷ "shift_right_arithmetic" ∷ "shift_right_logical" ∷ "subtract" ∷ "xor" ∷ [])
    ≡ map Pairwise (Add ∷ And ∷ Maximum ∷ Minimum ∷ Multiply ∷ Or ∷ ShiftLeft ∷ ShiftRightArithmetic ∷ ShiftRightLogical ∷ Subtract ∷ Xor ∷ []))
    × (map (λ n. kind_by Ge OrBody (row_at (op_named n)).class) ("broadcast_in_dim" ∷ "reshape" ∷ "reverse" ∷ "slice" ∷ "transpose" ∷ [])
    ≡ map Moved (BroadcastInDim ∷ Reshape ∷ Reverse ∷ Slice ∷ Transpose ∷ []))
    × (map (λ n. kind_by Ge OrBody (row_at (op_named n)).class)
    ("clamp" ∷ "compare" ∷ "concatenate" ∷ "constant" ∷ "convert" ∷ "divide" ∷ "dynamic_slice" ∷ "iota" ∷ "pad" ∷ "reduce" ∷ "remainder" ∷ "select" ∷ [])
    ≡ Clamp ∷ Compare Ge ∷ Concatenate ∷ Constant ∷ Convert ∷ Quotient Divide ∷ DynamicSlice ∷ Iota ∷ Pad ∷ Reduce OrBody ∷ Quotient Remainder ∷ Select ∷ [])
unfolding ops op_names row_at first_where same name_place
classes = (refl, refl, refl, refl)

words :
    (map (λ w. direction_at (choice_named w)) ("EQ" ∷ "NE" ∷ "GE" ∷ "GT" ∷ "LE" ∷ "LT" ∷ []) ≡ Eq ∷ Ne ∷ Ge ∷ Gt ∷ Le ∷ Lt ∷ [])
    × (map (λ n. reducer_at (op_named n)) ("add" ∷ "multiply" ∷ "maximum" ∷ "minimum" ∷ "and" ∷ "or" ∷ "xor" ∷ [])
    ≡ AddBody ∷ MultiplyBody ∷ MaximumBody ∷ MinimumBody ∷ AndBody ∷ OrBody ∷ XorBody ∷ [])
unfolding direction_at said_at reducer_at row_at ops op_names choices choice_names first_where same name_place
words = (refl, refl)
