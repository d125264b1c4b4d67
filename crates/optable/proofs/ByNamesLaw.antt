-- The op table by names: what each of 01's ops computes, and which of them may be the op of a reduction's body.
-- Assumes nothing.
use mathlib.Core.Path.{◌≡◌, refl, sym, ap, ◌∙◌}
use mathlib.Core.List.{List, [], ◌∷◌, map}
use Prim.Native.Nat.{ℕ}
use Prim.Native.String.{String}
use mathlib.Core.Bool.{Bool, true, false}
use native.Mathlib.Omega.{arith}
use lib.Dec.{ltb}
use lib.ListN.{get_or, get_or-map}
use Rattle.lists.specs.Lists.{pick, first_where}
use Rattle.division.specs.declared.Division.TheVariants.{Divide, Remainder}
use Rattle.scalar.specs.declared.Unary.TheVariants as unary
use Rattle.scalar.specs.declared.Binary.{Binary}
use Rattle.scalar.specs.declared.Binary.TheVariants as binary
use Rattle.scalar.specs.declared.Direction.TheVariants.{Eq, Ne, Ge, Gt, Le, Lt}
use Rattle.scalar.specs.declared.Body.{Body}
use Rattle.scalar.specs.declared.Body.TheVariants as body
use Rattle.ops.specs.declared.Move.TheVariants as move
use Rattle.optable.specs.declared.Class.{Class}
use Rattle.optable.specs.declared.Class.TheVariants.{Constant, Iota, Elementwise, Pairwise, Quotient, Compare, Convert, Select, Clamp, Moved, Pad, Concatenate, DynamicSlice, Reduce}
use Rattle.std.specs.Prelude.{Option, Some, None}
use Rattle.optable.specs.declared.Choice.{Choice}
use Rattle.optable.specs.declared.Choice.TheVariants as choice
use Rattle.optable.specs.declared.Row.{Row}
use Rattle.optable.specs.Names.{same, name_place}
use Rattle.optable.specs.Table.{attributes, attribute_names, choices, choice_names, choice_named, said_at, quoted, ops, op_names, op_named, rows_from, no_row, row_at, Direction, no_kind, no_choice, kind_said, direction_said, choice_kind, direction_at}

-- an op by its name, what it computes, and the operation of a body of it
pub record Meant : Type 0 where
  pub name : String
  pub class : Class
  pub reducer : Option Body

abbrev means : String → Class → Option Body → Meant
means n c b = record { name = n; class = c; reducer = b }

-- 01, "Element by element", "Shape by shape" and "Reductions"
abbrev pub meanings : List Meant
meanings =
    means "abs" (Elementwise unary.Abs) None
    ∷ means "add" (Pairwise binary.Add) (Some body.Add)
    ∷ means "and" (Pairwise binary.And) (Some body.And)
    ∷ means "broadcast_in_dim" (Moved move.BroadcastInDim) None
    ∷ means "clamp" Clamp None
    ∷ means "compare" Compare None
    ∷ means "concatenate" Concatenate None
    ∷ means "constant" Constant None
    ∷ means "convert" Convert None
    ∷ means "count_leading_zeros" (Elementwise unary.CountLeadingZeros) None
    ∷ means "divide" (Quotient Divide) None
    ∷ means "dynamic_slice" DynamicSlice None
    ∷ means "iota" Iota None
    ∷ means "maximum" (Pairwise binary.Maximum) (Some body.Maximum)
    ∷ means "minimum" (Pairwise binary.Minimum) (Some body.Minimum)
    ∷ means "multiply" (Pairwise binary.Multiply) (Some body.Multiply)
    ∷ means "negate" (Elementwise unary.Negate) None
    ∷ means "not" (Elementwise unary.Not) None
    ∷ means "or" (Pairwise binary.Or) (Some body.Or)
    ∷ means "pad" Pad None
    ∷ means "popcnt" (Elementwise unary.Popcnt) None
    ∷ means "reduce" Reduce None
    ∷ means "remainder" (Quotient Remainder) None
    ∷ means "reshape" (Moved move.Reshape) None
    ∷ means "reverse" (Moved move.Reverse) None
    ∷ means "select" Select None
    ∷ means "shift_left" (Pairwise binary.ShiftLeft) None
    ∷ means "shift_right_arithmetic" (Pairwise binary.ShiftRightArithmetic) None
    ∷ means "shift_right_logical" (Pairwise binary.ShiftRightLogical) None
    ∷ means "sign" (Elementwise unary.Sign) None
    ∷ means "slice" (Moved move.Slice) None
    ∷ means "subtract" (Pairwise binary.Subtract) None
    ∷ means "transpose" (Moved move.Transpose) None
    ∷ means "xor" (Pairwise binary.Xor) (Some body.Xor)
    ∷ []

-- the table has these names and no other, and the row of each name has its meaning
pub record ByNames : Type 0 where
  pub all : map (λ (m : Meant). quoted m.name) meanings ≡ op_names
  pub each : map (λ (m : Meant). means m.name (row_at (op_named m.name)).class (row_at (op_named m.name)).reducer) meanings ≡ meanings

pub by_names : ByNames
unfolding row_at ops op_names attributes attribute_names name_place first_where same
by_names = record { all = refl; each = refl }

-- ---- the operation of a body is what its op computes

abbrev pub binary_for : Body → Binary
binary_for body.Add = binary.Add
binary_for body.Multiply = binary.Multiply
binary_for body.Maximum = binary.Maximum
binary_for body.Minimum = binary.Minimum
binary_for body.And = binary.And
binary_for body.Or = binary.Or
binary_for body.Xor = binary.Xor

-- the class that the operation of a body asks of its op
abbrev asked : Option Body → Class → Class
asked None c = c
asked (Some b) c = Pairwise (binary_for b)

class-asked : (i : ℕ) → asked (row_at i).reducer (row_at i).class ≡ (row_at i).class
unfolding row_at ops
class-asked i =
    let rows = rows_from 0 ops in
    let all : map (λ (r : Row). asked r.reducer r.class) rows ≡ map (λ (r : Row). r.class) rows = refl in
    sym (get_or-map (λ (r : Row). asked r.reducer r.class) rows i no_row) ∙ ap (λ (l : List Class). get_or l i Constant) all
    ∙ get_or-map (λ (r : Row). r.class) rows i no_row

pub reducer-class : (i : ℕ) (b : Body) → (row_at i).reducer ≡ Some b → (row_at i).class ≡ Pairwise (binary_for b)
reducer-class i b e = sym (class-asked i) ∙ ap (λ (r : Option Body). asked r (row_at i).class) e

-- the choices by names
pub choices-by-names :
    map (λ n. said_at (choice_named n)) ("EQ" ∷ "NE" ∷ "GE" ∷ "GT" ∷ "LE" ∷ "LT" ∷ "SIGNED" ∷ "UNSIGNED" ∷ [])
    ≡ choice.Compares Eq ∷ choice.Compares Ne ∷ choice.Compares Ge ∷ choice.Compares Gt ∷ choice.Compares Le ∷ choice.Compares Lt ∷ choice.Signed ∷ choice.Unsigned ∷ []
unfolding said_at choices choice_names name_place first_where same
choices-by-names = refl

-- a choice of the kind of directions says its direction
pub says-direction : (k : ℕ) → choice_kind k ≡ Direction → said_at k ≡ choice.Compares (direction_at k)
unfolding choice_kind direction_at
says-direction k e = by-range (ltb k no_choice) e
  where
    by_kind : (c : Choice) → kind_said c ≡ Direction → c ≡ choice.Compares (direction_said c)
    by_kind (choice.Compares d) q = refl
    by_kind choice.Signed q = absurd (omega arith)
    by_kind choice.Unsigned q = absurd (omega arith)

    by-range : (b : Bool) → pick b (kind_said (said_at k)) no_kind ≡ Direction → said_at k ≡ choice.Compares (direction_said (said_at k))
    by-range true q = by_kind (said_at k) q
    by-range false q = absurd (omega arith)
