-- 01, "Table of examples": "The rows marked P are proved about the definitions, as one table under one statement."
-- A row is an op as the verifier judges it and the evaluation runs it, on the paper's operands, and the result that the paper has.
-- Assumes nothing.
use Rattle.std.specs.Prelude.{◌≡◌, Bool, true, ◌&&◌, List, [], ◌∷◌, map, ℕ, ◌-◌, eqb, ℤ, pos, neg_ℤ, ◌+ℤ◌, ◌*ℤ◌, length}
use Rattle.lists.specs.Lists.{all_below}
use Rattle.run.specs.Run.{Out, gives}
use Rattle.run.specs.Ways.{by_fold}
use Rattle.element.specs.Types.{slot_for, is_value}
use Rattle.element.specs.declared.ElementType.{ElementType}
use Rattle.element.specs.declared.ElementType.TheVariants.{I1, I8, I32, U8, U16}
use Rattle.division.specs.declared.Division.TheVariants.{Divide, Remainder}
use Rattle.scalar.specs.declared.Unary.TheVariants.{Abs}
use Rattle.scalar.specs.declared.Binary.TheVariants.{Add as Plus, And, ShiftRightArithmetic, ShiftRightLogical}
use Rattle.scalar.specs.declared.Body.{Body}
use Rattle.scalar.specs.declared.Body.TheVariants.{Add}
use Rattle.shape.specs.Index.{at, size, in_six}
use Rattle.shape.specs.Dims.{shape_from}
use Rattle.shape.specs.Whole.{pattern_of, ceil_div}
use Rattle.reduction.specs.Rows.{kept_shape}
use Rattle.elementwise.specs.Elementwise.{Tensor}
use Rattle.ops.specs.declared.Move.TheVariants.{Slice}
use Rattle.ops.specs.declared.Kind.{Kind}
use Rattle.ops.specs.declared.Kind.TheVariants.{Elementwise, Pairwise, Quotient, Convert, Clamp, Moved, Pad, DynamicSlice, Reduce}
use Rattle.ops.specs.Ops.{hlo, way_of}
use Rattle.optable.specs.Table.{no_choice}
use Rattle.dimrules.specs.Whole.{up_of}
use Rattle.dimrules.specs.Types.{no_type}
use Rattle.dimrules.specs.declared.TensorType.{TensorType}
use Rattle.dimrules.specs.declared.Numbers.{Numbers}
use Rattle.opcheck.specs.Judged.{broken_by}
use Rattle.opcheck.specs.declared.Operation.{Operation}
use Rattle.facts.specs.Facts.{rule_of_kind, node_for}

-- ---- what a row says

-- a tensor with its type; the elements are slots in canonical order
pub record Typed : Type 0 where
  pub element : ElementType
  pub dims : List ℕ
  pub elements : Tensor

-- a, b and c are the op's attribute lists in the order of its row of the op table
pub record MarkedRow : Type 0 where
  pub kind : Kind
  pub operands : List Typed
  pub a : List ℕ
  pub b : List ℕ
  pub c : List ℕ
  pub result : Typed

-- what comes of a row: whether its tensors are of their types; the verifier's first broken constraint, 0 for none (refusal 8); what the evaluation gives
pub record RowOutcome : Type 0 where
  pub typed : Bool
  pub broken : ℕ
  pub out : Out Tensor ℕ

-- as many elements as the shape has, each a value of the element type
abbrev pub is_typed : Typed → Bool
is_typed x = eqb (length x.elements) (size x.dims) && all_below (length x.elements) (λ k. is_value x.element (at x.elements k))

abbrev pub all_typed : List Typed → Bool
all_typed [] = true
all_typed (x ∷ xs) = is_typed x && all_typed xs

abbrev pub row_type : Typed → TensorType
row_type x = record { element = x.element; shape = shape_from x.dims }

abbrev pub row_numbers : List ℕ → Numbers
row_numbers l = record { count = length l; list = in_six l }

-- the op as it is read; choice and value are compare's and constant's, left and right the types of a body's arguments, of rank 0
abbrev pub row_operation : MarkedRow → Operation
row_operation r =
    let argument : TensorType = record { element = r.result.element; shape = shape_from [] } in
    record {
      arity = length r.operands;
      types = map row_type r.operands;
      result = row_type r.result;
      a = row_numbers r.a;
      b = row_numbers r.b;
      c = row_numbers r.c;
      choice = no_choice;
      value = no_type;
      left = argument;
      right = argument;
    }

-- the op of a row on its operands, as the evaluation runs an op
abbrev pub row_gives : MarkedRow → Out Tensor ℕ
row_gives r = by_fold hlo (way_of (node_for r.kind (row_operation r) [] []) r.kind (map (λ x. x.elements) r.operands))

abbrev pub outcome_of : MarkedRow → RowOutcome
outcome_of r =
    record {
      typed = all_typed (r.result ∷ r.operands);
      broken = broken_by (rule_of_kind r.kind) (row_operation r);
      out = row_gives r;
    }

-- what the paper says of a row
abbrev pub said_of : MarkedRow → RowOutcome
said_of r = record { typed = true; broken = 0; out = gives r.result.elements }

-- ---- how rows are written; where the paper gives no element type, i32

-- the slot of -k
abbrev minus : ElementType → ℕ → ℕ
minus t k = slot_for t (neg_ℤ (pos k))

abbrev tensor : ElementType → List ℕ → Tensor → Typed
tensor e dims xs = record { element = e; dims = dims; elements = xs }

-- one value, of rank 0
abbrev single : ElementType → ℕ → Typed
single e x = tensor e [] (x ∷ [])

-- a list of values, of rank 1
abbrev list : ElementType → Tensor → Typed
list e xs = tensor e (length xs ∷ []) xs

-- an op without attributes
abbrev marked_row : Kind → List Typed → Typed → MarkedRow
marked_row kind operands result = record { kind = kind; operands = operands; a = []; b = []; c = []; result = result }

-- "slice: .. C5 result size is the ceiling of (limit - start) / stride"
abbrev slice : Tensor → ℕ → ℕ → ℕ → Tensor → MarkedRow
slice x start limit stride is =
    record {
      kind = Moved Slice;
      operands = list I32 x ∷ [];
      a = start ∷ [];
      b = limit ∷ [];
      c = stride ∷ [];
      result = tensor I32 (ceil_div (limit - start) stride ∷ []) is;
    }

-- "pad: .. Size: operand + low + max(operand - 1, 0) x interior + high"
abbrev pad_size : ℕ → ℤ → ℤ → ℤ → ℕ
pad_size n low interior high = up_of (pos n +ℤ low +ℤ pos (n - 1) *ℤ interior +ℤ high)

abbrev pad : Tensor → ℕ → ℤ → ℤ → ℤ → Tensor → MarkedRow
pad x value low interior high is =
    record {
      kind = Pad;
      operands = list I32 x ∷ single I32 value ∷ [];
      a = pattern_of low ∷ [];
      b = pattern_of high ∷ [];
      c = pattern_of interior ∷ [];
      result = tensor I32 (pad_size (length x) low interior high ∷ []) is;
    }

-- the result has the slice size; ui16 as in the program below the table
abbrev dynamic_slice : ℕ → Tensor → Typed → Tensor → MarkedRow
dynamic_slice slice_size x start is =
    record {
      kind = DynamicSlice;
      operands = list U16 x ∷ start ∷ [];
      a = slice_size ∷ [];
      b = [];
      c = [];
      result = tensor U16 (slice_size ∷ []) is;
    }

-- the result has the dimensions that are not reduced
abbrev reduce : Body → ℕ → List ℕ → Tensor → ℕ → Tensor → MarkedRow
reduce body dimension dims x start is =
    record {
      kind = Reduce body;
      operands = tensor I32 dims x ∷ single I32 start ∷ [];
      a = dimension ∷ [];
      b = [];
      c = [];
      result = tensor I32 (kept_shape (dimension ∷ []) dims) is;
    }

-- ---- the rows marked P, in 01's order

abbrev pub marked_rows : List MarkedRow
marked_rows =
    -- "P divide i32 [17, -17, 17, -17] by [3, 3, -3, -3]: [5, -5, -5, 5]; P remainder: [2, -2, 2, -2] (003)."
    marked_row (Quotient Divide) (list I32 (17 ∷ minus I32 17 ∷ 17 ∷ minus I32 17 ∷ []) ∷ list I32 (3 ∷ 3 ∷ minus I32 3 ∷ minus I32 3 ∷ []) ∷ []) (list I32 (5 ∷ minus I32 5 ∷ minus I32 5 ∷ 5 ∷ []))
    ∷ marked_row (Quotient Remainder) (list I32 (17 ∷ minus I32 17 ∷ 17 ∷ minus I32 17 ∷ []) ∷ list I32 (3 ∷ 3 ∷ minus I32 3 ∷ minus I32 3 ∷ []) ∷ []) (list I32 (2 ∷ minus I32 2 ∷ 2 ∷ minus I32 2 ∷ []))
    -- "P i8 -128 / -1: -128, remainder 0. P abs i8 -128: 127."
    ∷ marked_row (Quotient Divide) (single I8 (minus I8 128) ∷ single I8 (minus I8 1) ∷ []) (single I8 (minus I8 128))
    ∷ marked_row (Quotient Remainder) (single I8 (minus I8 128) ∷ single I8 (minus I8 1) ∷ []) (single I8 0)
    ∷ marked_row (Elementwise Abs) (single I8 (minus I8 128) ∷ []) (single I8 127)
    -- "P i8 127 + 1 = -128; ui8 255 + 1 = 0; i1 true + true = true."
    ∷ marked_row (Pairwise Plus) (single I8 127 ∷ single I8 1 ∷ []) (single I8 (minus I8 128))
    ∷ marked_row (Pairwise Plus) (single U8 255 ∷ single U8 1 ∷ []) (single U8 0)
    ∷ marked_row (Pairwise Plus) (single I1 1 ∷ single I1 1 ∷ []) (single I1 1)
    -- "P and [[1, 2], [3, 4]], [[5, 6], [7, 8]]: [[1, 2], [3, 0]] (003)."
    ∷ marked_row (Pairwise And) (tensor I32 (2 ∷ 2 ∷ []) (1 ∷ 2 ∷ 3 ∷ 4 ∷ []) ∷ tensor I32 (2 ∷ 2 ∷ []) (5 ∷ 6 ∷ 7 ∷ 8 ∷ []) ∷ []) (tensor I32 (2 ∷ 2 ∷ []) (1 ∷ 2 ∷ 3 ∷ 0 ∷ []))
    -- "P convert i32 300 to ui8: 44; ui8 200 to i8: -56."
    ∷ marked_row Convert (single I32 300 ∷ []) (single U8 44)
    ∷ marked_row Convert (single U8 200 ∷ []) (single I8 (minus I8 56))
    -- "P i8 -128 arithmetic right by 8: -1; logical by 7: 1."
    ∷ marked_row (Pairwise ShiftRightArithmetic) (single I8 (minus I8 128) ∷ single I8 8 ∷ []) (single I8 (minus I8 1))
    ∷ marked_row (Pairwise ShiftRightLogical) (single I8 (minus I8 128) ∷ single I8 7 ∷ []) (single I8 1)
    -- "P clamp min 5, x 4, max 3: 3."
    ∷ marked_row Clamp (single I32 5 ∷ single I32 4 ∷ single I32 3 ∷ []) (single I32 3)
    -- "P slice of 5, start 1, limit 5, stride 2: elements 1 and 3."
    ∷ slice (0 ∷ 1 ∷ 2 ∷ 3 ∷ 4 ∷ []) 1 5 2 (1 ∷ 3 ∷ [])
    -- "P pad [1, 2, 3] with 0, low -1, interior 1, high 2: [0, 2, 0, 3, 0, 0]."
    ∷ pad (1 ∷ 2 ∷ 3 ∷ []) 0 (neg_ℤ (pos 1)) (pos 1) (pos 2) (0 ∷ 2 ∷ 0 ∷ 3 ∷ 0 ∷ 0 ∷ [])
    -- "P dynamic_slice size 1 of [1650, 1675, 1700, 1725]: ui8 255 gives [1725], i8 -1 gives [1650]."
    ∷ dynamic_slice 1 (1650 ∷ 1675 ∷ 1700 ∷ 1725 ∷ []) (single U8 255) (1725 ∷ [])
    ∷ dynamic_slice 1 (1650 ∷ 1675 ∷ 1700 ∷ 1725 ∷ []) (single I8 (minus I8 1)) (1650 ∷ [])
    -- "P reduce add over dimension 1 of [[1, 2, 3], [4, 5, 6]], start 0: [6, 15]."
    ∷ reduce Add 1 (2 ∷ 3 ∷ []) (1 ∷ 2 ∷ 3 ∷ 4 ∷ 5 ∷ 6 ∷ []) 0 (6 ∷ 15 ∷ [])
    ∷ []

-- of every row: its tensors are of their types, the verifier finds no broken constraint, and the evaluation gives what the paper says
abbrev pub MarkedRowsHold : Type 0
MarkedRowsHold = map outcome_of marked_rows ≡ map said_of marked_rows
