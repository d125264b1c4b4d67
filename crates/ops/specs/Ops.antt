-- The set of ops of paper 01 as the order theorem takes it: what each op makes of its operands, outright or gathered.
-- Assumes nothing.
use Rattle.std.specs.Prelude.{Bool, List, [], map, ℕ, eqb, length, get_or, drop}
use Rattle.lists.specs.Lists.{tab}
use Rattle.run.specs.Run.{gives}
use Rattle.run.specs.Ways.{Way, plain, gather, OpSet}
use Rattle.element.specs.declared.ElementType.{ElementType}
use Rattle.element.specs.declared.ElementType.TheVariants.{I1}
use Rattle.scalar.specs.Body.{body_of}
use Rattle.shape.specs.Index.{size}
use Rattle.maps.specs.Formulas.{reshaped, broadcasted, transposed, sliced, reversed, padded, dynamic_sliced, counted}
use Rattle.maps.specs.Concatenation.{concatenated}
use Rattle.reduction.specs.Rows.{slice_shape, rows_of}
use Rattle.elementwise.specs.Elementwise.{Tensor, unary_at, binary_at, compare_at, convert_at, select_at, clamp_at, divided}
use Rattle.ops.specs.OpAttributes.{OpAttributes, natural, naturals}
use Rattle.ops.specs.declared.Move.{Move}
use Rattle.ops.specs.declared.Move.TheVariants.{Reshape, BroadcastInDim, Transpose, Slice, Reverse}
use Rattle.ops.specs.declared.Kind.{Kind}
use Rattle.ops.specs.declared.Kind.TheVariants.{Constant, Iota, Elementwise, Pairwise, Quotient, Compare, Convert, Select, Clamp, Moved, Pad, Concatenate, DynamicSlice, Reduce}

-- the type of a tensor: its elements' type and its dimensions
pub record TensorType : Type 0 where
  pub element : ElementType
  pub dims : List ℕ

-- what is read past the end of a list of types
abbrev pub no_tensor_type : TensorType
no_tensor_type = record { element = I1; dims = [] }

-- An op of a program: its class, its result's type, its operands' types, its attributes, a constant's elements, and the numbers of its operands.
pub record Node : Type 0 where
  pub kind : Kind
  pub result : TensorType
  pub from : List TensorType
  pub attributes : OpAttributes
  pub values : Tensor
  pub operands : List ℕ

module _ (o : Node) where
  -- of the result: its element type, its dimensions, how many elements
  abbrev pub element_of : ElementType
  element_of = o.result.element

  abbrev pub result_dims : List ℕ
  result_dims = o.result.dims

  abbrev pub element_count : ℕ
  element_count = size o.result.dims

  -- of operand j: its element type, its dimensions, whether it has rank 0
  abbrev pub operand_element : ℕ → ElementType
  operand_element j = (get_or o.from j no_tensor_type).element

  abbrev pub operand_dims : ℕ → List ℕ
  operand_dims j = (get_or o.from j no_tensor_type).dims

  abbrev pub is_single : ℕ → Bool
  is_single j = eqb (length (operand_dims j)) 0

  abbrev pub moved : Move → Tensor → Tensor
  moved Reshape x = reshaped (operand_dims 0) result_dims x
  moved BroadcastInDim x = broadcasted (naturals o.attributes.broadcast_dimensions) (operand_dims 0) result_dims x
  moved Transpose x = transposed (naturals o.attributes.permutation) (operand_dims 0) result_dims x
  moved Slice x = sliced (naturals o.attributes.start_indices) (naturals o.attributes.strides) (operand_dims 0) result_dims x
  moved Reverse x = reversed (naturals o.attributes.dimensions) result_dims x

  -- the op of a class on its operands' tensors
  abbrev pub way_of : Kind → List Tensor → Way Tensor ℕ ℕ
  way_of Constant args = plain (gives o.values)
  way_of Iota args = plain (gives (counted element_of (natural o.attributes.iota_dimension) result_dims))
  way_of (Elementwise op) args = plain (gives (tab element_count (unary_at op element_of (get_or args 0 []))))
  way_of (Pairwise op) args = plain (gives (tab element_count (binary_at op element_of (get_or args 0 []) (get_or args 1 []))))
  way_of (Quotient op) args = plain (divided op element_of element_count (get_or args 0 []) (get_or args 1 []))
  way_of (Compare d) args = plain (gives (tab element_count (compare_at d (operand_element 0) (get_or args 0 []) (get_or args 1 []))))
  way_of Convert args = plain (gives (tab element_count (convert_at (operand_element 0) element_of (get_or args 0 []))))
  way_of Select args = plain (gives (tab element_count (select_at (is_single 0) (get_or args 0 []) (get_or args 1 []) (get_or args 2 []))))
  way_of Clamp args =
      plain (gives (tab element_count (clamp_at element_of (is_single 0) (is_single 2) (get_or args 0 []) (get_or args 1 []) (get_or args 2 []))))
  way_of (Moved m) args = plain (gives (moved m (get_or args 0 [])))
  way_of Pad args = plain (gives (padded o.attributes.edge_padding_low (naturals o.attributes.interior_padding) (operand_dims 0) result_dims (get_or args 0 []) (get_or (get_or args 1 []) 0 0)))
  way_of Concatenate args = plain (gives (concatenated (natural o.attributes.dimension) (map (λ t. t.dims) o.from) args result_dims))
  way_of DynamicSlice args =
      plain (gives (dynamic_sliced (operand_element 1) (map (λ s. get_or s 0 0) (drop 1 args)) (operand_dims 0) result_dims (get_or args 0 [])))
  way_of (Reduce body) args = gather (body_of body element_of) (get_or (get_or args 1 []) 0 0) (rows_of (naturals o.attributes.dimensions) (operand_dims 0) result_dims (get_or args 0 []))

  -- how many elements each result element of a reduction is made of
  abbrev pub row_sizes_of : Kind → List ℕ
  row_sizes_of (Reduce body) = tab element_count (λ k. size (slice_shape (naturals o.attributes.dimensions) (operand_dims 0)))
  row_sizes_of Constant = []
  row_sizes_of Iota = []
  row_sizes_of (Elementwise op) = []
  row_sizes_of (Pairwise op) = []
  row_sizes_of (Quotient op) = []
  row_sizes_of (Compare d) = []
  row_sizes_of Convert = []
  row_sizes_of Select = []
  row_sizes_of Clamp = []
  row_sizes_of (Moved m) = []
  row_sizes_of Pad = []
  row_sizes_of Concatenate = []
  row_sizes_of DynamicSlice = []

-- the set of ops: no op takes turns from a budget, and a value is its tensor alone
abbrev pub hlo : OpSet
hlo =
    record {
      Op = Node;
      Value = Tensor;
      Stop = ℕ;
      Element = ℕ;
      operands = λ o. o.operands;
      turns = λ v. 0;
      blank = [];
      value_of = λ xs. xs;
      row_sizes = λ o. row_sizes_of o o.kind;
      way = λ o args b. way_of o o.kind args;
    }
