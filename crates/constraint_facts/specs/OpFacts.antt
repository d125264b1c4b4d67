-- What 000's Constraints say of each op, as facts about whole numbers: one field for each C number.
-- A constraint on quantized types has no field: it holds, as this bench has no such type (01).
-- Assumes nothing.
use Rattle.std.specs.Prelude.{◌≡◌, List, ◌⊎◌, true, false, not, ℕ, ◌<◌, ◌-◌, length, get_or, ℤ, pos, ◌+ℤ◌, ◌-ℤ◌, ◌*ℤ◌, ◌≤ℤ◌, ◌<ℤ◌}
use Rattle.element.specs.Types.{signed_of}
use Rattle.shape.specs.Index.{size}
use Rattle.shape.specs.Dims.{dims_of}
use Rattle.shape.specs.Place.{count_below}
use Rattle.dimrules.specs.Dims.{dim}
use Rattle.dimrules.specs.Types.{type_at, sum_of_dims}
use Rattle.dimrules.specs.declared.TensorType.{TensorType}
use Rattle.rules.specs.Facts.{AlikeShapes, AlikeTypes}
use Rattle.checks.specs.Formula.{rank, member_of}
use Rattle.op_checks.specs.OpChecks.{SIGNED, UNSIGNED, absent}

-- ---- words

-- l[d] of a place that exists
abbrev pub ◌at◌ : List ℤ → ℕ → ℤ
l at d = get_or l d (pos 0)

infixl 80 ◌at◌
-- dim(x, d) of a dimension that exists
abbrev pub dim_of : TensorType → ℕ → ℤ
dim_of x d = pos (dim x.shape d)

-- 0 <= z < n
abbrev pub IsIndex : ℤ → ℕ → Type 0
IsIndex z n = (pos 0 ≤ℤ z) × (z <ℤ pos n)

-- 0 <= l < n: each number of the list
abbrev pub AreIndexes : List ℤ → ℕ → Type 0
AreIndexes l n = (d : ℕ) → d < length l → IsIndex (l at d) n

-- is_unique(l)
abbrev pub AllDiffer : List ℤ → Type 0
AllDiffer l = (d e : ℕ) → d < e → e < length l → l at d ≡ l at e → ⊥

-- a = dim(x, z), where z is a dimension of x that exists
abbrev pub IsDim : ℤ → TensorType → ℤ → Type 0
IsDim a x z = (p : ℕ) × (z ≡ pos p) × (p < rank x) × (a ≡ dim_of x p)

-- c = ceil(a / b), of a divisor above 0: the lowest whole number whose product with b is at least a
pub record IsCeil (a b c : ℤ) : Type 0 where
  pub divisor : pos 0 <ℤ b
  pub reaches : a ≤ℤ (c *ℤ b)
  pub lowest : (e : ℤ) → a ≤ℤ (e *ℤ b) → c ≤ℤ e

-- shape(x) = shape(y) except for dim(.., k)
pub record AlikeExcept (k : ℤ) (x y : TensorType) : Type 0 where
  pub ranks : rank x ≡ rank y
  pub others : (d : ℕ) → d < rank x → (pos d ≡ k → ⊥) → dim_of x d ≡ dim_of y d

-- d not in l
abbrev pub NotIn : ℕ → List ℤ → Type 0
NotIn d l = (i : ℕ) → i < length l → l at i ≡ pos d → ⊥

-- how many dimensions below d are not in the list: the place of d among those that stay
abbrev pub stay_below : List ℤ → ℕ → ℕ
stay_below l d = count_below (λ e. not (member_of (pos e) l)) d

-- ---- elementwise ops

-- add, and, count_leading_zeros, divide, maximum, minimum, multiply, negate, not, or, popcnt, remainder, shift_left, shift_right_arithmetic,
-- shift_right_logical, sign, subtract, xor
pub record SameTypesFacts (operands : List TensorType) (result : TensorType) : Type 0 where
  -- (C1) type(lhs) = type(rhs) = type(result), or type(operand) = type(result); (C2) to (C7) of add: quantized
  pub c1 : (j : ℕ) → j < length operands → AlikeTypes (type_at operands j) result

pub record AbsFacts (operand result : TensorType) : Type 0 where
  -- (C1) shape(result) = shape(operand)
  pub c1 : AlikeShapes result.shape operand.shape
  -- (C2) baseline_element_type(result) = baseline_element_type(operand)
  pub c2 : result.element ≡ operand.element

pub record ClampFacts (min operand max result : TensorType) : Type 0 where
  -- (C1) rank(min) = 0 or shape(min) = shape(operand)
  pub c1 : (rank min ≡ 0) ⊎ AlikeShapes min.shape operand.shape
  -- (C2) rank(max) = 0 or shape(max) = shape(operand)
  pub c2 : (rank max ≡ 0) ⊎ AlikeShapes max.shape operand.shape
  -- (C3) baseline_element_type(min) = baseline_element_type(operand) = baseline_element_type(max)
  pub c3 : (min.element ≡ operand.element) × (operand.element ≡ max.element)
  -- (C4) baseline_type(operand) = baseline_type(result)
  pub c4 : AlikeTypes operand result

pub record CompareFacts (lhs rhs : TensorType) (compare_type : ℕ) (result : TensorType) : Type 0 where
  -- (C1) baseline_element_type(lhs) = baseline_element_type(rhs)
  pub c1 : lhs.element ≡ rhs.element
  -- (C2) shape(lhs) = shape(rhs) = shape(result)
  pub c2 : AlikeShapes lhs.shape rhs.shape × AlikeShapes rhs.shape result.shape
  -- (C3) compare_type is SIGNED if is_signed_integer(element_type(lhs)), UNSIGNED if it is an unsigned integer or boolean; it may be absent (01)
  pub c3 : (compare_type ≡ absent) ⊎ ((signed_of lhs.element ≡ true → compare_type ≡ SIGNED) × (signed_of lhs.element ≡ false → compare_type ≡ UNSIGNED))

pub record ConvertFacts (operand result : TensorType) : Type 0 where
  -- (C1) shape(operand) = shape(result)
  pub c1 : AlikeShapes operand.shape result.shape

pub record SelectFacts (pred on_true on_false result : TensorType) : Type 0 where
  -- (C1) rank(pred) = 0 or shape(pred) = shape(on_true)
  pub c1 : (rank pred ≡ 0) ⊎ AlikeShapes pred.shape on_true.shape
  -- (C2) baseline_type(on_true) = baseline_type(on_false) = baseline_type(result)
  pub c2 : AlikeTypes on_true on_false × AlikeTypes on_false result

-- ---- ops by shape

pub record ConstantFacts (value output : TensorType) : Type 0 where
  -- (C1) type(value) = type(output)
  pub c1 : AlikeTypes value output

pub record IotaFacts (iota_dimension : ℤ) (output : TensorType) : Type 0 where
  -- (C1) 0 <= iota_dimension < rank(output)
  pub c1 : IsIndex iota_dimension (rank output)

pub record ReshapeFacts (operand result : TensorType) : Type 0 where
  -- (C1) element_type(result) is element_type(operand)
  pub c1 : operand.element ≡ result.element
  -- (C2) size(operand) = size(result); (C3): quantized
  pub c2 : size (dims_of operand.shape) ≡ size (dims_of result.shape)

pub record BroadcastFacts (operand : TensorType) (broadcast_dimensions : List ℤ) (result : TensorType) : Type 0 where
  -- (C1) element_type(result) is element_type(operand)
  pub c1 : operand.element ≡ result.element
  -- (C2) size(broadcast_dimensions) = rank(operand)
  pub c2 : length broadcast_dimensions ≡ rank operand
  -- (C3) 0 <= broadcast_dimensions < rank(result)
  pub c3 : AreIndexes broadcast_dimensions (rank result)
  -- (C4) is_unique(broadcast_dimensions)
  pub c4 : AllDiffer broadcast_dimensions
  -- (C5) For all d in axes(operand): dim(operand, d) = 1 or dim(operand, d) = dim(result, broadcast_dimensions[d]); (C6): quantized
  pub c5 : (d : ℕ) → d < rank operand → (dim_of operand d ≡ pos 1) ⊎ IsDim (dim_of operand d) result (broadcast_dimensions at d)

pub record TransposeFacts (operand : TensorType) (permutation : List ℤ) (result : TensorType) : Type 0 where
  -- (C1) element_type(result) is element_type(operand)
  pub c1 : operand.element ≡ result.element
  -- (C2) permutation is a permutation of range(rank(operand))
  pub c2 : (length permutation ≡ rank operand) × AreIndexes permutation (rank operand) × AllDiffer permutation
  -- (C3) shape(result) = dim(operand, permutation...); (C4): quantized
  pub c3 : (rank result ≡ length permutation) × ((d : ℕ) → d < rank result → IsDim (dim_of result d) operand (permutation at d))

pub record ReverseFacts (operand : TensorType) (dimensions : List ℤ) (result : TensorType) : Type 0 where
  -- (C1) type(operand) = type(result)
  pub c1 : AlikeTypes operand result
  -- (C2) is_unique(dimensions)
  pub c2 : AllDiffer dimensions
  -- (C3) 0 <= dimensions < rank(result)
  pub c3 : AreIndexes dimensions (rank result)

pub record SliceFacts (operand : TensorType) (start limit strides : List ℤ) (result : TensorType) : Type 0 where
  -- (C1) element_type(operand) = element_type(result)
  pub c1 : operand.element ≡ result.element
  -- (C2) size(start_indices) = size(limit_indices) = size(strides) = rank(operand)
  pub c2 : (length start ≡ length limit) × (length limit ≡ length strides) × (length strides ≡ rank operand)
  -- (C3) 0 <= start_indices <= limit_indices <= shape(operand)
  pub c3 : (d : ℕ) → d < rank operand → (pos 0 ≤ℤ start at d) × (start at d ≤ℤ limit at d) × (limit at d ≤ℤ dim_of operand d)
  -- (C4) 0 < strides
  pub c4 : (d : ℕ) → d < rank operand → pos 0 <ℤ strides at d
  -- (C5) shape(result) = ceil((limit_indices - start_indices) / strides)
  pub c5 : (rank result ≡ rank operand) × ((d : ℕ) → d < rank operand → IsCeil (limit at d -ℤ start at d) (strides at d) (dim_of result d))

pub record PadFacts (operand padding_value : TensorType) (low high interior : List ℤ) (result : TensorType) : Type 0 where
  -- (C1) element_type(operand) = element_type(padding_value) = element_type(result)
  pub c1 : (operand.element ≡ padding_value.element) × (padding_value.element ≡ result.element)
  -- (C2) size(edge_padding_low) = size(edge_padding_high) = size(interior_padding) = rank(operand)
  pub c2 : (length low ≡ length high) × (length high ≡ length interior) × (length interior ≡ rank operand)
  -- (C3) 0 <= interior_padding
  pub c3 : (d : ℕ) → d < rank operand → pos 0 ≤ℤ interior at d
  -- (C4) shape(result) = shape(operand) + edge_padding_low + max(shape(operand) - 1, 0) * interior_padding + edge_padding_high
  pub c4 : (rank result ≡ rank operand) × ((d : ℕ) → d < rank operand →
      dim_of result d ≡ dim_of operand d +ℤ low at d +ℤ pos (dim operand.shape d - 1) *ℤ interior at d +ℤ high at d)

pub record ConcatenateFacts (inputs : List TensorType) (dimension : ℤ) (result : TensorType) : Type 0 where
  -- (C1) same(element_type(inputs...))
  pub c1 : (j : ℕ) → j < length inputs → (type_at inputs 0).element ≡ (type_at inputs j).element
  -- (C2) same(shape(inputs...)) except for dim(inputs..., dimension), which exists
  pub c2 : (j : ℕ) → j < length inputs → IsIndex dimension (rank (type_at inputs j)) × AlikeExcept dimension (type_at inputs 0) (type_at inputs j)
  -- (C3) 0 < size(inputs)
  pub c3 : 0 < length inputs
  -- (C4) 0 <= dimension < rank(inputs[0])
  pub c4 : IsIndex dimension (rank (type_at inputs 0))
  -- (C5) element_type(result) = element_type(inputs[0])
  pub c5 : (type_at inputs 0).element ≡ result.element
  -- (C6) shape(result) = shape(inputs[0]) except for dim(result, dimension) = dim(inputs[0], dimension) + ...
  pub c6 : AlikeExcept dimension (type_at inputs 0) result × ((k : ℕ) → dimension ≡ pos k → dim result.shape k ≡ sum_of_dims inputs (length inputs) k)

pub record DynamicSliceFacts (operand : TensorType) (start_indices : List TensorType) (slice_sizes : List ℤ) (result : TensorType) : Type 0 where
  -- (C1) element_type(operand) = element_type(result)
  pub c1 : operand.element ≡ result.element
  -- (C2) size(start_indices) = size(slice_sizes) = rank(operand)
  pub c2 : (length start_indices ≡ length slice_sizes) × (length slice_sizes ≡ rank operand)
  -- (C3) same(type(start_indices...))
  pub c3 : (j : ℕ) → j < length start_indices → AlikeTypes (type_at start_indices 0) (type_at start_indices j)
  -- (C4) 0 <= slice_sizes <= shape(operand)
  pub c4 : (d : ℕ) → d < rank operand → (pos 0 ≤ℤ slice_sizes at d) × (slice_sizes at d ≤ℤ dim_of operand d)
  -- (C5) shape(result) = slice_sizes
  pub c5 : (rank result ≡ length slice_sizes) × ((d : ℕ) → d < rank result → dim_of result d ≡ slice_sizes at d)

-- ---- reduce, of one input, its init_value, and a body whose two arguments have the types left and right (01, "Reductions")

pub record ReduceFacts (input init_value left right : TensorType) (dimensions : List ℤ) (result : TensorType) : Type 0 where
  -- (C1) same(shape(inputs...)) and (C3) 0 < size(inputs) = size(init_values) = size(results) = N hold of one input
  -- (C2) element_type(inputs...) = element_type(init_values...)
  pub c2 : input.element ≡ init_value.element
  -- (C4) 0 <= dimensions < rank(inputs[0])
  pub c4 : AreIndexes dimensions (rank input)
  -- (C5) is_unique(dimensions)
  pub c5 : AllDiffer dimensions
  -- (C6) body has type (tensor<E0>, tensor<E0>) -> (tensor<E0>), where E0 is element_type(inputs[0]) (01: "share one element type")
  pub c6 : ((input.element ≡ left.element) × (rank left ≡ 0)) × ((input.element ≡ right.element) × (rank right ≡ 0))
  -- (C7) shape(results...) = shape(inputs...) except that the dimension sizes of inputs... corresponding to dimensions are not included
  pub c7 : (rank result ≡ stay_below dimensions (rank input)) × ((d : ℕ) → d < rank input → NotIn d dimensions →
      dim_of result (stay_below dimensions d) ≡ dim_of input d)
  -- (C8) element_type(results[i]) = Ei for all i in [0,N)
  pub c8 : input.element ≡ result.element
