-- What an accepted op grants: the facts that evaluating it requires.
-- Assumes nothing.
use Rattle.std.specs.Prelude.{◌≡◌, List, ◌⊎◌, ℕ, ◌+◌, ◌-◌, ◌*◌, ◌^◌, ◌≤◌, ◌<◌, true}
use Rattle.shape.specs.Index.{size}
use Rattle.shape.specs.Dims.{dims_of}
use Rattle.shape.specs.declared.Shape.{Shape}
use Rattle.dimrules.specs.Whole.{number_of, up_of, down_of, ceil_div}
use Rattle.shape.specs.Place.{is_in}
use Rattle.dimrules.specs.Dims.{dim, num, list_of, kept_below}
use Rattle.dimrules.specs.Types.{type_at, sum_of_dims}
use Rattle.dimrules.specs.declared.TensorType.{TensorType}
use Rattle.dimrules.specs.declared.Numbers.{Numbers}

-- two shapes with one meaning
pub record AlikeShapes (x y : Shape) : Type 0 where
  pub rank : x.rank ≡ y.rank
  pub dims : (d : ℕ) → d < x.rank → dim x d ≡ dim y d

-- two types with one meaning
pub record AlikeTypes (x y : TensorType) : Type 0 where
  pub element : x.element ≡ y.element
  pub shape : AlikeShapes x.shape y.shape

-- the first count numbers of a list are below k, and no two are the same
pub record DimensionsBelow (a : Numbers) (count k : ℕ) : Type 0 where
  pub below : (d : ℕ) → d < count → num a d < k
  pub unique : (d e : ℕ) → d < count → e < count → num a d ≡ num a e → d ≡ e

pub record SameTypesHolds (types : List TensorType) (arity : ℕ) (r : TensorType) : Type 0 where
  pub operands : (j : ℕ) → j < arity → AlikeTypes r (type_at types j)

pub record CompareHolds (x y r : TensorType) : Type 0 where
  pub element : x.element ≡ y.element
  pub operands : AlikeShapes x.shape y.shape
  pub result : AlikeShapes x.shape r.shape

pub record SelectHolds (pred on_true on_false r : TensorType) : Type 0 where
  pub predicate : (pred.shape.rank ≡ 0) ⊎ AlikeShapes pred.shape on_true.shape
  pub choices : AlikeTypes on_true on_false
  pub result : AlikeTypes on_true r

pub record ClampHolds (min x max r : TensorType) : Type 0 where
  pub least : (min.shape.rank ≡ 0) ⊎ AlikeShapes min.shape x.shape
  pub most : (max.shape.rank ≡ 0) ⊎ AlikeShapes max.shape x.shape
  pub below : min.element ≡ x.element
  pub above : x.element ≡ max.element
  pub result : AlikeTypes x r

pub record ReshapeGranted (x r : TensorType) : Type 0 where
  pub element : x.element ≡ r.element
  pub sizes : size (dims_of x.shape) ≡ size (dims_of r.shape)

pub record ReverseHolds (x : TensorType) (dimensions : Numbers) (r : TensorType) : Type 0 where
  pub types : AlikeTypes x r
  pub listed : DimensionsBelow dimensions dimensions.count r.shape.rank

pub record TransposeGranted (x : TensorType) (permutation : Numbers) (r : TensorType) : Type 0 where
  pub element : x.element ≡ r.element
  pub count : permutation.count ≡ x.shape.rank
  pub listed : DimensionsBelow permutation x.shape.rank x.shape.rank
  pub rank : r.shape.rank ≡ x.shape.rank
  pub sizes : (d : ℕ) → d < x.shape.rank → dim r.shape d ≡ dim x.shape (num permutation d)

pub record BroadcastGranted (x : TensorType) (dimensions : Numbers) (r : TensorType) : Type 0 where
  pub element : x.element ≡ r.element
  pub count : dimensions.count ≡ x.shape.rank
  pub listed : DimensionsBelow dimensions dimensions.count r.shape.rank
  pub sizes : (d : ℕ) → d < x.shape.rank → (dim x.shape d ≡ 1) ⊎ (dim x.shape d ≡ dim r.shape (num dimensions d))

pub record SliceGranted (x : TensorType) (start limit strides : Numbers) (r : TensorType) : Type 0 where
  pub element : x.element ≡ r.element
  pub counts : (start.count ≡ x.shape.rank) × (limit.count ≡ x.shape.rank) × (strides.count ≡ x.shape.rank)
  pub rank : r.shape.rank ≡ x.shape.rank
  pub order : (d : ℕ) → d < x.shape.rank → (num start d ≤ num limit d) × (num limit d ≤ dim x.shape d)
  pub positive : (d : ℕ) → d < x.shape.rank → 0 < num strides d
  pub small : (d : ℕ) → d < x.shape.rank → num strides d < 2 ^ 63
  pub sizes : (d : ℕ) → d < x.shape.rank → dim r.shape d ≡ ceil_div (num limit d - num start d) (num strides d)

pub record PadGranted (x padding_value : TensorType) (low high interior : Numbers) (r : TensorType) : Type 0 where
  pub start : x.element ≡ padding_value.element
  pub element : x.element ≡ r.element
  pub counts : (low.count ≡ x.shape.rank) × (high.count ≡ x.shape.rank) × (interior.count ≡ x.shape.rank)
  pub rank : r.shape.rank ≡ x.shape.rank
  pub small : (d : ℕ) → d < x.shape.rank → num interior d < 2 ^ 63
  pub sizes : (d : ℕ) → d < x.shape.rank →
      dim r.shape d + down_of (number_of (num low d)) + down_of (number_of (num high d))
      ≡ dim x.shape d + up_of (number_of (num low d)) + (dim x.shape d - 1) * num interior d + up_of (number_of (num high d))

pub record ConcatenateGranted (types : List TensorType) (arity dimension : ℕ) (r : TensorType) : Type 0 where
  pub some : 0 < arity
  pub along : dimension < r.shape.rank
  pub elements : (j : ℕ) → j < arity → r.element ≡ (type_at types j).element
  pub ranks : (j : ℕ) → j < arity → (type_at types j).shape.rank ≡ r.shape.rank
  pub others : (j : ℕ) → j < arity → (d : ℕ) → d < r.shape.rank → (d ≡ dimension → ⊥) → dim (type_at types j).shape d ≡ dim r.shape d
  pub total : dim r.shape dimension ≡ sum_of_dims types arity dimension

pub record DynamicSliceGranted (types : List TensorType) (arity : ℕ) (sizes : Numbers) (r : TensorType) : Type 0 where
  pub element : (type_at types 0).element ≡ r.element
  pub starts : arity - 1 ≡ (type_at types 0).shape.rank
  pub count : sizes.count ≡ (type_at types 0).shape.rank
  pub alike : (j : ℕ) → j < arity - 1 → AlikeTypes (type_at types 1) (type_at types (1 + j))
  pub within : (d : ℕ) → d < (type_at types 0).shape.rank → num sizes d ≤ dim (type_at types 0).shape d
  pub rank : r.shape.rank ≡ (type_at types 0).shape.rank
  pub shape : (d : ℕ) → d < (type_at types 0).shape.rank → dim r.shape d ≡ num sizes d

pub record ReduceGranted (x v a b : TensorType) (dimensions : Numbers) (r : TensorType) : Type 0 where
  pub start : x.element ≡ v.element
  pub listed : DimensionsBelow dimensions dimensions.count x.shape.rank
  pub left : (x.element ≡ a.element) × (a.shape.rank ≡ 0)
  pub right : (x.element ≡ b.element) × (b.shape.rank ≡ 0)
  pub rank : r.shape.rank ≡ kept_below dimensions x.shape.rank
  pub sizes : (d : ℕ) → d < x.shape.rank → (is_in (list_of dimensions) d ≡ true) ⊎ (dim x.shape d ≡ dim r.shape (kept_below dimensions d))
  pub element : x.element ≡ r.element
