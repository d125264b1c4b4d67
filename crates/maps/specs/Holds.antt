-- What the functions that fill a result's stretch require: the two stretches, and 000's constraints over the dimensions and attribute lists.
-- Assumes nothing.
use Rattle.std.specs.Prelude.{◌≡◌, List, ◌⊎◌, ℕ, ◌+◌, ◌-◌, ◌^◌, ◌≤◌, ◌<◌, length, get_or}
use Rattle.lists.specs.Lists.{All}
use Rattle.shape.specs.Index.{at, size}
use Rattle.shape.specs.Dims.{dims_of, Sized, Fills}
use Rattle.shape.specs.Whole.{ceil_div}
use Rattle.shape.specs.declared.Shape.{Shape}
use Rattle.maps.specs.Concatenation.{no_shape, sum_along}

-- the operand's stretch x and the result's stretch out are of their shapes, which are within 01's sizes
pub record Stretches (from to : Shape) (x out : List ℕ) : Type 0 where
  pub from-sized : Sized from
  pub to-sized : Sized to
  pub operand : Fills x from
  pub result : Fills out to

-- no two places of the list hold the same number: is_unique
abbrev pub Distinct : List ℕ → Type 0
Distinct l = (i j : ℕ) → i < length l → j < length l → at l i ≡ at l j → i ≡ j

-- reshape: C2, size(operand) = size(result)
pub record ReshapeHolds (from to : List ℕ) : Type 0 where
  pub sizes : size from ≡ size to

-- broadcast_in_dim: C2, C3 and C5
pub record BroadcastHolds (dimensions from to : List ℕ) : Type 0 where
  pub count : length dimensions ≡ length from
  pub below : (d : ℕ) → d < length from → at dimensions d < length to
  pub sizes : (d : ℕ) → d < length from → (at from d ≡ 1) ⊎ (at from d ≡ at to (at dimensions d))

-- transpose: C2 (a permutation of range(rank(operand))) and C3
pub record TransposeHolds (permutation from to : List ℕ) : Type 0 where
  pub count : length permutation ≡ length from
  pub below : (d : ℕ) → d < length permutation → at permutation d < length from
  pub unique : Distinct permutation
  pub rank : length to ≡ length from
  pub sizes : (d : ℕ) → d < length from → at to d ≡ at from (at permutation d)

-- slice: C3 0 <= start <= limit <= size, C4 and C5
pub record SliceHolds (start limit strides from to : List ℕ) : Type 0 where
  pub rank : length to ≡ length from
  pub order : (d : ℕ) → d < length from → (at start d ≤ at limit d) × (at limit d ≤ at from d)
  pub positive : (d : ℕ) → d < length from → 0 < at strides d
  pub sizes : (d : ℕ) → d < length from → at to d ≡ ceil_div (at limit d - at start d) (at strides d)

-- pad: the rank of C4, and C3, 0 <= interior_padding, as a signed 64-bit number
pub record PadHolds (interior from to : List ℕ) : Type 0 where
  pub rank : length to ≡ length from
  pub nonnegative : (d : ℕ) → d < length from → at interior d < 2 ^ 63

-- dynamic_slice: C4, slice_sizes <= shape(operand), and C5, shape(result) = slice_sizes
pub record DynamicSliceHolds (from to : List ℕ) : Type 0 where
  pub rank : length to ≡ length from
  pub sizes : (d : ℕ) → d < length from → at to d ≤ at from d

-- iota: C1
pub record IotaHolds (dimension : ℕ) (to : List ℕ) : Type 0 where
  pub along : dimension < length to

-- concatenate: C4, C2 and C6
pub record ConcatenateHolds (dimension : ℕ) (shapes : List (List ℕ)) (to : List ℕ) : Type 0 where
  pub along : dimension < length to
  pub ranks : All (λ s. length s ≡ length to) shapes
  pub others : All (λ s. (d : ℕ) → d < length to → (d ≡ dimension → ⊥) → at s d ≡ at to d) shapes
  pub total : at to dimension ≡ sum_along dimension shapes

-- the inputs as the code holds them: at most 8, each within 01's sizes and within x
pub record InputsLaid (x : List ℕ) (shapes : List Shape) (places : List ℕ) (count : ℕ) : Type 0 where
  pub few : count ≤ 8
  pub sized : (j : ℕ) → j < count → Sized (get_or shapes j no_shape)
  pub laid : (j : ℕ) → j < count → at places j + size (dims_of (get_or shapes j no_shape)) ≤ length x
