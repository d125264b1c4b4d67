-- The formulas of the five ops that one loop serves, by the code's Map: its arrays hold attribute numbers as 64-bit patterns.
-- Assumes nothing.
use Rattle.std.specs.Prelude.{List, ℕ, ◌^◌, ◌≤◌, ◌<◌, length, take}
use Rattle.lists.specs.Lists.{tab}
use Rattle.shape.specs.Index.{at, Within, element_at}
use Rattle.shape.specs.Dims.{dims_of, Sized, Fills}
use Rattle.shape.specs.Whole.{number_of}
use Rattle.shape.specs.declared.Shape.{Shape}
use Rattle.maps.specs.Formulas.{gathered, transpose_index, slice_index, reverse_coord, broadcast_coord, pad_coord}
use Rattle.maps.specs.declared.Kind.{Kind}
use Rattle.maps.specs.declared.Kind.TheVariants.{Transpose, Slice, Reverse, Broadcast, Pad}
use Rattle.maps.specs.declared.Map.{Map}

-- operand_index[d], in a dimension of size n, for the index i of the result
abbrev pub coord_by : Kind → List ℕ → List ℕ → ℕ → ℕ → (ℕ → ℕ) → ℕ → ℕ
coord_by Transpose a b count n i d = transpose_index (take count a) i d
coord_by Slice a b count n i d = slice_index a b i d
coord_by Reverse a b count n i d = reverse_coord (take count a) n (i d) d
coord_by Broadcast a b count n i d = broadcast_coord n (i (at a d))
coord_by Pad a b count n i d = pad_coord (number_of (at a d)) (at b d) n (i d)

abbrev pub coord_of : Map → ℕ → (ℕ → ℕ) → ℕ → ℕ
coord_of m n i d = coord_by m.kind m.a m.b m.count n i d

abbrev pub operand_index : Map → List ℕ → (ℕ → ℕ) → List ℕ
operand_index m from i = tab (length from) (λ d. coord_of m (at from d) i d)

-- an element of the result, and the result
abbrev pub mapped_at : Map → List ℕ → List ℕ → ℕ → List ℕ → ℕ
mapped_at m from x z i = element_at x from (operand_index m from (at i)) z

abbrev pub mapped : Map → List ℕ → List ℕ → List ℕ → ℕ → List ℕ
mapped m from to x z = gathered (λ i d. coord_of m (at from d) i d) from to x z

-- no sum on the way passes 64 bits
abbrev pub ComputesBy : Kind → List ℕ → List ℕ → ℕ → (ℕ → ℕ) → ℕ → Type 0
ComputesBy Transpose a b n i d = Unit {0}
ComputesBy Slice a b n i d = slice_index a b i d < 2 ^ 64
ComputesBy Reverse a b n i d = i d < n
ComputesBy Broadcast a b n i d = Unit {0}
ComputesBy Pad a b n i d = (i d < 2 ^ 63) × (at b d < 2 ^ 63)

abbrev pub Computes : Map → ℕ → (ℕ → ℕ) → ℕ → Type 0
Computes m n i d = ComputesBy m.kind m.a m.b n i d

abbrev pub MapReady : Map → List ℕ → (ℕ → ℕ) → Type 0
MapReady m from i = (d : ℕ) → d < length from → Computes m (at from d) i d

-- what the loop asks: the shapes, the operand's stretch, and that every index of the result can be mapped
pub record Fed (m : Map) (from to : Shape) (x : List ℕ) : Type 0 where
  pub from-sized : Sized from
  pub to-sized : Sized to
  pub count : m.count ≤ 6
  pub operand : Fills x from
  pub ready : (i : List ℕ) → Within (dims_of to) i → MapReady m (dims_of from) (at i)
