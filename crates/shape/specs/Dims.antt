-- The dimensions of a shape, and the sizes that 01 grants of it.
-- Assumes nothing.
use Rattle.std.specs.Prelude.{◌≡◌, List, ℕ, ◌≤◌, length, take}
use Rattle.shape.specs.declared.Shape.{Shape}
use Rattle.shape.specs.Index.{size, volume, in_six}

abbrev pub dims_of : Shape → List ℕ
dims_of s = take s.rank s.dims

-- a shape as the code makes it: zeros behind its dimensions
abbrev pub shape_from : List ℕ → Shape
shape_from ds = record { rank = length ds; dims = in_six ds }

-- 01, "Sizes": 1, the rank is at most 6; 2, the product of the dimensions with every 0 counted as 1, and so each dimension, is at most 4,096
pub record Sized (s : Shape) : Type 0 where
  pub rank : s.rank ≤ 6
  pub volume : volume (dims_of s) ≤ 4096

-- the list has one slot for each element of the shape
abbrev pub Fills : List ℕ → Shape → Type 0
Fills x s = length x ≡ size (dims_of s)
