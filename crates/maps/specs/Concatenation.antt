-- concatenate: along one dimension, the inputs one after the other (000). An input is a shape and its elements.
-- Assumes nothing.
use Rattle.std.specs.Prelude.{List, [], ◌∷◌, ℕ, ◌+◌, ◌-◌, get_or, set, take, drop, ltb}
use Rattle.lists.specs.Lists.{pick, tab}
use Rattle.shape.specs.Index.{at, size, tabulate, element_at}
use Rattle.shape.specs.Dims.{dims_of}
use Rattle.shape.specs.declared.Shape.{Shape}

-- "result[i0, ..., id, ..., iR-1] = inputs[k][i0, ..., kd, ..., iR-1]", where "id = d0 + ... + dk-1 + kd": the index i, of whose coordinate id t is left
abbrev pub concat_from : ℕ → List ℕ → List (List ℕ) → List (List ℕ) → ℕ → ℕ
concat_from dimension i [] inputs t = 0
concat_from dimension i (s ∷ shapes) [] t = 0
concat_from dimension i (s ∷ shapes) (x ∷ inputs) t =
    let later = concat_from dimension i shapes inputs (t - at s dimension) in
    pick (ltb t (at s dimension)) (element_at x s (set i dimension t) 0) later

abbrev pub concat_at : ℕ → List (List ℕ) → List (List ℕ) → List ℕ → ℕ
concat_at dimension shapes inputs i = concat_from dimension i shapes inputs (at i dimension)

abbrev pub concatenated : ℕ → List (List ℕ) → List (List ℕ) → List ℕ → List ℕ
concatenated dimension shapes inputs to = tabulate to (concat_at dimension shapes inputs)

-- d0 + d1 + ..: the sizes along the dimension
abbrev pub sum_along : ℕ → List (List ℕ) → ℕ
sum_along dimension [] = 0
sum_along dimension (s ∷ shapes) = at s dimension + sum_along dimension shapes

-- ---- the inputs as the code holds them: one list x, for each its shape and its place in x

-- the value past the end of an array of shapes
abbrev pub no_shape : Shape
no_shape = record { rank = 0; dims = [] }

abbrev pub shapes_of : List Shape → ℕ → List (List ℕ)
shapes_of shapes count = tab count (λ j. dims_of (get_or shapes j no_shape))

abbrev pub inputs_in : List ℕ → List Shape → List ℕ → ℕ → List (List ℕ)
inputs_in x shapes places count = tab count (λ j. take (size (dims_of (get_or shapes j no_shape))) (drop (at places j) x))
