-- The ops that take each element of the result from an index of the operand, by 000's formulas (01, "Shape by shape").
-- Attribute numbers are whole numbers: in ℕ where a constraint says 0 <= .., else, of edge_padding_low, in ℤ.
-- Assumes nothing.
use Rattle.std.specs.Prelude.{List, ℕ, ◌+◌, ◌*◌, ◌-◌, ◌/◌, ◌%◌, min, length, get_or, ltb, eqb, ℤ, pos, negsuc, ◌-ℤ◌}
use Rattle.lists.specs.Lists.{pick, tab}
use Rattle.element.specs.Types.{value_of, wrap_to}
use Rattle.element.specs.declared.ElementType.{ElementType}
use Rattle.shape.specs.Index.{at, ravel, unravel, tabulate, element_at}
use Rattle.shape.specs.Place.{place_in}

-- "result[result_index] = operand[operand_index]", operand_index[d] by a formula of result_index and d; z where that is no index of the operand
abbrev pub gathered : ((ℕ → ℕ) → ℕ → ℕ) → List ℕ → List ℕ → List ℕ → ℕ → List ℕ
gathered formula from to x z = tabulate to (λ i. element_at x from (tab (length from) (formula (at i))) z)

-- reshape: "result_index and operand_index have the same position in the lexicographic ordering"
abbrev pub reshaped : List ℕ → List ℕ → List ℕ → List ℕ
reshaped from to x = tabulate to (λ i. element_at x from (unravel from (ravel to i)) 0)

-- broadcast_in_dim: "operand_index[d] = 0 if dim(operand, d) = 1", "result_index[broadcast_dimensions[d]] otherwise"
abbrev pub broadcast_coord : ℕ → ℕ → ℕ
broadcast_coord n x = pick (eqb n 1) 0 x

abbrev pub broadcast_index : List ℕ → List ℕ → (ℕ → ℕ) → ℕ → ℕ
broadcast_index dimensions from i d = broadcast_coord (at from d) (i (at dimensions d))

abbrev pub broadcasted : List ℕ → List ℕ → List ℕ → List ℕ → List ℕ
broadcasted dimensions from to x = gathered (broadcast_index dimensions from) from to x 0

-- transpose: "result_index[d] = operand_index[permutation[d]]", so operand_index[d] is result_index at d's place in permutation
abbrev pub transpose_index : List ℕ → (ℕ → ℕ) → ℕ → ℕ
transpose_index permutation i d = i (place_in permutation d)

abbrev pub transposed : List ℕ → List ℕ → List ℕ → List ℕ → List ℕ
transposed permutation from to x = gathered (transpose_index permutation) from to x 0

-- slice: "operand_index = start_indices + result_index * strides"
abbrev pub slice_index : List ℕ → List ℕ → (ℕ → ℕ) → ℕ → ℕ
slice_index start strides i d = at start d + i d * at strides d

abbrev pub sliced : List ℕ → List ℕ → List ℕ → List ℕ → List ℕ → List ℕ
sliced start strides from to x = gathered (slice_index start strides) from to x 0

-- reverse: "operand_index[d] = dim(result, d) - result_index[d] - 1 if d in dimensions", "result_index[d] otherwise"; by C1 s is both shapes
abbrev pub reverse_coord : List ℕ → ℕ → ℕ → ℕ → ℕ
reverse_coord dimensions n x d = pick (ltb (place_in dimensions d) (length dimensions)) (n - x - 1) x

abbrev pub reverse_index : List ℕ → List ℕ → (ℕ → ℕ) → ℕ → ℕ
reverse_index dimensions s i d = reverse_coord dimensions (at s d) (i d) d

abbrev pub reversed : List ℕ → List ℕ → List ℕ → List ℕ
reversed dimensions s x = gathered (reverse_index dimensions s) s s x 0

-- pad: the operand_index for which "result_index = edge_padding_low + operand_index * (interior_padding + 1)", in a dimension of size n; n, which is no
-- index there, where there is none. Its argument is result_index - edge_padding_low.
abbrev pub pad_step : ℕ → ℕ → ℤ → ℕ
pad_step interior n (pos t) = pick (eqb (t % (interior + 1)) 0) (t / (interior + 1)) n
pad_step interior n (negsuc t) = n

abbrev pub pad_coord : ℤ → ℕ → ℕ → ℕ → ℕ
pad_coord low interior n x = pad_step interior n (pos x -ℤ low)

abbrev pub pad_index : List ℤ → List ℕ → List ℕ → (ℕ → ℕ) → ℕ → ℕ
pad_index low interior from i d = pad_coord (get_or low d (pos 0)) (at interior d) (at from d) (i d)

-- "padding_value otherwise": z
abbrev pub padded : List ℤ → List ℕ → List ℕ → List ℕ → List ℕ → ℕ → List ℕ
padded low interior from to x z = gathered (pad_index low interior from) from to x z

-- clamp(0, start, limit)
abbrev pub clamp_start : ℤ → ℕ → ℕ
clamp_start (pos v) limit = min v limit
clamp_start (negsuc v) limit = 0

-- dynamic_slice: "each start, read in its own type" (01)
abbrev pub start_at : ElementType → List ℕ → ℕ → ℤ
start_at t starts d = value_of t (at starts d)

-- "adjusted_start_indices = clamp(0, start_indices, shape(operand) - slice_sizes)"; by C5 slice_sizes is the result's shape
abbrev pub adjusted_start : ElementType → List ℕ → List ℕ → List ℕ → ℕ → ℕ
adjusted_start t starts from to d = clamp_start (start_at t starts d) (at from d - at to d)

-- "operand_index = adjusted_start_indices + result_index"
abbrev pub dynamic_index : ElementType → List ℕ → List ℕ → List ℕ → (ℕ → ℕ) → ℕ → ℕ
dynamic_index t starts from to i d = adjusted_start t starts from to d + i d

abbrev pub dynamic_sliced : ElementType → List ℕ → List ℕ → List ℕ → List ℕ → List ℕ
dynamic_sliced t starts from to x = gathered (dynamic_index t starts from to) from to x 0

-- iota: "output[output_index] = constant(output_index[iota_dimension], element_type(output))", taken into the type's range (01, "Element by element")
abbrev pub counted : ElementType → ℕ → List ℕ → List ℕ
counted t dimension to = tabulate to (λ i. wrap_to t (pos (at i dimension)))
