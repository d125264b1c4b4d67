-- Shapes, and each op that moves or reduces elements, at shapes and attributes where its formula differs from its neighbours (01, "Shape by shape" and
-- "Reductions"). The operands hold 0, 1, 2, .., so that a result shows the positions that its elements come from.
-- Assumes nothing.
use Rattle.std.specs.Prelude.{List, [], ◌∷◌, ℕ, ℤ, pos, negsuc, nat_abs}
use Rattle.std.specs.Int.Signed.{lt_z}
use Rattle.lists.specs.Lists.{tab, concat}
use Rattle.element.specs.declared.ElementType.{ElementType}
use Rattle.element.specs.declared.ElementType.TheVariants.{I8, I32, U8, U64}
use Rattle.scalar.specs.declared.Body.TheVariants as body
use Rattle.shape.specs.Index.{size, volume, unravel, ravel, is_within, element_at, indices}
use Rattle.shape.specs.Whole.{pattern_of, number_of, ceil_div}
use Rattle.maps.specs.Formulas.{reshaped, broadcasted, transposed, sliced, reversed, padded, dynamic_sliced, counted}
use Rattle.maps.specs.Concatenation.{concatenated, sum_along}
use Rattle.reduction.specs.Rows.{slice_shape, kept_shape, reduced}
use Rattle.value_pins.specs.ValuePin.{ValuePin, value_pin, neg, bits, Pinned}

-- the tensor of the shape that holds 0, 1, 2, ..
abbrev positions : List ℕ → List ℕ
positions s = tab (size s) (λ k. k)

abbrev transpose_pin : List ℕ → List ℕ → List ℕ → List ℕ → ValuePin
transpose_pin permutation from to is = value_pin (transposed permutation from to (positions from)) is

abbrev slice_pin : List ℕ → List ℕ → List ℕ → List ℕ → List ℕ → ValuePin
slice_pin start strides from to is = value_pin (sliced start strides from to (positions from)) is

-- padded with 99
abbrev pad_pin : List ℤ → List ℕ → List ℕ → List ℕ → List ℕ → ValuePin
pad_pin low interior from to is = value_pin (padded low interior from to (positions from) 99) is

abbrev dynamic_slice_pin : ElementType → List ℕ → List ℕ → List ℕ → List ℕ → ValuePin
dynamic_slice_pin t starts from to is = value_pin (dynamic_sliced t starts from to (positions from)) is

abbrev broadcast_pin : List ℕ → List ℕ → List ℕ → List ℕ → ValuePin
broadcast_pin dimensions from to is = value_pin (broadcasted dimensions from to (positions from)) is

abbrev reverse_pin : List ℕ → List ℕ → List ℕ → ValuePin
reverse_pin dimensions s is = value_pin (reversed dimensions s (positions s)) is

-- reduced by add, from the start value 100
abbrev reduce_pin : List ℕ → List ℕ → List ℕ → List ℕ → ValuePin
reduce_pin dimensions from to is = value_pin (reduced body.Add I32 dimensions from to 100 (positions from)) is

abbrev pub shape_pins : List ValuePin
shape_pins =
    -- "Rank 0 has one element; a dimension of size 0 gives none"
    value_pin (size [] ∷ size (3 ∷ []) ∷ size (2 ∷ 3 ∷ []) ∷ size (2 ∷ 0 ∷ 3 ∷ []) ∷ []) (1 ∷ 3 ∷ 6 ∷ 0 ∷ [])
    -- Sizes, 2: "the product of a shape's dimensions with every 0 counted as 1"
    ∷ value_pin (volume [] ∷ volume (2 ∷ 0 ∷ 3 ∷ []) ∷ volume (0 ∷ []) ∷ volume (4 ∷ 5 ∷ []) ∷ []) (1 ∷ 6 ∷ 1 ∷ 20 ∷ [])
    -- "canonical order, last dimension fastest"
    ∷ value_pin (concat (indices (2 ∷ 3 ∷ []))) (0 ∷ 0 ∷ 0 ∷ 1 ∷ 0 ∷ 2 ∷ 1 ∷ 0 ∷ 1 ∷ 1 ∷ 1 ∷ 2 ∷ [])
    ∷ value_pin (unravel (2 ∷ 3 ∷ 4 ∷ []) 17) (1 ∷ 1 ∷ 1 ∷ [])
    ∷ value_pin (unravel (2 ∷ 3 ∷ 4 ∷ []) 14) (1 ∷ 0 ∷ 2 ∷ [])
    ∷ value_pin (ravel (2 ∷ 3 ∷ 4 ∷ []) (1 ∷ 2 ∷ 0 ∷ []) ∷ ravel (2 ∷ 3 ∷ 4 ∷ []) (0 ∷ 1 ∷ 3 ∷ []) ∷ []) (20 ∷ 7 ∷ [])
    -- an index of the shape, and none in each dimension
    ∷ value_pin (bits (is_within (2 ∷ 3 ∷ []) (1 ∷ 2 ∷ []) ∷ is_within (2 ∷ 3 ∷ []) (2 ∷ 0 ∷ []) ∷ is_within (2 ∷ 3 ∷ []) (0 ∷ 3 ∷ []) ∷ [])) (1 ∷ 0 ∷ 0 ∷ [])
    ∷ value_pin (element_at (positions (2 ∷ 3 ∷ [])) (2 ∷ 3 ∷ []) (1 ∷ 0 ∷ []) 9 ∷ element_at (positions (2 ∷ 3 ∷ [])) (2 ∷ 3 ∷ []) (0 ∷ 3 ∷ []) 9 ∷ []) (3 ∷ 9 ∷ [])
    -- attribute numbers and their patterns of 64 bits; the magnitude of a number, and 1 if it is below 0
    ∷ value_pin (pattern_of (pos 7) ∷ pattern_of (negsuc 0) ∷ pattern_of (negsuc 9223372036854775807) ∷ []) (7 ∷ 18446744073709551615 ∷ 9223372036854775808 ∷ [])
    ∷ value_pin (nat_abs (number_of 7) ∷ nat_abs (number_of 18446744073709551615) ∷ nat_abs (number_of 9223372036854775807) ∷ nat_abs (number_of 9223372036854775808) ∷ []) (7 ∷ 1 ∷ 9223372036854775807 ∷ 9223372036854775808 ∷ [])
    ∷ value_pin (bits (lt_z (number_of 7) (pos 0) ∷ lt_z (number_of 18446744073709551615) (pos 0) ∷ lt_z (number_of 9223372036854775807) (pos 0) ∷ lt_z (number_of 9223372036854775808) (pos 0) ∷ [])) (0 ∷ 1 ∷ 0 ∷ 1 ∷ [])
    -- "the ceiling of (limit - start) / stride"
    ∷ value_pin (ceil_div 4 2 ∷ ceil_div 5 2 ∷ ceil_div 0 3 ∷ ceil_div 1 3 ∷ []) (2 ∷ 3 ∷ 0 ∷ 1 ∷ [])
    -- reshape keeps the order
    ∷ value_pin (reshaped (2 ∷ 3 ∷ []) (3 ∷ 1 ∷ 2 ∷ []) (positions (2 ∷ 3 ∷ []))) (0 ∷ 1 ∷ 2 ∷ 3 ∷ 4 ∷ 5 ∷ [])
    -- "transpose: result_index[d] = operand_index[permutation[d]]"
    ∷ transpose_pin (2 ∷ 0 ∷ 1 ∷ []) (2 ∷ 3 ∷ 4 ∷ []) (4 ∷ 2 ∷ 3 ∷ []) (0 ∷ 4 ∷ 8 ∷ 12 ∷ 16 ∷ 20 ∷ 1 ∷ 5 ∷ 9 ∷ 13 ∷ 17 ∷ 21 ∷ 2 ∷ 6 ∷ 10 ∷ 14 ∷ 18 ∷ 22 ∷ 3 ∷ 7 ∷ 11 ∷ 15 ∷ 19 ∷ 23 ∷ [])
    ∷ transpose_pin (1 ∷ 2 ∷ 0 ∷ []) (2 ∷ 2 ∷ 3 ∷ []) (2 ∷ 3 ∷ 2 ∷ []) (0 ∷ 6 ∷ 1 ∷ 7 ∷ 2 ∷ 8 ∷ 3 ∷ 9 ∷ 4 ∷ 10 ∷ 5 ∷ 11 ∷ [])
    ∷ transpose_pin (1 ∷ 0 ∷ []) (2 ∷ 3 ∷ []) (3 ∷ 2 ∷ []) (0 ∷ 3 ∷ 1 ∷ 4 ∷ 2 ∷ 5 ∷ [])
    ∷ transpose_pin (0 ∷ 2 ∷ 1 ∷ []) (2 ∷ 2 ∷ 2 ∷ []) (2 ∷ 2 ∷ 2 ∷ []) (0 ∷ 2 ∷ 1 ∷ 3 ∷ 4 ∷ 6 ∷ 5 ∷ 7 ∷ [])
    ∷ transpose_pin [] [] [] (0 ∷ [])
    -- slice: "operand_index = start_indices + result_index * strides"
    ∷ slice_pin (1 ∷ 0 ∷ []) (2 ∷ 3 ∷ []) (4 ∷ 5 ∷ []) (2 ∷ 2 ∷ []) (5 ∷ 8 ∷ 15 ∷ 18 ∷ [])
    ∷ slice_pin (0 ∷ 2 ∷ []) (3 ∷ 1 ∷ []) (4 ∷ 5 ∷ []) (2 ∷ 3 ∷ []) (2 ∷ 3 ∷ 4 ∷ 17 ∷ 18 ∷ 19 ∷ [])
    ∷ slice_pin (3 ∷ []) (4 ∷ []) (9 ∷ []) (2 ∷ []) (3 ∷ 7 ∷ [])
    -- pad: "low and high may be negative and crop", interior 1 in dimension 0: "result_index = edge_padding_low + operand_index * (interior_padding + 1)"
    ∷ pad_pin (negsuc 0 ∷ pos 1 ∷ []) (1 ∷ 0 ∷ []) (2 ∷ 3 ∷ []) (3 ∷ 3 ∷ []) (99 ∷ 99 ∷ 99 ∷ 99 ∷ 3 ∷ 4 ∷ 99 ∷ 99 ∷ 99 ∷ [])
    ∷ pad_pin (pos 0 ∷ negsuc 1 ∷ []) (0 ∷ 2 ∷ []) (2 ∷ 2 ∷ []) (2 ∷ 4 ∷ []) (99 ∷ 1 ∷ 99 ∷ 99 ∷ 99 ∷ 3 ∷ 99 ∷ 99 ∷ [])
    ∷ pad_pin (pos 1 ∷ []) (2 ∷ []) (2 ∷ []) (6 ∷ []) (99 ∷ 0 ∷ 99 ∷ 99 ∷ 1 ∷ 99 ∷ [])
    ∷ pad_pin (negsuc 2 ∷ []) (1 ∷ []) (3 ∷ []) (4 ∷ []) (99 ∷ 2 ∷ 99 ∷ 99 ∷ [])
    -- a dimension of size 0 has padding only
    ∷ pad_pin (pos 2 ∷ []) (1 ∷ []) (0 ∷ []) (2 ∷ []) (99 ∷ 99 ∷ [])
    -- "dynamic_slice: each start, read in its own type, is clamped to 0 .. size - slice size": below, above, and neither
    ∷ dynamic_slice_pin I8 (neg 1 ∷ 5 ∷ []) (3 ∷ 4 ∷ []) (2 ∷ 2 ∷ []) (2 ∷ 3 ∷ 6 ∷ 7 ∷ [])
    ∷ dynamic_slice_pin I8 (1 ∷ neg 128 ∷ []) (3 ∷ 4 ∷ []) (2 ∷ 2 ∷ []) (4 ∷ 5 ∷ 8 ∷ 9 ∷ [])
    ∷ dynamic_slice_pin I8 (127 ∷ 1 ∷ []) (3 ∷ 4 ∷ []) (2 ∷ 2 ∷ []) (5 ∷ 6 ∷ 9 ∷ 10 ∷ [])
    ∷ dynamic_slice_pin U8 (255 ∷ 1 ∷ []) (3 ∷ 4 ∷ []) (2 ∷ 2 ∷ []) (5 ∷ 6 ∷ 9 ∷ 10 ∷ [])
    ∷ dynamic_slice_pin U8 (0 ∷ 200 ∷ []) (3 ∷ 4 ∷ []) (2 ∷ 2 ∷ []) (2 ∷ 3 ∷ 6 ∷ 7 ∷ [])
    ∷ dynamic_slice_pin U64 (18446744073709551615 ∷ 0 ∷ []) (3 ∷ 4 ∷ []) (2 ∷ 2 ∷ []) (4 ∷ 5 ∷ 8 ∷ 9 ∷ [])
    ∷ dynamic_slice_pin U64 (0 ∷ 9223372036854775808 ∷ []) (3 ∷ 4 ∷ []) (2 ∷ 2 ∷ []) (2 ∷ 3 ∷ 6 ∷ 7 ∷ [])
    ∷ dynamic_slice_pin I8 (1 ∷ 2 ∷ []) (3 ∷ 4 ∷ []) (2 ∷ 2 ∷ []) (6 ∷ 7 ∷ 10 ∷ 11 ∷ [])
    -- concatenate along dimension 1, and along dimension 0
    ∷ value_pin (concatenated 1 ((2 ∷ 1 ∷ 2 ∷ []) ∷ (2 ∷ 2 ∷ 2 ∷ []) ∷ []) ((0 ∷ 1 ∷ 2 ∷ 3 ∷ []) ∷ (10 ∷ 11 ∷ 12 ∷ 13 ∷ 14 ∷ 15 ∷ 16 ∷ 17 ∷ []) ∷ []) (2 ∷ 3 ∷ 2 ∷ [])) (0 ∷ 1 ∷ 10 ∷ 11 ∷ 12 ∷ 13 ∷ 2 ∷ 3 ∷ 14 ∷ 15 ∷ 16 ∷ 17 ∷ [])
    ∷ value_pin (concatenated 0 ((1 ∷ 2 ∷ []) ∷ (0 ∷ 2 ∷ []) ∷ (2 ∷ 2 ∷ []) ∷ []) ((0 ∷ 1 ∷ []) ∷ [] ∷ (10 ∷ 11 ∷ 12 ∷ 13 ∷ []) ∷ []) (3 ∷ 2 ∷ [])) (0 ∷ 1 ∷ 10 ∷ 11 ∷ 12 ∷ 13 ∷ [])
    ∷ value_pin (sum_along 1 ((2 ∷ 1 ∷ 2 ∷ []) ∷ (2 ∷ 2 ∷ 2 ∷ []) ∷ []) ∷ sum_along 0 ((1 ∷ 2 ∷ []) ∷ (0 ∷ 2 ∷ []) ∷ (2 ∷ 2 ∷ []) ∷ []) ∷ []) (3 ∷ 3 ∷ [])
    -- broadcast_in_dim: a dimension of size 1 is repeated, another goes to its place in broadcast_dimensions
    ∷ broadcast_pin (0 ∷ 2 ∷ []) (1 ∷ 3 ∷ []) (2 ∷ 2 ∷ 3 ∷ []) (0 ∷ 1 ∷ 2 ∷ 0 ∷ 1 ∷ 2 ∷ 0 ∷ 1 ∷ 2 ∷ 0 ∷ 1 ∷ 2 ∷ [])
    ∷ broadcast_pin (1 ∷ 0 ∷ []) (2 ∷ 3 ∷ []) (3 ∷ 2 ∷ []) (0 ∷ 3 ∷ 1 ∷ 4 ∷ 2 ∷ 5 ∷ [])
    ∷ broadcast_pin (1 ∷ []) (2 ∷ []) (3 ∷ 2 ∷ []) (0 ∷ 1 ∷ 0 ∷ 1 ∷ 0 ∷ 1 ∷ [])
    ∷ broadcast_pin (0 ∷ []) (3 ∷ []) (3 ∷ 2 ∷ []) (0 ∷ 0 ∷ 1 ∷ 1 ∷ 2 ∷ 2 ∷ [])
    ∷ broadcast_pin [] [] (2 ∷ 2 ∷ []) (0 ∷ 0 ∷ 0 ∷ 0 ∷ [])
    -- reverse of one dimension, of the other, of both, of none
    ∷ reverse_pin (0 ∷ []) (2 ∷ 3 ∷ []) (3 ∷ 4 ∷ 5 ∷ 0 ∷ 1 ∷ 2 ∷ [])
    ∷ reverse_pin (1 ∷ []) (2 ∷ 3 ∷ []) (2 ∷ 1 ∷ 0 ∷ 5 ∷ 4 ∷ 3 ∷ [])
    ∷ reverse_pin (1 ∷ 0 ∷ []) (2 ∷ 3 ∷ []) (5 ∷ 4 ∷ 3 ∷ 2 ∷ 1 ∷ 0 ∷ [])
    ∷ reverse_pin [] (2 ∷ 3 ∷ []) (0 ∷ 1 ∷ 2 ∷ 3 ∷ 4 ∷ 5 ∷ [])
    ∷ reverse_pin (1 ∷ []) (2 ∷ 2 ∷ 2 ∷ []) (2 ∷ 3 ∷ 0 ∷ 1 ∷ 6 ∷ 7 ∷ 4 ∷ 5 ∷ [])
    -- iota: the coordinate along iota_dimension
    ∷ value_pin (counted I8 1 (2 ∷ 3 ∷ [])) (0 ∷ 1 ∷ 2 ∷ 0 ∷ 1 ∷ 2 ∷ [])
    ∷ value_pin (counted I8 0 (2 ∷ 3 ∷ [])) (0 ∷ 0 ∷ 0 ∷ 1 ∷ 1 ∷ 1 ∷ [])
    ∷ value_pin (counted U8 1 (2 ∷ 2 ∷ 2 ∷ [])) (0 ∷ 0 ∷ 1 ∷ 1 ∷ 0 ∷ 0 ∷ 1 ∷ 1 ∷ [])
    -- C7: the shape of the result has the dimensions that are not reduced
    ∷ value_pin (kept_shape (1 ∷ []) (2 ∷ 3 ∷ 4 ∷ [])) (2 ∷ 4 ∷ [])
    ∷ value_pin (slice_shape (2 ∷ 0 ∷ []) (2 ∷ 3 ∷ 4 ∷ [])) (2 ∷ 4 ∷ [])
    -- "Evaluation folds from the start value, once": the middle, the first, the last dimension, two in either order, all, none, and over no elements
    ∷ reduce_pin (1 ∷ []) (2 ∷ 3 ∷ 2 ∷ []) (2 ∷ 2 ∷ []) (106 ∷ 109 ∷ 124 ∷ 127 ∷ [])
    ∷ reduce_pin (0 ∷ []) (2 ∷ 3 ∷ 2 ∷ []) (3 ∷ 2 ∷ []) (106 ∷ 108 ∷ 110 ∷ 112 ∷ 114 ∷ 116 ∷ [])
    ∷ reduce_pin (2 ∷ []) (2 ∷ 3 ∷ 2 ∷ []) (2 ∷ 3 ∷ []) (101 ∷ 105 ∷ 109 ∷ 113 ∷ 117 ∷ 121 ∷ [])
    ∷ reduce_pin (0 ∷ 2 ∷ []) (2 ∷ 3 ∷ 2 ∷ []) (3 ∷ []) (114 ∷ 122 ∷ 130 ∷ [])
    ∷ reduce_pin (2 ∷ 0 ∷ []) (2 ∷ 3 ∷ 2 ∷ []) (3 ∷ []) (114 ∷ 122 ∷ 130 ∷ [])
    ∷ reduce_pin (0 ∷ 1 ∷ 2 ∷ []) (2 ∷ 3 ∷ 2 ∷ []) [] (166 ∷ [])
    ∷ reduce_pin [] (2 ∷ []) (2 ∷ []) (100 ∷ 101 ∷ [])
    ∷ reduce_pin (0 ∷ []) (0 ∷ 2 ∷ []) (2 ∷ []) (100 ∷ 100 ∷ [])
    ∷ reduce_pin (1 ∷ []) (2 ∷ 0 ∷ []) (2 ∷ []) (100 ∷ 100 ∷ [])
    -- each body on 1, 2, 3 from 100
    ∷ value_pin (reduced body.Add I32 (0 ∷ []) (3 ∷ []) [] 100 (1 ∷ 2 ∷ 3 ∷ [])) (106 ∷ [])
    ∷ value_pin (reduced body.Multiply I32 (0 ∷ []) (3 ∷ []) [] 100 (1 ∷ 2 ∷ 3 ∷ [])) (600 ∷ [])
    ∷ value_pin (reduced body.Maximum I32 (0 ∷ []) (3 ∷ []) [] 100 (1 ∷ 2 ∷ 3 ∷ [])) (100 ∷ [])
    ∷ value_pin (reduced body.Minimum I32 (0 ∷ []) (3 ∷ []) [] 100 (1 ∷ 2 ∷ 3 ∷ [])) (1 ∷ [])
    ∷ value_pin (reduced body.And I32 (0 ∷ []) (3 ∷ []) [] 100 (1 ∷ 2 ∷ 3 ∷ [])) (0 ∷ [])
    ∷ value_pin (reduced body.Or I32 (0 ∷ []) (3 ∷ []) [] 100 (1 ∷ 2 ∷ 3 ∷ [])) (103 ∷ [])
    ∷ value_pin (reduced body.Xor I32 (0 ∷ []) (3 ∷ []) [] 100 (1 ∷ 2 ∷ 3 ∷ [])) (100 ∷ [])
    ∷ []

abbrev pub ShapePinsHold : Type 0
ShapePinsHold = Pinned shape_pins
