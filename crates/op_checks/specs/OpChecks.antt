-- 000's Constraints, op by op: one line for each C number, in their order, so that the line's place in its list is its C number.
-- A constraint on quantized types has its line, which holds (01 leaves them out). Operands, attributes and results have 000's names; types and
-- attribute lists are those written.
-- Assumes nothing.
use Rattle.std.specs.Prelude.{List, [], ◌∷◌, Bool, ◌||◌, ℕ, ◌+◌, length, eqb, ℤ, pos}
use Rattle.lists.specs.Lists.{pick, tab}
use Rattle.element.specs.Types.{signed_of}
use Rattle.element.specs.declared.ElementType.{ElementType}
use Rattle.shape.specs.Index.{size}
use Rattle.shape.specs.Dims.{dims_of}
use Rattle.dimrules.specs.Whole.{eq_int}
use Rattle.dimrules.specs.Types.{same_element, type_at}
use Rattle.dimrules.specs.declared.TensorType.{TensorType}
use Rattle.optable.specs.Table.{choice_named, no_choice}
use Rattle.checks.specs.Check.{Term, is, equal, compare, fact, or_else, Check}
use Rattle.checks.specs.Formula.{shape, rank, ◌!◌, ◌‼◌, ◌⊕◌, ◌⊖◌, ◌⊗◌, less_one, ceil, Terms, terms, dims, many, int, nat, entries, ◌and◌, once, each, ◌[=]◌, ◌[<]◌, ◌[≤]◌, indexes, vacuous, whole, same_elements, same_types, exists, is_unique, is_permutation, axes, leaving}

-- the types of n operands, from operand k on
abbrev pub types_from : List TensorType → ℕ → ℕ → List TensorType
types_from types k n = tab n (λ j. type_at types (k + j))

-- ---- add, and, count_leading_zeros, divide, maximum, minimum, multiply, negate, not, or, popcnt, remainder, shift_left, shift_right_arithmetic,
-- shift_right_logical, sign, subtract, xor

-- type(operands[0]) = type(result) and type(operands[1]) = type(result) and ..
abbrev pub all_of_type : List TensorType → TensorType → Check
all_of_type [] result = vacuous
all_of_type (x ∷ xs) result = same_types x result and all_of_type xs result

unfoldable pub same_types_checks : List TensorType → TensorType → List Check
same_types_checks operands result =
    -- C1 of two operands: type(lhs) = type(rhs) = type(result); of one: type(operand) = type(result). Where 000 has baseline_type, it is the type of what
    -- isn't quantized; multiply and remainder, whose C1 names an `operand`, have lhs and rhs (D-56)
    all_of_type operands result
    -- add alone has more, C2 to C7: "If the operation uses quantized tensors"; they hold, and are left out of a list that add shares
    ∷ []

-- ---- abs
unfoldable pub abs_checks : TensorType → TensorType → List Check
abs_checks operand result =
    -- C1 shape(result) = shape(operand)
    (entries (shape result) [=] entries (shape operand))
    -- C2 baseline_element_type(result) is baseline_element_type(operand), as no operand is complex
    ∷ same_elements result operand
    ∷ []

-- ---- broadcast_in_dim
unfoldable pub broadcast_checks : TensorType → List ℤ → TensorType → List Check
broadcast_checks operand broadcast_dimensions result =
    -- C1 element_type(result) is given by: element_type(operand), if !is_per_axis_quantized(operand)
    same_elements operand result
    -- C2 size(broadcast_dimensions) = rank(operand)
    ∷ (nat (length broadcast_dimensions) [=] nat (rank operand))
    -- C3 0 <= broadcast_dimensions < rank(result)
    ∷ indexes broadcast_dimensions (rank result)
    -- C4 is_unique(broadcast_dimensions)
    ∷ is_unique broadcast_dimensions
    -- C5 For all d in axes(operand): dim(operand, d) = 1 or dim(operand, d) = dim(result, broadcast_dimensions[d])
    ∷ each (rank operand) (λ d. or_else (compare (shape operand ! d) equal (is (pos 1))) (compare (shape operand ! d) equal (shape result ‼ (broadcast_dimensions ! d))))
    -- C6 If is_per_axis_quantized(result), ..: quantized, holds
    ∷ vacuous
    ∷ []

-- ---- clamp
unfoldable pub clamp_checks : TensorType → TensorType → TensorType → TensorType → List Check
clamp_checks min operand max result =
    -- C1 rank(min) = 0 or shape(min) = shape(operand)
    once (or_else (compare (is (pos (rank min))) equal (is (pos 0))) (whole (entries (shape min) [=] entries (shape operand))))
    -- C2 rank(max) = 0 or shape(max) = shape(operand)
    ∷ once (or_else (compare (is (pos (rank max))) equal (is (pos 0))) (whole (entries (shape max) [=] entries (shape operand))))
    -- C3 baseline_element_type(min) = baseline_element_type(operand) = baseline_element_type(max)
    ∷ (same_elements min operand and same_elements operand max)
    -- C4 baseline_type(operand) = baseline_type(result)
    ∷ same_types operand result
    ∷ []

-- ---- compare

-- the choices SIGNED and UNSIGNED of the op table; where compare_type is absent, no choice
abbrev pub SIGNED : ℕ
SIGNED = choice_named "SIGNED"

abbrev pub UNSIGNED : ℕ
UNSIGNED = choice_named "UNSIGNED"

abbrev pub absent : ℕ
absent = no_choice

-- 01: "if present it is SIGNED for signed types and UNSIGNED for the others"
unfoldable pub compare_type_is : ℕ → ElementType → Bool
compare_type_is compare_type e = eqb compare_type absent || eqb compare_type (pick (signed_of e) SIGNED UNSIGNED)

unfoldable pub compare_checks : TensorType → TensorType → ℕ → TensorType → List Check
compare_checks lhs rhs compare_type result =
    -- C1 baseline_element_type(lhs) = baseline_element_type(rhs)
    same_elements lhs rhs
    -- C2 shape(lhs) = shape(rhs) = shape(result)
    ∷ ((entries (shape lhs) [=] entries (shape rhs)) and (entries (shape rhs) [=] entries (shape result)))
    -- C3 compare_type is SIGNED if is_signed_integer(element_type(lhs)), UNSIGNED if is_unsigned_integer(element_type(lhs)) or is_boolean(element_type(lhs))
    ∷ once (fact (compare_type_is compare_type lhs.element))
    ∷ []

-- ---- concatenate

-- a list with a number put in at a place
abbrev pub put_at : List ℤ → ℤ → Term → Terms
put_at l k z = terms (length l) (λ d. pick (eq_int (pos d) k) z (l ! d))

-- dim(inputs[0], k) + dim(inputs[1], k) + ..
abbrev pub sum_dims : List TensorType → ℤ → Term
sum_dims [] k = is (pos 0)
sum_dims (x ∷ xs) k = let rest = sum_dims xs k in (shape x ‼ is k) ⊕ rest

unfoldable pub concatenate_checks : List TensorType → ℤ → TensorType → List Check
concatenate_checks inputs dimension result =
    let first = type_at inputs 0 in
    -- C1 same(element_type(inputs...))
    each (length inputs) (λ j. fact (same_element first (type_at inputs j)))
    -- C2 same(shape(inputs...)) except for dim(inputs..., dimension), which must exist (D-58)
    ∷ each (length inputs) (λ j. whole (exists (shape (type_at inputs j) ‼ is dimension) and
    (many (put_at (shape first) dimension (is (pos 0))) [=] many (put_at (shape (type_at inputs j)) dimension (is (pos 0))))))
    -- C3 0 < size(inputs)
    ∷ (nat 0 [<] nat (length inputs))
    -- C4 0 <= dimension < rank(inputs[0])
    ∷ ((int (pos 0) [≤] int dimension) and (int dimension [<] nat (rank first)))
    -- C5 element_type(result) = element_type(inputs[0])
    ∷ same_elements first result
    -- C6 shape(result) = shape(inputs[0]) except for: dim(result, dimension) = dim(inputs[0], dimension) + ...
    ∷ (entries (shape result) [=] many (put_at (shape first) dimension (sum_dims inputs dimension)))
    ∷ []

-- ---- constant
unfoldable pub constant_checks : TensorType → TensorType → List Check
constant_checks value output =
    -- C1 type(value) = type(output)
    same_types value output
    ∷ []

-- ---- convert
unfoldable pub convert_checks : TensorType → TensorType → List Check
convert_checks operand result =
    -- C1 shape(operand) = shape(result)
    (entries (shape operand) [=] entries (shape result))
    ∷ []

-- ---- dynamic_slice
unfoldable pub dynamic_slice_checks : TensorType → List TensorType → List ℤ → TensorType → List Check
dynamic_slice_checks operand start_indices slice_sizes result =
    -- C1 element_type(operand) = element_type(result)
    same_elements operand result
    -- C2 size(start_indices) = size(slice_sizes) = rank(operand)
    ∷ ((nat (length start_indices) [=] nat (length slice_sizes)) and (nat (length slice_sizes) [=] nat (rank operand)))
    -- C3 same(type(start_indices...))
    ∷ each (length start_indices) (λ j. whole (same_types (type_at start_indices 0) (type_at start_indices j)))
    -- C4 0 <= slice_sizes <= shape(operand)
    ∷ ((int (pos 0) [≤] entries slice_sizes) and (entries slice_sizes [≤] entries (shape operand)))
    -- C5 shape(result) = slice_sizes
    ∷ (entries (shape result) [=] entries slice_sizes)
    ∷ []

-- ---- iota
unfoldable pub iota_checks : ℤ → TensorType → List Check
iota_checks iota_dimension output =
    -- C1 0 <= iota_dimension < rank(output)
    ((int (pos 0) [≤] int iota_dimension) and (int iota_dimension [<] nat (rank output)))
    ∷ []

-- ---- pad
unfoldable pub pad_checks : TensorType → TensorType → List ℤ → List ℤ → List ℤ → TensorType → List Check
pad_checks operand padding_value low high interior result =
    -- C1 element_type(operand) = element_type(padding_value) = element_type(result)
    (same_elements operand padding_value and same_elements padding_value result)
    -- C2 size(edge_padding_low) = size(edge_padding_high) = size(interior_padding) = rank(operand)
    ∷ ((nat (length low) [=] nat (length high)) and (nat (length high) [=] nat (length interior)) and (nat (length interior) [=] nat (rank operand)))
    -- C3 0 <= interior_padding
    ∷ (int (pos 0) [≤] entries interior)
    -- C4 shape(result) = shape(operand) + edge_padding_low + max(shape(operand) - 1, 0) * interior_padding + edge_padding_high
    ∷ (entries (shape result) [=] many (terms (rank operand) (λ d. shape operand ! d ⊕ low ! d ⊕ less_one (shape operand ! d) ⊗ interior ! d ⊕ high ! d)))
    ∷ []

-- ---- reduce, of one input, its init_value, and a body whose two arguments have the types left and right (01, "Reductions")
unfoldable pub reduce_checks : TensorType → TensorType → TensorType → TensorType → List ℤ → TensorType → List Check
reduce_checks input init_value left right dimensions result =
    -- C1 same(shape(inputs...)): of one input, holds
    vacuous
    -- C2 element_type(inputs...) = element_type(init_values...)
    ∷ same_elements input init_value
    -- C3 0 < size(inputs) = size(init_values) = size(results) = N: N is 1, any other number of operands or results is refusal 7 (D-55)
    ∷ vacuous
    -- C4 0 <= dimensions < rank(inputs[0])
    ∷ indexes dimensions (rank input)
    -- C5 is_unique(dimensions)
    ∷ is_unique dimensions
    -- C6 body has type (tensor<E0>, tensor<E0>) -> (tensor<E0>), where E0 is element_type(inputs[0]): "input, start, body and result share one element
    -- type" (01); its result is of its arguments' type by its form
    ∷ (same_elements input left and (nat (rank left) [=] nat 0) and same_elements input right and (nat (rank right) [=] nat 0))
    -- C7 shape(results...) = shape(inputs...) except that the dimension sizes of inputs... corresponding to dimensions are not included
    ∷ (entries (shape result) [=] many (dims input (leaving (axes (rank input)) dimensions)))
    -- C8 element_type(results[i]) = Ei for all i in [0,N)
    ∷ same_elements input result
    ∷ []

-- ---- reshape
unfoldable pub reshape_checks : TensorType → TensorType → List Check
reshape_checks operand result =
    -- C1 element_type(result) is given by: element_type(operand), if !is_per_axis_quantized(operand)
    same_elements operand result
    -- C2 size(operand) = size(result)
    ∷ (nat (size (dims_of operand.shape)) [=] nat (size (dims_of result.shape)))
    -- C3 If is_per_axis_quantized(operand), ..: quantized, holds
    ∷ vacuous
    ∷ []

-- ---- reverse
unfoldable pub reverse_checks : TensorType → List ℤ → TensorType → List Check
reverse_checks operand dimensions result =
    -- C1 type(operand) = type(result)
    same_types operand result
    -- C2 is_unique(dimensions)
    ∷ is_unique dimensions
    -- C3 0 <= dimensions < rank(result)
    ∷ indexes dimensions (rank result)
    ∷ []

-- ---- select
unfoldable pub select_checks : TensorType → TensorType → TensorType → TensorType → List Check
select_checks pred on_true on_false result =
    -- C1 rank(pred) = 0 or shape(pred) = shape(on_true)
    once (or_else (compare (is (pos (rank pred))) equal (is (pos 0))) (whole (entries (shape pred) [=] entries (shape on_true))))
    -- C2 baseline_type(on_true) = baseline_type(on_false) = baseline_type(result)
    ∷ (same_types on_true on_false and same_types on_false result)
    ∷ []

-- ---- slice
unfoldable pub slice_checks : TensorType → List ℤ → List ℤ → List ℤ → TensorType → List Check
slice_checks operand start limit strides result =
    -- C1 element_type(operand) = element_type(result)
    same_elements operand result
    -- C2 size(start_indices) = size(limit_indices) = size(strides) = rank(operand)
    ∷ ((nat (length start) [=] nat (length limit)) and (nat (length limit) [=] nat (length strides)) and (nat (length strides) [=] nat (rank operand)))
    -- C3 0 <= start_indices <= limit_indices <= shape(operand)
    ∷ ((int (pos 0) [≤] entries start) and (entries start [≤] entries limit) and (entries limit [≤] entries (shape operand)))
    -- C4 0 < strides
    ∷ (int (pos 0) [<] entries strides)
    -- C5 shape(result) = ceil((limit_indices - start_indices) / strides)
    ∷ (entries (shape result) [=] many (terms (rank operand) (λ d. ceil (limit ! d ⊖ start ! d) (strides ! d))))
    ∷ []

-- ---- transpose
unfoldable pub transpose_checks : TensorType → List ℤ → TensorType → List Check
transpose_checks operand permutation result =
    -- C1 element_type(result) is given by: element_type(operand), if !is_per_axis_quantized(operand)
    same_elements operand result
    -- C2 permutation is a permutation of range(rank(operand))
    ∷ is_permutation permutation (rank operand)
    -- C3 shape(result) = dim(operand, permutation...)
    ∷ (entries (shape result) [=] many (dims operand permutation))
    -- C4 If is_per_axis_quantized(result), ..: quantized, holds
    ∷ vacuous
    ∷ []
