-- What the verifier tests of an op, class by class of the op table, in the order of the C numbers. x, y are operands, r is the result, an attribute has
-- its name.
-- Assumes nothing.
use mathlib.Core.List.{List, [], ◌∷◌}
use mathlib.Core.Bool.{Bool, true, ◌&&◌, ◌||◌}
use Prim.Native.Nat.{ℕ, ◌-◌}
use lib.Dec.{ltb, eqb}
use Rattle.shape.specs.Index.{size}
use Rattle.shape.specs.Dims.{dims_of}
use Rattle.dimrules.specs.Count.{everywhere}
use Rattle.dimrules.specs.Whole.{below}
use Rattle.dimrules.specs.Dims.{dim, dim_test, kept_below}
use Rattle.dimrules.specs.Types.{type_at, same_element, same_shape, same_type, same_but_one, all_types, sum_of_dims}
use Rattle.dimrules.specs.declared.TensorType.{TensorType}
use Rattle.dimrules.specs.declared.Numbers.{Numbers}
use Rattle.dimrules.specs.declared.DimTest.TheVariants.{InOrder, Positive, Ceiling, NonNegative, Padded, Below, Unique, Moved, Stretched, SizeIs, Kept}
use Rattle.dimrules.specs.declared.TypeTest.TheVariants.{SameElement, SameType, SameButOne}
use Rattle.op_checks.specs.OpChecks.{compare_type_is}
use Rattle.rule_laws.specs.Broken.{sides_of}

-- add, and, count_leading_zeros, divide, maximum, minimum, multiply, negate, not, or, popcnt, remainder, shifts, sign, subtract, xor:
-- C1 type(operands) = type(result) (OP-70: so too where 000 names an `operand` that the op doesn't have)
unfoldable pub same_types_tests : List TensorType → ℕ → TensorType → List Bool
same_types_tests types arity r = all_types SameType 0 r types 0 arity ∷ []

-- C1 shape(result) = shape(operand); C2 element_type(result) = element_type(operand)
unfoldable pub abs_tests : TensorType → TensorType → List Bool
abs_tests x r = same_shape r x ∷ same_element r x ∷ []

-- C1 type(value) = type(output)
unfoldable pub constant_tests : TensorType → TensorType → List Bool
constant_tests value r = same_type value r ∷ []

-- C1 shape(operand) = shape(result)
unfoldable pub convert_tests : TensorType → TensorType → List Bool
convert_tests x r = same_shape x r ∷ []

-- C1 0 <= iota_dimension < rank(output)
unfoldable pub iota_tests : ℕ → TensorType → List Bool
iota_tests iota_dimension r = below iota_dimension r.shape.rank ∷ []

-- C1 element_type(result) = element_type(operand); C2 size(operand) = size(result)
unfoldable pub reshape_tests : TensorType → TensorType → List Bool
reshape_tests x r = same_element x r ∷ eqb (size (dims_of x.shape)) (size (dims_of r.shape)) ∷ []

-- C1 element_type(lhs) = element_type(rhs); C2 shape(lhs) = shape(rhs) = shape(result); C3 compare_type by element_type(lhs)
unfoldable pub compare_tests : TensorType → TensorType → ℕ → TensorType → List Bool
compare_tests x y compare_type r =
    same_element x y ∷ (same_shape x y && same_shape x r) ∷ compare_type_is compare_type x.element ∷ []

-- C1 rank(pred) = 0 or shape(pred) = shape(on_true); C2 type(on_true) = type(on_false) = type(result)
unfoldable pub select_tests : TensorType → TensorType → TensorType → TensorType → List Bool
select_tests pred on_true on_false r =
    (eqb pred.shape.rank 0 || same_shape pred on_true) ∷ (same_type on_true on_false && same_type on_true r) ∷ []

-- C1, C2 rank(min) = 0 or shape(min) = shape(operand), and so max; C3 one element type; C4 type(operand) = type(result)
unfoldable pub clamp_tests : TensorType → TensorType → TensorType → TensorType → List Bool
clamp_tests min x max r =
    (eqb min.shape.rank 0 || same_shape min x)
    ∷ (eqb max.shape.rank 0 || same_shape max x)
    ∷ (same_element min x && same_element x max)
    ∷ same_type x r
    ∷ []

-- C1 type(operand) = type(result); C2 is_unique(dimensions); C3 0 <= dimensions < rank(result)
unfoldable pub reverse_tests : TensorType → Numbers → TensorType → List Bool
reverse_tests x dimensions r =
    let s = sides_of x r r.shape.rank dimensions dimensions dimensions in
    same_type x r ∷ everywhere dimensions.count (dim_test Unique s) ∷ everywhere dimensions.count (dim_test Below s) ∷ []

-- C1 element_type(result) = element_type(operand); C2 permutation is a permutation of range(rank(operand)); C3 shape(result) = dim(operand, permutation...)
unfoldable pub transpose_tests : TensorType → Numbers → TensorType → List Bool
transpose_tests x permutation r =
    let s = sides_of x r x.shape.rank permutation permutation permutation in
    same_element x r
    ∷ (eqb permutation.count x.shape.rank && everywhere x.shape.rank (dim_test Below s) && everywhere x.shape.rank (dim_test Unique s))
    ∷ (eqb r.shape.rank x.shape.rank && everywhere x.shape.rank (dim_test Moved s))
    ∷ []

-- C1 element_type(result) = element_type(operand); C2 size(broadcast_dimensions) = rank(operand); C3 0 <= broadcast_dimensions < rank(result);
-- C4 is_unique(broadcast_dimensions); C5 for all d, dim(operand, d) = 1 or dim(operand, d) = dim(result, broadcast_dimensions[d])
unfoldable pub broadcast_tests : TensorType → Numbers → TensorType → List Bool
broadcast_tests x broadcast_dimensions r =
    let s = sides_of x r r.shape.rank broadcast_dimensions broadcast_dimensions broadcast_dimensions in
    same_element x r
    ∷ eqb broadcast_dimensions.count x.shape.rank
    ∷ everywhere broadcast_dimensions.count (dim_test Below s)
    ∷ everywhere broadcast_dimensions.count (dim_test Unique s)
    ∷ everywhere x.shape.rank (dim_test Stretched s)
    ∷ []

-- C1 element_type(operand) = element_type(result); C2 size(start_indices) = size(limit_indices) = size(strides) = rank(operand);
-- C3 0 <= start_indices <= limit_indices <= shape(operand); C4 0 < strides; C5 shape(result) = ceil((limit_indices - start_indices) / strides)
unfoldable pub slice_tests : TensorType → Numbers → Numbers → Numbers → TensorType → List Bool
slice_tests x start limit strides r =
    let s = sides_of x r 0 start limit strides in
    same_element x r
    ∷ (eqb start.count x.shape.rank && eqb limit.count x.shape.rank && eqb strides.count x.shape.rank)
    ∷ everywhere x.shape.rank (dim_test InOrder s)
    ∷ everywhere x.shape.rank (dim_test Positive s)
    ∷ (eqb r.shape.rank x.shape.rank && everywhere x.shape.rank (dim_test Ceiling s))
    ∷ []

-- C1 element_type(operand) = element_type(padding_value) = element_type(result); C2 size(edge_padding_low) = size(edge_padding_high) =
-- size(interior_padding) = rank(operand); C3 0 <= interior_padding; C4 shape(result) = shape(operand) + edge_padding_low +
-- max(shape(operand) - 1, 0) * interior_padding + edge_padding_high
unfoldable pub pad_tests : TensorType → TensorType → Numbers → Numbers → Numbers → TensorType → List Bool
pad_tests x padding_value low high interior r =
    let s = sides_of x r 0 low high interior in
    (same_element x padding_value && same_element x r)
    ∷ (eqb low.count x.shape.rank && eqb high.count x.shape.rank && eqb interior.count x.shape.rank)
    ∷ everywhere x.shape.rank (dim_test NonNegative s)
    ∷ (eqb r.shape.rank x.shape.rank && everywhere x.shape.rank (dim_test Padded s))
    ∷ []

-- C1 same(element_type(inputs...)); C2 same(shape(inputs...)) except for dim(inputs..., dimension), which must exist (OP-72); C3 0 < size(inputs);
-- C4 0 <= dimension < rank(inputs[0]); C5 element_type(result) = element_type(inputs[0]); C6 shape(result) = shape(inputs[0]) except for
-- dim(result, dimension) = dim(inputs[0], dimension) + ...; without inputs C1 and C2 hold
unfoldable pub concatenate_tests : List TensorType → ℕ → ℕ → TensorType → List Bool
concatenate_tests types arity dimension r =
    let x = type_at types 0 in
    all_types SameElement 0 x types 0 arity
    ∷ all_types SameButOne dimension x types 0 arity
    ∷ ltb 0 arity
    ∷ below dimension x.shape.rank
    ∷ same_element x r
    ∷ (same_but_one x r dimension && eqb (dim r.shape dimension) (sum_of_dims types arity dimension))
    ∷ []

-- C1 element_type(operand) = element_type(result); C2 size(start_indices) = size(slice_sizes) = rank(operand); C3 same(type(start_indices...));
-- C4 0 <= slice_sizes <= shape(operand); C5 shape(result) = slice_sizes
unfoldable pub dynamic_slice_tests : List TensorType → ℕ → Numbers → TensorType → List Bool
dynamic_slice_tests types arity sizes r =
    let x = type_at types 0 in
    let s = sides_of x r 0 sizes sizes sizes in
    same_element x r
    ∷ (eqb (arity - 1) x.shape.rank && eqb sizes.count x.shape.rank)
    ∷ all_types SameType 0 (type_at types 1) types 1 (arity - 1)
    ∷ everywhere x.shape.rank (dim_test InOrder s)
    ∷ (eqb r.shape.rank x.shape.rank && everywhere x.shape.rank (dim_test SizeIs s))
    ∷ []

-- of one input x, a start v, and a body whose arguments have the types a and b (01, "Reductions": "input, start, body and result share one element type;
-- a start that differs breaks C2, body arguments C6, a result C8"): C1 and C3 hold of one input; C4 0 <= dimensions < rank(inputs[0]);
-- C5 is_unique(dimensions); C6 the body's arguments are tensor<E>; C7 shape(results) = shape(inputs) except that the sizes of dimensions are not included
unfoldable pub reduce_tests : TensorType → TensorType → TensorType → TensorType → Numbers → TensorType → List Bool
reduce_tests x v a b dimensions r =
    let s = sides_of x r x.shape.rank dimensions dimensions dimensions in
    true
    ∷ same_element x v
    ∷ true
    ∷ everywhere dimensions.count (dim_test Below s)
    ∷ everywhere dimensions.count (dim_test Unique s)
    ∷ ((same_element x a && eqb a.shape.rank 0) && (same_element x b && eqb b.shape.rank 0))
    ∷ (eqb r.shape.rank (kept_below dimensions x.shape.rank) && everywhere x.shape.rank (dim_test Kept s))
    ∷ same_element x r
    ∷ []
