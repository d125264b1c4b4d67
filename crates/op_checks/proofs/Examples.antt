-- Worked examples of the constraints, by computation: the number of the first broken one, 0 for none.
-- Assumes nothing.
use mathlib.Core.Path.{◌≡◌, refl}
use mathlib.Core.List.{List, [], ◌∷◌, map}
use Prim.Native.Nat.{ℕ}
use lib.ListN.{length}
use lib.IntN.{ℤ, pos}
use Rattle.lists.specs.Lists.{first_where}
use Rattle.element.specs.declared.ElementType.{ElementType}
use Rattle.element.specs.declared.ElementType.TheVariants.{I1, I8, I16, U8}
use Rattle.dimrules.specs.Whole.{number_of}
use Rattle.dimrules.specs.Types.{same_element}
use Rattle.dimrules.specs.declared.TensorType.{TensorType}
use Rattle.optable.specs.Names.{same, name_place}
use Rattle.optable.specs.Table.{choices, choice_names}
use Rattle.checks.specs.Check.{broken_number}
use Rattle.checks.specs.Formula.{compared, is_unique, is_permutation}
use Rattle.op_checks.specs.OpChecks.{compare_type_is, SIGNED, UNSIGNED, absent, same_types_checks, abs_checks, iota_checks, reshape_checks, compare_checks, select_checks, clamp_checks, reverse_checks, transpose_checks, broadcast_checks, slice_checks, pad_checks, concatenate_checks, dynamic_slice_checks, reduce_checks}

abbrev tensor : ElementType → List ℕ → TensorType
tensor e dims = record { element = e; shape = record { rank = length dims; dims = dims } }

abbrev numbers : List ℕ → List ℤ
numbers l = map number_of l

abbrev one : ℕ → List ℕ
one n = n ∷ []

abbrev minus_one : ℕ
minus_one = 18446744073709551615

-- 01: "slice start 3, limit 2: refusal 8, B 3"; start = limit = size, a stride of 2^63 - 1 (OP-81); a negative start; an unlike list; stride 0; C5
sliced : ℕ → ℕ → ℕ → List ℕ → ℕ
sliced start limit stride r = broken_number (slice_checks (tensor I8 (one 5)) (numbers (one start)) (numbers (one limit)) (numbers (one stride)) (tensor I8 r))

slices : (sliced 3 2 1 (one 0) ≡ 3) × (sliced 5 5 1 (one 0) ≡ 0) × (sliced 0 5 9223372036854775807 (one 1) ≡ 0) × (sliced minus_one 2 1 (one 3) ≡ 3) × (sliced 0 6 1 (one 6) ≡ 3)
    × (sliced 0 5 0 (one 5) ≡ 4) × (sliced 1 5 2 (one 3) ≡ 5) × (sliced 0 5 1 [] ≡ 5)
unfolding sliced slice_checks compared same_element
slices = (refl, refl, refl, refl, refl, refl, refl, refl)

-- a size that is not the sum breaks C4; "A pad sum near 2^63 that wraps to a valid size" too; interior -1 breaks C3; C1
padded : ElementType → ℕ → ℕ → ℕ → List ℕ → ℕ
padded e low high interior r = broken_number (pad_checks (tensor I8 (one 3)) (tensor e []) (numbers (one low)) (numbers (one high)) (numbers (one interior)) (tensor I8 r))

pads : (padded I8 minus_one 2 1 (one 5) ≡ 4) × (padded I8 9223372036854775807 9223372036854775807 0 (one 1) ≡ 4)
    × (padded I8 0 0 9223372036854775807 (one 1) ≡ 4) × (padded I8 0 0 minus_one (one 1) ≡ 3) × (padded U8 0 0 0 (one 3) ≡ 1) × (padded I8 18446744073709551611 2 0 (one 0) ≡ 0)
unfolding padded pad_checks compared same_element
pads = (refl, refl, refl, refl, refl, refl)

-- OP-72: a dimension that doesn't exist breaks C2; "concatenate: any, none breaks C3"; unlike types, shapes, sums
joined : List TensorType → ℕ → TensorType → ℕ
joined types dimension r = broken_number (concatenate_checks types (number_of dimension) r)

joins : (joined (tensor I8 (one 2) ∷ tensor I8 (one 3) ∷ []) 0 (tensor I8 (one 5)) ≡ 0) × (joined (tensor I8 (one 2) ∷ []) 1 (tensor I8 (one 2)) ≡ 2)
    × (joined (tensor I8 (one 2) ∷ []) minus_one (tensor I8 (one 2)) ≡ 2) × (joined [] 0 (tensor I8 (one 2)) ≡ 3)
    × (joined (tensor I8 (one 2) ∷ tensor U8 (one 3) ∷ []) 0 (tensor I8 (one 5)) ≡ 1) × (joined (tensor I8 (one 2) ∷ []) 0 (tensor U8 (one 2)) ≡ 5)
    × (joined (tensor I8 (one 2) ∷ []) 0 (tensor I8 (one 3)) ≡ 6) × (joined (tensor I8 (one 0) ∷ []) 0 (tensor I8 (one 0)) ≡ 0)
unfolding joined concatenate_checks compared same_element
joins = (refl, refl, refl, refl, refl, refl, refl, refl)

-- OP-74: i1 wants UNSIGNED; compare_type may be absent
comparison : ElementType → ℕ → ℕ
comparison e choice = broken_number (compare_checks (tensor e []) (tensor e []) choice (tensor I1 []))

comparisons : (comparison I1 SIGNED ≡ 3) × (comparison I1 UNSIGNED ≡ 0) × (comparison I8 SIGNED ≡ 0) × (comparison I8 UNSIGNED ≡ 3) × (comparison U8 absent ≡ 0)
unfolding comparison compare_checks compared same_element compare_type_is choices choice_names name_place same first_where
comparisons = (refl, refl, refl, refl, refl)

-- transpose of 2x3x4 by [1, 2, 0] is 3x4x2, not 4x2x3 (the inverse); not a permutation; unlike length; rank 0 (OP-85)
transposed : List ℕ → List ℕ → ℕ
transposed permutation r = broken_number (transpose_checks (tensor I8 (2 ∷ 3 ∷ 4 ∷ [])) (numbers permutation) (tensor I8 r))

transposes : (transposed (1 ∷ 2 ∷ 0 ∷ []) (3 ∷ 4 ∷ 2 ∷ []) ≡ 0) × (transposed (1 ∷ 2 ∷ 0 ∷ []) (4 ∷ 2 ∷ 3 ∷ []) ≡ 3) × (transposed (1 ∷ 1 ∷ 0 ∷ []) (3 ∷ 3 ∷ 2 ∷ []) ≡ 2)
    × (transposed (1 ∷ 0 ∷ []) (3 ∷ 2 ∷ []) ≡ 2) × (broken_number (transpose_checks (tensor I8 []) (numbers []) (tensor I8 [])) ≡ 0)
unfolding transposed transpose_checks compared same_element is_permutation is_unique
transposes = (refl, refl, refl, refl, refl)

-- OP-83: size 1 may become 0 or anything, size 0 only 0; C2, C3, C4
broadcast : List ℕ → List ℕ → List ℕ → ℕ
broadcast x dimensions r = broken_number (broadcast_checks (tensor I8 x) (numbers dimensions) (tensor I8 r))

broadcasts : (broadcast (one 1) (one 1) (2 ∷ 0 ∷ []) ≡ 0) × (broadcast (one 0) (one 1) (2 ∷ 3 ∷ []) ≡ 5) × (broadcast (one 3) (one 1) (2 ∷ 3 ∷ []) ≡ 0) × (broadcast (one 3) [] (one 3) ≡ 2)
    × (broadcast (one 3) (one 2) (2 ∷ 3 ∷ []) ≡ 3) × (broadcast (2 ∷ 2 ∷ []) (0 ∷ 0 ∷ []) (2 ∷ 2 ∷ []) ≡ 4)
unfolding broadcast broadcast_checks compared same_element is_unique
broadcasts = (refl, refl, refl, refl, refl, refl)

-- OP-78: a start of another type is C2; body arguments C6, also of rank 1 (OP-76); the result's shape (C7) before its element type (C8); C4, C5
reduction : TensorType → TensorType → List ℕ → TensorType → ℕ
reduction v a dimensions r = broken_number (reduce_checks (tensor I8 (2 ∷ 3 ∷ [])) v a a (numbers dimensions) r)

reductions : (reduction (tensor I8 []) (tensor I8 []) (one 1) (tensor I8 (one 2)) ≡ 0) × (reduction (tensor U8 []) (tensor U8 []) (one 1) (tensor U8 (one 2)) ≡ 2)
    × (reduction (tensor I8 []) (tensor U8 []) (one 1) (tensor I8 (one 2)) ≡ 6) × (reduction (tensor I8 []) (tensor I8 (one 1)) (one 1) (tensor I8 (one 2)) ≡ 6)
    × (reduction (tensor I8 []) (tensor I8 []) (one 1) (tensor U8 (one 3)) ≡ 7) × (reduction (tensor I8 []) (tensor I8 []) (one 1) (tensor U8 (one 2)) ≡ 8)
    × (reduction (tensor I8 []) (tensor I8 []) (one 2) (tensor I8 (one 2)) ≡ 4) × (reduction (tensor I8 []) (tensor I8 []) (1 ∷ 1 ∷ []) (tensor I8 (one 2)) ≡ 5)
    × (reduction (tensor I8 []) (tensor I8 []) (1 ∷ 0 ∷ []) (tensor I8 []) ≡ 0)
unfolding reduction reduce_checks compared same_element is_unique
reductions = (refl, refl, refl, refl, refl, refl, refl, refl, refl)

-- dynamic_slice: as many starts as the rank (OP-68), of one type, sizes within the operand; C5
cut : List TensorType → ℕ → List ℕ → ℕ
cut starts size r = broken_number (dynamic_slice_checks (tensor I8 (one 4)) starts (numbers (one size)) (tensor I8 r))

cuts : (cut (tensor U8 [] ∷ []) 1 (one 1) ≡ 0) × (cut [] 1 (one 1) ≡ 2) × (cut (tensor U8 [] ∷ tensor I8 [] ∷ []) 1 (one 1) ≡ 2) × (cut (tensor U8 [] ∷ []) 5 (one 5) ≡ 4)
    × (cut (tensor U8 [] ∷ []) minus_one (one 1) ≡ 4) × (cut (tensor U8 [] ∷ []) 2 (one 1) ≡ 5)
unfolding cut dynamic_slice_checks compared same_element
cuts = (refl, refl, refl, refl, refl, refl)

-- iota of rank 0 (OP-79); reshape multiplies real sizes (OP-80); abs i8 -> i16 is C2 (OP-66); add i8 -> i1 is C1; reverse; rank 0 in clamp and select (OP-86)
others : (broken_number (iota_checks (pos 0) (tensor I8 [])) ≡ 1) × (broken_number (iota_checks (pos 1) (tensor I8 (2 ∷ 3 ∷ []))) ≡ 0)
    × (broken_number (reshape_checks (tensor I8 (2 ∷ 0 ∷ [])) (tensor I8 (0 ∷ 7 ∷ []))) ≡ 0) × (broken_number (reshape_checks (tensor I8 []) (tensor I8 (one 2))) ≡ 2)
    × (broken_number (abs_checks (tensor I8 []) (tensor I16 [])) ≡ 2) × (broken_number (abs_checks (tensor I8 []) (tensor I16 (one 1))) ≡ 1)
    × (broken_number (same_types_checks (tensor I8 [] ∷ tensor I8 [] ∷ []) (tensor I1 [])) ≡ 1)
    × (broken_number (reverse_checks (tensor I8 (one 2)) (numbers (0 ∷ 0 ∷ [])) (tensor I8 (one 2))) ≡ 2)
    × (broken_number (reverse_checks (tensor I8 (one 2)) (numbers (one 1)) (tensor I8 (one 2))) ≡ 3)
    × (broken_number (clamp_checks (tensor I8 []) (tensor I8 (one 2)) (tensor I8 (one 3)) (tensor I8 (one 2))) ≡ 2)
    × (broken_number (select_checks (tensor I1 []) (tensor I8 (one 2)) (tensor I8 (one 2)) (tensor I8 (one 2))) ≡ 0)
unfolding iota_checks reshape_checks abs_checks same_types_checks reverse_checks clamp_checks select_checks compared same_element is_unique
others = (refl, refl, refl, refl, refl, refl, refl, refl, refl, refl, refl)
