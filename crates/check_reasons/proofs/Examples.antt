-- Worked examples of what a refusal can show, by computation: the C number, the place and the two numbers.
-- Assumes nothing.
use mathlib.Core.Path.{◌≡◌, refl}
use mathlib.Core.List.{List, [], ◌∷◌}
use Prim.Native.Nat.{ℕ}
use lib.ListN.{length}
use lib.IntN.{ℤ, pos, negsuc}
use Rattle.element.specs.declared.ElementType.{ElementType}
use Rattle.element.specs.declared.ElementType.TheVariants.{I8, U8}
use Rattle.dimrules.specs.Types.{same_element}
use Rattle.dimrules.specs.declared.TensorType.{TensorType}
use Rattle.checks.specs.Check.{is, missing, less, equal, compare, or_else}
use Rattle.checks.specs.Formula.{compared, is_unique, is_permutation, once}
use Rattle.op_checks.specs.OpChecks.{slice_checks, pad_checks, transpose_checks, broadcast_checks}
use Rattle.check_reasons.specs.Reasons.{Shown, neither, both, nowhere, fails_at, failing_of, Reason, because, reason_of}

abbrev tensor : ElementType → List ℕ → TensorType
tensor e dims = record { element = e; shape = record { rank = length dims; dims = dims } }

abbrev two : {A : Type 0} → A → A → List A
two a b = a ∷ b ∷ []

abbrev unbroken : Reason
unbroken = because 0 nowhere

abbrev broken : ℕ → ℕ → Shown → Reason
broken c d s = because c (fails_at d s)

-- a place that doesn't exist shows neither number; of either of two tests the first is shown
missings : (failing_of (once (compare (is (pos 3)) equal missing)) ≡ fails_at 0 neither) × (failing_of (once (compare missing less (is (pos 3)))) ≡ fails_at 0 neither)
    × (failing_of (once (or_else (compare (is (pos 3)) equal (is (pos 1))) (compare (is (pos 3)) equal (is (pos 2))))) ≡ fails_at 0 (both (pos 3) (pos 1)))
missings = (refl, refl, refl)

-- slice, 01: "slice start 3, limit 2: refusal 8, B 3"
slice : reason_of (slice_checks (tensor I8 (5 ∷ [])) (pos 3 ∷ []) (pos 2 ∷ []) (pos 1 ∷ []) (tensor I8 (0 ∷ []))) ≡ broken 3 0 (both (pos 3) (pos 2))
unfolding slice_checks compared same_element
slice = refl

-- of a 5 x 7 tensor: limit 8 above 7 at place 1; start 3 above limit 2 at place 0, before limit 9 at place 1; a start below 0; unlike lengths; stride 0;
-- C5, a size and a rank
sliced : List ℤ → List ℤ → List ℤ → List ℕ → Reason
sliced start limit strides r = reason_of (slice_checks (tensor I8 (two 5 7)) start limit strides (tensor I8 r))

slices : (sliced (two (pos 0) (pos 0)) (two (pos 5) (pos 8)) (two (pos 1) (pos 1)) (two 5 8) ≡ broken 3 1 (both (pos 8) (pos 7)))
    × (sliced (two (pos 3) (pos 0)) (two (pos 2) (pos 9)) (two (pos 1) (pos 1)) (two 0 9) ≡ broken 3 0 (both (pos 3) (pos 2)))
    × (sliced (two (pos 0) (negsuc 0)) (two (pos 5) (pos 7)) (two (pos 1) (pos 1)) (two 5 8) ≡ broken 3 1 (both (pos 0) (negsuc 0)))
    × (sliced (pos 0 ∷ []) (two (pos 5) (pos 7)) (two (pos 1) (pos 1)) (two 5 7) ≡ broken 2 0 (both (pos 1) (pos 2)))
    × (sliced (two (pos 0) (pos 0)) (two (pos 5) (pos 7)) (two (pos 1) (pos 0)) (two 5 7) ≡ broken 4 1 (both (pos 0) (pos 0)))
    × (sliced (two (pos 1) (pos 0)) (two (pos 5) (pos 7)) (two (pos 2) (pos 3)) (two 2 2) ≡ broken 5 1 (both (pos 2) (pos 3)))
    × (sliced (two (pos 1) (pos 0)) (two (pos 5) (pos 7)) (two (pos 2) (pos 3)) (2 ∷ []) ≡ broken 5 0 (both (pos 1) (pos 2)))
    × (sliced (two (pos 1) (pos 0)) (two (pos 5) (pos 7)) (two (pos 2) (pos 3)) (two 2 3) ≡ unbroken)
unfolding sliced slice_checks compared same_element
slices = (refl, refl, refl, refl, refl, refl, refl, refl)

-- pad: a size that is the sum; a sum past 64 bits, as sums "never wrap" (01); interior -1; unlike element types compare no numbers
padded : ElementType → ℤ → ℤ → ℤ → ℕ → Reason
padded e low high interior r = reason_of (pad_checks (tensor I8 (3 ∷ [])) (tensor e []) (low ∷ []) (high ∷ []) (interior ∷ []) (tensor I8 (r ∷ [])))

pads : (padded I8 (negsuc 0) (pos 2) (pos 1) 6 ≡ unbroken) × (padded I8 (negsuc 0) (pos 2) (pos 1) 5 ≡ broken 4 0 (both (pos 5) (pos 6)))
    × (padded I8 (pos 0) (pos 9223372036854775807) (pos 9223372036854775807) 0 ≡ broken 4 0 (both (pos 0) (pos 27670116110564327424)))
    × (padded I8 (pos 0) (pos 0) (negsuc 0) 1 ≡ broken 3 0 (both (pos 0) (negsuc 0))) × (padded U8 (pos 0) (pos 0) (pos 0) 3 ≡ broken 1 0 neither)
unfolding padded pad_checks compared same_element
pads = (refl, refl, refl, refl, refl)

-- transpose by 1, 1, which repeats at place 1; a size; broadcast_in_dim: 3 is neither 1 nor 4, and the first comparison is shown
others : (reason_of (transpose_checks (tensor I8 (two 2 3)) (two (pos 1) (pos 1)) (tensor I8 (two 3 3))) ≡ broken 2 1 neither)
    × (reason_of (transpose_checks (tensor I8 (two 2 3)) (two (pos 1) (pos 0)) (tensor I8 (two 3 4))) ≡ broken 3 1 (both (pos 4) (pos 2)))
    × (reason_of (broadcast_checks (tensor I8 (two 1 3)) (two (pos 0) (pos 1)) (tensor I8 (two 2 4))) ≡ broken 5 1 (both (pos 3) (pos 1)))
unfolding transpose_checks broadcast_checks is_permutation is_unique compared same_element
others = (refl, refl, refl)
