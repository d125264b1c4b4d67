-- Worked examples: those of 000, and readings that 01 rules out.
-- Assumes nothing.
use Rattle.std.specs.Prelude.{◌≡◌, refl, [], ◌∷◌, pos, neg_ℤ}
use Rattle.lists.specs.Lists.{first_where}
use Rattle.element.specs.Types.{value_of, wrap_to, slot_for}
use Rattle.element.specs.declared.ElementType.TheVariants.{I32, I64, U64}
use Rattle.maps.specs.Formulas.{reshaped, broadcasted, transposed, sliced, reversed, padded, dynamic_sliced, counted}
use Rattle.maps.specs.Concatenation.{concatenated}

pub reshape-example : reshaped (2 ∷ 3 ∷ []) (3 ∷ 2 ∷ []) (1 ∷ 2 ∷ 3 ∷ 4 ∷ 5 ∷ 6 ∷ []) ≡ 1 ∷ 2 ∷ 3 ∷ 4 ∷ 5 ∷ 6 ∷ []
reshape-example = refl

pub broadcast-example : broadcasted (2 ∷ 1 ∷ []) (1 ∷ 3 ∷ []) (2 ∷ 3 ∷ 2 ∷ []) (1 ∷ 2 ∷ 3 ∷ []) ≡ 1 ∷ 1 ∷ 2 ∷ 2 ∷ 3 ∷ 3 ∷ 1 ∷ 1 ∷ 2 ∷ 2 ∷ 3 ∷ 3 ∷ []
broadcast-example = refl

pub transpose-example : transposed (2 ∷ 1 ∷ 0 ∷ []) (2 ∷ 3 ∷ 2 ∷ []) (2 ∷ 3 ∷ 2 ∷ []) (1 ∷ 2 ∷ 3 ∷ 4 ∷ 5 ∷ 6 ∷ 7 ∷ 8 ∷ 9 ∷ 10 ∷ 11 ∷ 12 ∷ [])
    ≡ 1 ∷ 7 ∷ 3 ∷ 9 ∷ 5 ∷ 11 ∷ 2 ∷ 8 ∷ 4 ∷ 10 ∷ 6 ∷ 12 ∷ []
unfolding first_where
transpose-example = refl

-- 01, "Transposing by the inverse permutation": the inverse of [1, 2, 0] is [2, 0, 1]
pub transpose-rotation : transposed (1 ∷ 2 ∷ 0 ∷ []) (2 ∷ 2 ∷ 3 ∷ []) (2 ∷ 3 ∷ 2 ∷ []) (1 ∷ 2 ∷ 3 ∷ 4 ∷ 5 ∷ 6 ∷ 7 ∷ 8 ∷ 9 ∷ 10 ∷ 11 ∷ 12 ∷ [])
    ≡ 1 ∷ 7 ∷ 2 ∷ 8 ∷ 3 ∷ 9 ∷ 4 ∷ 10 ∷ 5 ∷ 11 ∷ 6 ∷ 12 ∷ []
unfolding first_where
transpose-rotation = refl

pub slice-example : sliced (1 ∷ 2 ∷ []) (1 ∷ 1 ∷ []) (3 ∷ 4 ∷ []) (2 ∷ 2 ∷ []) (0 ∷ 0 ∷ 0 ∷ 0 ∷ 0 ∷ 0 ∷ 1 ∷ 1 ∷ 0 ∷ 0 ∷ 1 ∷ 1 ∷ []) ≡ 1 ∷ 1 ∷ 1 ∷ 1 ∷ []
slice-example = refl

pub reverse-example : reversed (1 ∷ []) (3 ∷ 2 ∷ []) (1 ∷ 2 ∷ 3 ∷ 4 ∷ 5 ∷ 6 ∷ []) ≡ 2 ∷ 1 ∷ 4 ∷ 3 ∷ 6 ∷ 5 ∷ []
unfolding first_where
reverse-example = refl

pub pad-example : padded (pos 0 ∷ pos 1 ∷ []) (1 ∷ 2 ∷ []) (2 ∷ 3 ∷ []) (5 ∷ 9 ∷ []) (1 ∷ 2 ∷ 3 ∷ 4 ∷ 5 ∷ 6 ∷ []) 0
    ≡ 0 ∷ 1 ∷ 0 ∷ 0 ∷ 2 ∷ 0 ∷ 0 ∷ 3 ∷ 0 ∷
    0 ∷ 0 ∷ 0 ∷ 0 ∷ 0 ∷ 0 ∷ 0 ∷ 0 ∷ 0 ∷
    0 ∷ 4 ∷ 0 ∷ 0 ∷ 5 ∷ 0 ∷ 0 ∷ 6 ∷ 0 ∷
    0 ∷ 0 ∷ 0 ∷ 0 ∷ 0 ∷ 0 ∷ 0 ∷ 0 ∷ 0 ∷
    0 ∷ 0 ∷ 0 ∷ 0 ∷ 0 ∷ 0 ∷ 0 ∷ 0 ∷ 0 ∷ []
pad-example = refl

-- the starts are -1 and 3
pub dynamic-slice-example : dynamic_sliced I64 (slot_for I64 (neg_ℤ (pos 1)) ∷ 3 ∷ []) (4 ∷ 4 ∷ []) (2 ∷ 2 ∷ [])
    (0 ∷ 0 ∷ 1 ∷ 1 ∷ 0 ∷ 0 ∷ 1 ∷ 1 ∷ 0 ∷ 0 ∷ 0 ∷ 0 ∷ 0 ∷ 0 ∷ 0 ∷ 0 ∷ []) ≡ 1 ∷ 1 ∷ 1 ∷ 1 ∷ []
unfolding value_of slot_for
dynamic-slice-example = refl

-- 01, "A start index read as signed because slots are 64 bits": ui64 2^64 - 1 is above every start
pub unsigned-start : dynamic_sliced U64 (18446744073709551615 ∷ []) (4 ∷ []) (1 ∷ []) (1650 ∷ 1675 ∷ 1700 ∷ 1725 ∷ []) ≡ 1725 ∷ []
unfolding value_of
unsigned-start = refl

pub iota-examples : (counted I32 0 (4 ∷ 5 ∷ []) ≡ 0 ∷ 0 ∷ 0 ∷ 0 ∷ 0 ∷ 1 ∷ 1 ∷ 1 ∷ 1 ∷ 1 ∷ 2 ∷ 2 ∷ 2 ∷ 2 ∷ 2 ∷ 3 ∷ 3 ∷ 3 ∷ 3 ∷ 3 ∷ [])
    × (counted I32 1 (4 ∷ 5 ∷ []) ≡ 0 ∷ 1 ∷ 2 ∷ 3 ∷ 4 ∷ 0 ∷ 1 ∷ 2 ∷ 3 ∷ 4 ∷ 0 ∷ 1 ∷ 2 ∷ 3 ∷ 4 ∷ 0 ∷ 1 ∷ 2 ∷ 3 ∷ 4 ∷ [])
unfolding wrap_to slot_for
iota-examples = (refl, refl)

pub concatenate-example : concatenated 0 ((3 ∷ 2 ∷ []) ∷ (1 ∷ 2 ∷ []) ∷ []) ((1 ∷ 2 ∷ 3 ∷ 4 ∷ 5 ∷ 6 ∷ []) ∷ (7 ∷ 8 ∷ []) ∷ []) (4 ∷ 2 ∷ []) ≡ 1 ∷ 2 ∷ 3 ∷ 4 ∷ 5 ∷ 6 ∷ 7 ∷ 8 ∷ []
concatenate-example = refl

-- along the last dimension, with an input that has no elements
pub concatenate-last : concatenated 1 ((2 ∷ 2 ∷ []) ∷ (2 ∷ 0 ∷ []) ∷ (2 ∷ 1 ∷ []) ∷ []) ((1 ∷ 2 ∷ 3 ∷ 4 ∷ []) ∷ [] ∷ (5 ∷ 6 ∷ []) ∷ []) (2 ∷ 3 ∷ []) ≡ 1 ∷ 2 ∷ 5 ∷ 3 ∷ 4 ∷ 6 ∷ []
concatenate-last = refl
