-- Worked examples of the definitions.
-- Assumes nothing.
use mathlib.Core.Path.{◌≡◌, refl}
use mathlib.Core.List.{[], ◌∷◌}
use Rattle.lists.specs.Lists.{concat, first_where}
use Rattle.shape.specs.Index.{size, volume, unravel, ravel, indices, element_at}
use Rattle.shape.specs.Place.{place_in}

-- "Rank 0 has one element; a dimension of size 0 gives none"; volume counts every 0 as 1
pub size-examples : (size [] ≡ 1) × (size (2 ∷ 3 ∷ []) ≡ 6) × (size (2 ∷ 0 ∷ 3 ∷ []) ≡ 0) × (volume (2 ∷ 0 ∷ 3 ∷ []) ≡ 6)
size-examples = (refl, refl, refl, refl)

-- "canonical order, last dimension fastest"
pub order-example : indices (2 ∷ 3 ∷ []) ≡ (0 ∷ 0 ∷ []) ∷ (0 ∷ 1 ∷ []) ∷ (0 ∷ 2 ∷ []) ∷ (1 ∷ 0 ∷ []) ∷ (1 ∷ 1 ∷ []) ∷ (1 ∷ 2 ∷ []) ∷ []
unfolding indices concat
order-example = refl

pub index-examples : (unravel (2 ∷ 3 ∷ 4 ∷ []) 17 ≡ 1 ∷ 1 ∷ 1 ∷ []) × (ravel (2 ∷ 3 ∷ 4 ∷ []) (1 ∷ 1 ∷ 1 ∷ []) ≡ 17)
index-examples = (refl, refl)

pub element-examples : (element_at (5 ∷ 6 ∷ 7 ∷ 8 ∷ []) (2 ∷ 2 ∷ []) (1 ∷ 0 ∷ []) 9 ≡ 7) × (element_at (5 ∷ 6 ∷ 7 ∷ 8 ∷ []) (2 ∷ 2 ∷ []) (1 ∷ 2 ∷ []) 9 ≡ 9)
element-examples = (refl, refl)

pub place-examples : (place_in (2 ∷ 0 ∷ 1 ∷ []) 1 ≡ 2) × (place_in (2 ∷ 0 ∷ []) 1 ≡ 2)
unfolding first_where
place-examples = (refl, refl)
