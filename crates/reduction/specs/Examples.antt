-- Worked examples: 000's example, and reductions over no elements.
-- Assumes nothing.
use Rattle.std.specs.Prelude.{◌≡◌, refl, [], ◌∷◌}
use Rattle.lists.specs.Lists.{first_where}
use Rattle.element.specs.Types.{value_of, wrap_to, slot_for}
use Rattle.element.specs.declared.ElementType.TheVariants.{I32, I64}
use Rattle.scalar.specs.Ops.{add_of}
use Rattle.scalar.specs.declared.Body.TheVariants.{Add}
use Rattle.reduction.specs.Rows.{rows_of, reduced}

-- 000's example
pub reduce-example : reduced Add I64 (1 ∷ []) (1 ∷ 6 ∷ []) (1 ∷ []) 0 (0 ∷ 1 ∷ 2 ∷ 3 ∷ 4 ∷ 5 ∷ []) ≡ 15 ∷ []
unfolding first_where value_of wrap_to slot_for add_of
reduce-example = refl

-- 01, "Giving a reduction over no elements zero in place of its start value"
pub no-elements : (reduced Add I32 (0 ∷ []) (0 ∷ []) [] 7 [] ≡ 7 ∷ []) × (reduced Add I32 (1 ∷ []) (2 ∷ 0 ∷ []) (2 ∷ []) 7 [] ≡ 7 ∷ 7 ∷ [])
unfolding first_where
no-elements = (refl, refl)

-- the rows over the first and last of three dimensions, named in either order
pub rows-example : (rows_of (0 ∷ 2 ∷ []) (2 ∷ 2 ∷ 2 ∷ []) (2 ∷ []) (1 ∷ 2 ∷ 3 ∷ 4 ∷ 5 ∷ 6 ∷ 7 ∷ 8 ∷ []) ≡ (1 ∷ 2 ∷ 5 ∷ 6 ∷ []) ∷ (3 ∷ 4 ∷ 7 ∷ 8 ∷ []) ∷ [])
    × (rows_of (2 ∷ 0 ∷ []) (2 ∷ 2 ∷ 2 ∷ []) (2 ∷ []) (1 ∷ 2 ∷ 3 ∷ 4 ∷ 5 ∷ 6 ∷ 7 ∷ 8 ∷ []) ≡ (1 ∷ 2 ∷ 5 ∷ 6 ∷ []) ∷ (3 ∷ 4 ∷ 7 ∷ 8 ∷ []) ∷ [])
unfolding first_where
rows-example = (refl, refl)

-- over no dimension every row is one element
pub each-alone : rows_of [] (2 ∷ 2 ∷ []) (2 ∷ 2 ∷ []) (1 ∷ 2 ∷ 3 ∷ 4 ∷ []) ≡ (1 ∷ []) ∷ (2 ∷ []) ∷ (3 ∷ []) ∷ (4 ∷ []) ∷ []
unfolding first_where
each-alone = refl
