-- Names, and the place of a name in a list of names.
-- Assumes nothing.
use Rattle.std.specs.Prelude.{ℕ, List, [], ◌∷◌, Bool, true, false, ◌&&◌, eqb}
use Rattle.lists.specs.Lists.{first_where}

-- two names are the same bytes
unfoldable pub same : List ℕ → List ℕ → Bool
same [] [] = true
same [] (y ∷ ys) = false
same (x ∷ xs) [] = false
same (x ∷ xs) (y ∷ ys) = eqb x y && same xs ys

-- the place of a name in a list of names; the list's length where it has no such name
unfoldable pub name_place : List (List ℕ) → List ℕ → ℕ
name_place names word = first_where (λ n. same n word) names
