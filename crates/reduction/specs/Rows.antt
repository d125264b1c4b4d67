-- reduce: the rows of elements that its results are folded from (000, reduce; 01, "Reductions").
-- Assumes nothing.
use Rattle.std.specs.Prelude.{◌≡◌, List, [], ◌∷◌, ◌++◌, map, Bool, not, ℕ, zero, suc, ◌-◌, ◌≤◌, length}
use Rattle.lists.specs.Lists.{pick, tab}
use Rattle.run.specs.Tree.{fold}
use Rattle.element.specs.declared.ElementType.{ElementType}
use Rattle.scalar.specs.Body.{body_of}
use Rattle.scalar.specs.declared.Body.{Body}
use Rattle.shape.specs.Index.{at, tabulate, element_at}
use Rattle.shape.specs.Place.{is_in, count_below}
use Rattle.shape.specs.Dims.{Sized, Fills}
use Rattle.shape.specs.declared.Shape.{Shape}

-- the f d that pass the test, for d below n, in ascending order
abbrev pub collect : ℕ → (ℕ → Bool) → (ℕ → ℕ) → List ℕ
collect zero t f = []
collect (suc n) t f = collect n t f ++ pick (t n) (f n ∷ []) []

-- the shape of an input slice: the dimensions that are reduced, those listed
abbrev pub slice_shape : List ℕ → List ℕ → List ℕ
slice_shape dimensions from = collect (length from) (is_in dimensions) (at from)

-- C7: "the dimension sizes of inputs corresponding to dimensions are not included"
abbrev pub kept_shape : List ℕ → List ℕ → List ℕ
kept_shape dimensions from = collect (length from) (λ d. not (is_in dimensions d)) (at from)

-- "inputs[j0, ..., :, ..., jR-1], where : are inserted at dimensions": coordinate d of the operand's index, for the index j of the result and
-- the index r of the input slice
abbrev pub inserted : List ℕ → (ℕ → ℕ) → (ℕ → ℕ) → ℕ → ℕ
inserted dimensions j r d = pick (is_in dimensions d) (r (count_below (is_in dimensions) d)) (j (d - count_below (is_in dimensions) d))

-- the elements of an input slice of shape inner, "in the ascending lexicographic order of index"
abbrev pub row_over : List ℕ → List ℕ → List ℕ → List ℕ → (ℕ → ℕ) → List ℕ
row_over dimensions from x inner j = tabulate inner (λ r. element_at x from (tab (length from) (inserted dimensions j (at r))) 0)

-- the row of the result's element at the index j
abbrev pub row_for_index : List ℕ → List ℕ → List ℕ → List ℕ → List ℕ
row_for_index dimensions from x j = row_over dimensions from x (slice_shape dimensions from) (at j)

-- the rows, one for each element of the result, in canonical order
abbrev pub rows_of : List ℕ → List ℕ → List ℕ → List ℕ → List (List ℕ)
rows_of dimensions from to x = tabulate to (row_for_index dimensions from x)

-- "Evaluation folds from the start value, once, over elements in ascending order"
abbrev pub reduced : Body → ElementType → List ℕ → List ℕ → List ℕ → ℕ → List ℕ → List ℕ
reduced b t dimensions from to start x = map (fold (body_of b t) start) (rows_of dimensions from to x)

-- ---- what is required, and what the constraints grant

-- the operand's stretch x and the result's stretch out are of their shapes, which are within 01's sizes; at most 6 dimensions (size 6)
pub record ReduceStretches (from to : Shape) (count : ℕ) (x out : List ℕ) : Type 0 where
  pub from-sized : Sized from
  pub to-sized : Sized to
  pub few : count ≤ 6
  pub operand : Fills x from
  pub result : Fills out to

-- C7
pub record ReduceHolds (dimensions from to : List ℕ) : Type 0 where
  pub shape : to ≡ kept_shape dimensions from
