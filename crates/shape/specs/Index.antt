-- Shapes and indices as lists of numbers; the canonical order, last dimension fastest (01, "Element types").
-- Assumes nothing.
use Rattle.std.specs.Prelude.{◌≡◌, List, [], ◌∷◌, ◌++◌, map, Bool, true, false, ℕ, ◌+◌, ◌*◌, ◌/◌, ◌%◌, ◌<◌, max, length, get_or, take, drop, replicate, ltb}
use Rattle.lists.specs.Lists.{pick, tab, concat}

-- the number at a place of a list, 0 past its end
abbrev pub at : List ℕ → ℕ → ℕ
at l j = get_or l j 0

-- how many elements: one for rank 0, none where a dimension is 0 (01, "Element types")
abbrev pub size : List ℕ → ℕ
size [] = 1
size (d ∷ ds) = d * size ds

-- the product of the dimensions with every 0 counted as 1 (01, "Sizes", 2)
abbrev pub volume : List ℕ → ℕ
volume [] = 1
volume (d ∷ ds) = max 1 d * volume ds

-- the index at a canonical position
abbrev pub unravel : List ℕ → ℕ → List ℕ
unravel [] k = []
unravel (d ∷ ds) k = k / size ds ∷ unravel ds (k % size ds)

-- the canonical position of an index
abbrev pub ravel : List ℕ → List ℕ → ℕ
ravel [] i = 0
ravel (d ∷ ds) [] = 0
ravel (d ∷ ds) (x ∷ i) = x * size ds + ravel ds i

-- each coordinate is below its dimension
abbrev pub Within : List ℕ → List ℕ → Type 0
Within s i = (d : ℕ) → d < length s → at i d < at s d

-- i is an index of the shape s
pub record IndexOf (s i : List ℕ) : Type 0 where
  pub rank : length i ≡ length s
  pub within : Within s i

-- whether each coordinate is below its dimension
abbrev pub is_within : List ℕ → List ℕ → Bool
is_within [] i = true
is_within (d ∷ ds) i = pick (ltb (at i 0) d) (is_within ds (drop 1 i)) false

-- all indices of a shape, last dimension fastest
unfoldable pub indices : List ℕ → List (List ℕ)
indices [] = [] ∷ []
indices (d ∷ ds) = concat (tab d (λ x. map (λ i. x ∷ i) (indices ds)))

-- the elements f(index) in canonical order
abbrev pub tabulate : {A : Type 0} → List ℕ → (List ℕ → A) → List A
tabulate s f = tab (size s) (λ k. f (unravel s k))

-- the element at an index of a tensor x of shape s; z where it is no index of s
abbrev pub element_at : List ℕ → List ℕ → List ℕ → ℕ → ℕ
element_at x s i z = pick (is_within s i) (at x (ravel s i)) z

-- an index as the code holds it: six numbers, zeros behind the index
abbrev pub in_six : List ℕ → List ℕ
in_six i = i ++ drop (length i) (replicate 6 0)

-- what is left at dimension d of the first rank dimensions
abbrev pub rest : List ℕ → ℕ → ℕ → List ℕ
rest dims rank d = drop d (take rank dims)
