-- What an example's shapes, attributes and operands are asked, as tests that compute.
-- Assumes nothing.
use Rattle.std.specs.Prelude.{◌≡◌, Bool, true, ◌&&◌, ◌||◌, List, [], ◌∷◌, ℕ, ◌+◌, ◌-◌, leb, ltb, eqb, length, get_or}
use Rattle.lists.specs.Lists.{all_below}
use Rattle.shape.specs.Index.{at, size, volume}
use Rattle.shape.specs.Dims.{dims_of}
use Rattle.shape.specs.Place.{place_in}
use Rattle.shape.specs.Whole.{ceil_div}
use Rattle.shape.specs.declared.Shape.{Shape}
use Rattle.maps.specs.Concatenation.{no_shape, sum_along}

-- the stretch has the shape, which is within 01's sizes 1 and 2
abbrev pub Fit : Shape → List ℕ → Type 0
Fit s l = (leb s.rank 6 ≡ true) × (leb (volume (dims_of s)) 4096 ≡ true) × (length l ≡ size (dims_of s))

-- at most 6 numbers in a list (01, "Sizes", 6)
abbrev pub Few : ℕ → Type 0
Few count = leb count 6 ≡ true

-- iota: C1
abbrev pub IsAlong : ℕ → List ℕ → Type 0
IsAlong dimension to = ltb dimension (length to) ≡ true

-- transpose: C2 and C3 in dimension d, whose number in the permutation stands at no place before
abbrev pub transpose_at : List ℕ → List ℕ → List ℕ → ℕ → Bool
transpose_at permutation from to d =
    ltb (at permutation d) (length from) && eqb (place_in permutation (at permutation d)) d && eqb (at to d) (at from (at permutation d))

abbrev pub IsTranspose : List ℕ → List ℕ → List ℕ → Type 0
IsTranspose permutation from to =
    (length permutation ≡ length from) × (length to ≡ length from) × (all_below (length from) (transpose_at permutation from to) ≡ true)

-- slice: C3, C4 and C5 in dimension d
abbrev pub slice_at : List ℕ → List ℕ → List ℕ → List ℕ → List ℕ → ℕ → Bool
slice_at start limit strides from to d =
    leb (at start d) (at limit d) && leb (at limit d) (at from d) && ltb 0 (at strides d) && eqb (at to d) (ceil_div (at limit d - at start d) (at strides d))

abbrev pub IsSlice : List ℕ → List ℕ → List ℕ → List ℕ → List ℕ → Type 0
IsSlice start limit strides from to = (length to ≡ length from) × (all_below (length from) (slice_at start limit strides from to) ≡ true)

-- pad: C3, and the rank of C4
abbrev pub IsPad : List ℕ → List ℕ → List ℕ → Type 0
IsPad interior from to = (length to ≡ length from) × (all_below (length from) (λ d. ltb (at interior d) 9223372036854775808) ≡ true)

-- dynamic_slice: C4, and the rank of C5
abbrev pub IsDynamic : List ℕ → List ℕ → Type 0
IsDynamic from to = (length to ≡ length from) × (all_below (length from) (λ d. leb (at to d) (at from d)) ≡ true)

-- concatenate: the inputs within 01's sizes and within x
abbrev pub input_at : List ℕ → List Shape → List ℕ → ℕ → Bool
input_at x shapes places j =
    let s = get_or shapes j no_shape in
    leb s.rank 6 && leb (volume (dims_of s)) 4096 && leb (at places j + size (dims_of s)) (length x)

-- C2 and C6: a shape is the result's but for the dimension
abbrev pub same_but : ℕ → List ℕ → List ℕ → Bool
same_but dimension to s = eqb (length s) (length to) && all_below (length to) (λ d. eqb d dimension || eqb (at s d) (at to d))

abbrev pub all_same_but : ℕ → List ℕ → List (List ℕ) → Bool
all_same_but dimension to [] = true
all_same_but dimension to (s ∷ ss) = same_but dimension to s && all_same_but dimension to ss

abbrev pub AreInputs : List ℕ → List Shape → List ℕ → ℕ → Type 0
AreInputs x shapes places count = (leb count 8 ≡ true) × (all_below count (input_at x shapes places) ≡ true)

abbrev pub IsConcatenation : ℕ → List (List ℕ) → List ℕ → Type 0
IsConcatenation dimension shapes to =
    (ltb dimension (length to) ≡ true) × (all_same_but dimension to shapes ≡ true) × (at to dimension ≡ sum_along dimension shapes)
