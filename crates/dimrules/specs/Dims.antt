-- What a constraint asks of one dimension, or of one place of an attribute list.
-- Assumes nothing.
use Rattle.std.specs.Prelude.{List, Bool, not, ◌||◌, ℕ, ◌≤◌, take, replicate, eqb}
use Rattle.shape.specs.Index.{at}
use Rattle.shape.specs.Dims.{dims_of, Sized}
use Rattle.shape.specs.Place.{place_in, is_in, count_below}
use Rattle.shape.specs.declared.Shape.{Shape}
use Rattle.dimrules.specs.declared.Numbers.{Numbers}
use Rattle.dimrules.specs.declared.Sides.{Sides}
use Rattle.dimrules.specs.declared.DimTest.{DimTest}
use Rattle.dimrules.specs.declared.DimTest.TheVariants.{Same, SameExcept, InOrder, Positive, Ceiling, NonNegative, Padded, Below, Unique, Moved, Stretched, SizeIs, Kept}
use Rattle.dimrules.specs.Whole.{below, in_order, positive, non_negative, ceiling_is, padded_is}

-- the numbers of an attribute list
abbrev pub list_of : Numbers → List ℕ
list_of a = take a.count a.list

-- 000's dim(x, d), and a list's number at d; 0 where there is none
abbrev pub dim : Shape → ℕ → ℕ
dim s d = at (dims_of s) d

abbrev pub num : Numbers → ℕ → ℕ
num a d = at (list_of a) d

-- the number at d stands at no place before
unfoldable pub is_first : Numbers → ℕ → Bool
is_first a d = eqb (place_in (list_of a) (num a d)) d

-- how many dimensions below d are not listed: the place of d among those kept
unfoldable pub kept_below : Numbers → ℕ → ℕ
kept_below a d = count_below (λ e. not (is_in (list_of a) e)) d

-- dimension d is listed, or its size is that of its place among those kept
unfoldable pub kept_is : Sides → ℕ → Bool
kept_is s d = is_in (list_of s.a) d || eqb (dim s.n d) (dim s.m (kept_below s.a d))

unfoldable pub dim_test : DimTest → Sides → ℕ → Bool
dim_test Same s d = eqb (dim s.n d) (dim s.m d)
dim_test SameExcept s d = eqb d s.k || eqb (dim s.n d) (dim s.m d)
dim_test InOrder s d = in_order (num s.a d) (num s.b d) (dim s.n d)
dim_test Positive s d = positive (num s.c d)
dim_test Ceiling s d = ceiling_is (num s.a d) (num s.b d) (num s.c d) (dim s.m d)
dim_test NonNegative s d = non_negative (num s.c d)
dim_test Padded s d = padded_is (num s.a d) (num s.b d) (num s.c d) (dim s.n d) (dim s.m d)
dim_test Below s d = below (num s.a d) s.k
dim_test Unique s d = is_first s.a d
dim_test Moved s d = eqb (dim s.m d) (dim s.n (num s.a d))
dim_test Stretched s d = eqb (dim s.n d) 1 || eqb (dim s.n d) (dim s.m (num s.a d))
dim_test SizeIs s d = eqb (dim s.m d) (num s.a d)
dim_test Kept s d = kept_is s d

-- what the tests need: sizes 1, 2 and 6 of 01
pub record SidesReady (s : Sides) : Type 0 where
  pub sized : Sized s.n
  pub few : s.a.count ≤ 6

abbrev pub no_numbers : Numbers
no_numbers = record { count = 0; list = replicate 6 0 }
