-- The first that fails of a list of tests, and what the tests of dimensions read.
-- Assumes nothing.
use Rattle.std.specs.Prelude.{List, [], ◌∷◌, Bool, ℕ, suc}
use Rattle.lists.specs.Lists.{pick}
use Rattle.dimrules.specs.declared.TensorType.{TensorType}
use Rattle.dimrules.specs.declared.Numbers.{Numbers}
use Rattle.dimrules.specs.declared.Sides.{Sides}

-- the number of the first test that fails, counted from k; 0 where none does
abbrev pub first_from : ℕ → List Bool → ℕ
first_from k [] = 0
first_from k (c ∷ cs) = pick c (first_from (suc k) cs) k

abbrev pub first_broken : List Bool → ℕ
first_broken cs = first_from 1 cs

-- what the tests of dimensions read: of operand x and result r, a number and three attribute lists
abbrev pub sides_of : TensorType → TensorType → ℕ → Numbers → Numbers → Numbers → Sides
sides_of x r k a b c = record { k = k; a = a; b = b; c = c; n = x.shape; m = r.shape }
