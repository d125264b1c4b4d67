-- A constraint of 000 as the tests that its formula makes, place by place, and whether it holds. Of an op's constraints, the first that doesn't.
-- Assumes nothing.
use Rattle.std.specs.Prelude.{List, [], ◌∷◌, Bool, true, false, ◌&&◌, ◌||◌, ℕ, suc, ℤ}
use Rattle.std.specs.Int.Signed.{le_z, lt_z}
use Rattle.lists.specs.Lists.{pick}
use Rattle.dimrules.specs.Whole.{eq_int}

-- a number that a formula names; missing where it names a dimension or list place that doesn't exist
pub data Term : Type 0 where
  is : ℤ → Term
  missing : Term

-- =, < and <= of the formulas
pub data Relation : Type 0 where
  equal less at_most : Relation

abbrev pub relates : Relation → ℤ → ℤ → Bool
relates equal a b = eq_int a b
relates less a b = lt_z a b
relates at_most a b = le_z a b

-- one test of a formula at one place: a comparison of two numbers; a fact that is none (of types, of order among places); either of two
pub data Test : Type 0 where
  compare : Term → Relation → Term → Test
  fact : Bool → Test
  or_else : Test → Test → Test

-- "A constraint that names a dimension or list place that doesn't exist counts as broken" (01)
abbrev pub compares : Term → Relation → Term → Bool
compares (is a) r (is b) = relates r a b
compares (is a) r missing = false
compares missing r b = false

abbrev pub test_holds : Test → Bool
test_holds (compare a r b) = compares a r b
test_holds (fact b) = b
test_holds (or_else t u) = test_holds t || test_holds u

-- the tests at place 0, at place 1, ..; at each place in the order of the formula. A formula without places is at place 0.
abbrev pub Check : Type 0
Check = List (List Test)

abbrev pub tests_hold : List Test → Bool
tests_hold [] = true
tests_hold (t ∷ ts) = test_holds t && tests_hold ts

-- "the constraint holds if the formula evaluates to either true or to a tensor which only has true elements" (000, "Formulas")
abbrev pub check_holds : Check → Bool
check_holds [] = true
check_holds (p ∷ ps) = tests_hold p && check_holds ps

-- the number of the first constraint that doesn't hold, counted from k; 0 where all hold
abbrev pub broken_from : ℕ → List Check → ℕ
broken_from k [] = 0
broken_from k (c ∷ cs) = let rest = broken_from (suc k) cs in pick (check_holds c) rest k

-- 01, refusal 8: "constraint broken", "its C number in 000", "the lowest C number first"; 000 counts from C1
abbrev pub broken_number : List Check → ℕ
broken_number cs = broken_from 1 cs
