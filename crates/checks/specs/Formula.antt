-- The words of 000's formulas ("Notation"): shape, rank, dim, l[i], f(l...), sums, comparisons that broadcast, and, is_unique, range.
-- Assumes nothing.
use Rattle.std.specs.Prelude.{List, [], ◌∷◌, ◌++◌, Bool, false, not, ◌&&◌, ◌||◌, ℕ, zero, suc, ◌-◌, ◌/◌, length, get_or, take, eqb, ℤ, pos, negsuc, neg_ℤ, ◌+ℤ◌, ◌-ℤ◌, ◌*ℤ◌}
use Rattle.std.specs.Int.Signed.{le_z, lt_z}
use Rattle.lists.specs.Lists.{pick, tab}
use Rattle.dimrules.specs.Whole.{eq_int, number_of, ceil_div}
use Rattle.dimrules.specs.Dims.{num, dim}
use Rattle.dimrules.specs.Types.{same_element}
use Rattle.dimrules.specs.declared.TensorType.{TensorType}
use Rattle.dimrules.specs.declared.Numbers.{Numbers}
use Rattle.checks.specs.Check.{Term, is, missing, Relation, equal, less, at_most, Test, compare, fact, Check, check_holds}

-- ---- numbers and lists

-- an attribute list as whole numbers
abbrev pub ints : Numbers → List ℤ
ints a = tab a.count (λ d. number_of (num a d))

-- shape(x)
abbrev pub shape : TensorType → List ℤ
shape x = tab x.shape.rank (λ d. pos (dim x.shape d))

-- rank(x), which is size(shape(x))
abbrev pub rank : TensorType → ℕ
rank x = x.shape.rank

-- l[d] of a place, and of a number that a formula gives
abbrev pub ◌!◌ : List ℤ → ℕ → Term
[] ! d = missing
(z ∷ l) ! zero = is z
(z ∷ l) ! (suc d) = l ! d

infixl 80 ◌!◌
abbrev pub ◌‼◌ : List ℤ → Term → Term
l ‼ is (pos d) = l ! d
l ‼ is (negsuc d) = missing
l ‼ missing = missing

infixl 80 ◌‼◌
-- sums and products of numbers that exist: "whole numbers and never wrap" (01)
abbrev pub lift : (ℤ → ℤ → Term) → Term → Term → Term
lift f (is a) (is b) = f a b
lift f (is a) missing = missing
lift f missing b = missing

abbrev pub ◌⊕◌ : Term → Term → Term
a ⊕ b = lift (λ x y. is (x +ℤ y)) a b

abbrev pub ◌⊖◌ : Term → Term → Term
a ⊖ b = lift (λ x y. is (x -ℤ y)) a b

abbrev pub ◌⊗◌ : Term → Term → Term
a ⊗ b = lift (λ x y. is (x *ℤ y)) a b

infixl 60 ◌⊕◌
infixl 60 ◌⊖◌
infixl 70 ◌⊗◌
-- max(n - 1, 0)
abbrev pub less_one : Term → Term
less_one (is (pos n)) = is (pos (n - 1))
less_one (is (negsuc n)) = is (pos 0)
less_one missing = missing

-- ceil(a / b) of a divisor above 0; no other has one
abbrev pub ceil_z : ℤ → ℤ → Term
ceil_z (pos a) (pos zero) = missing
ceil_z (pos a) (pos (suc b)) = is (pos (ceil_div a (suc b)))
ceil_z (pos a) (negsuc b) = missing
ceil_z (negsuc a) (pos zero) = missing
ceil_z (negsuc a) (pos (suc b)) = is (neg_ℤ (pos (suc a / suc b)))
ceil_z (negsuc a) (negsuc b) = missing

abbrev pub ceil : Term → Term → Term
ceil a b = lift ceil_z a b

-- a list of numbers that a formula works out: how many, and the one at each place
pub record Terms : Type 0 where
  pub count : ℕ
  pub term : ℕ → Term

abbrev pub terms : ℕ → (ℕ → Term) → Terms
terms n f = record { count = n; term = f }

-- dim(x, is...): "for each scalar x in the tensor xs, compute a scalar f(x)" (000, "Formulas")
abbrev pub dims : TensorType → List ℤ → Terms
dims x l = terms (length l) (λ d. shape x ‼ (l ! d))

-- ---- comparisons

-- what stands beside a relation: one number, or a list
pub data Side : Type 0 where
  one : Term → Side
  many : Terms → Side

abbrev pub int : ℤ → Side
int z = one (is z)

abbrev pub nat : ℕ → Side
nat n = one (is (pos n))

abbrev pub entries : List ℤ → Side
entries l = many (terms (length l) (λ d. l ! d))

-- "if a scalar is used in a context where a tensor is expected, the scalar is broadcasted to the expected shape" (000, "Formulas")
abbrev pub side_at : Side → ℕ → Term
side_at (one x) d = x
side_at (many l) d = l.term d

abbrev pub place_count : Side → Side → ℕ
place_count (one x) (one y) = 1
place_count (one x) (many m) = m.count
place_count (many l) b = l.count

-- both formulas: by place, and at a place the first one first
abbrev pub ◌and◌ : Check → Check → Check
[] and c = c
(p ∷ ps) and [] = p ∷ ps
(p ∷ ps) and (q ∷ qs) = (p ++ q) ∷ (ps and qs)

infixl 25 ◌and◌
-- a test that has no place
abbrev pub once : Test → Check
once t = (t ∷ []) ∷ []

-- a test at each of n places
abbrev pub each : ℕ → (ℕ → Test) → Check
each n t = tab n (λ d. t d ∷ [])

-- two lists beside a relation have as many places
abbrev pub lengths : Side → Side → Check
lengths (one x) b = []
lengths (many l) (one y) = []
lengths (many l) (many m) = once (compare (is (pos l.count)) equal (is (pos m.count)))

unfoldable pub compared : Relation → Side → Side → Check
compared r a b = lengths a b and each (place_count a b) (λ d. compare (side_at a d) r (side_at b d))

abbrev pub ◌[=]◌ : Side → Side → Check
a [=] b = compared equal a b

abbrev pub ◌[<]◌ : Side → Side → Check
a [<] b = compared less a b

abbrev pub ◌[≤]◌ : Side → Side → Check
a [≤] b = compared at_most a b

infixl 40 ◌[=]◌
infixl 40 ◌[<]◌
infixl 40 ◌[≤]◌
-- 0 <= l < n
abbrev pub indexes : List ℤ → ℕ → Check
indexes l n = (int (pos 0) [≤] entries l) and (entries l [<] nat n)

-- ---- what is no comparison of two numbers

-- a constraint on what 01 leaves out, as quantized types: it holds
abbrev pub vacuous : Check
vacuous = []

-- a formula taken whole, at one place
abbrev pub whole : Check → Test
whole c = fact (check_holds c)

-- element_type(x) = element_type(y)
abbrev pub same_elements : TensorType → TensorType → Check
same_elements x y = once (fact (same_element x y))

-- type(x) = type(y): one element type and one shape
abbrev pub same_types : TensorType → TensorType → Check
same_types x y = same_elements x y and (entries (shape x) [=] entries (shape y))

-- the number exists
abbrev pub exists : Term → Check
exists (is z) = []
exists missing = once (fact false)

-- z in l
abbrev pub member_of : ℤ → List ℤ → Bool
member_of z [] = false
member_of z (y ∷ l) = eq_int y z || member_of z l

-- is_unique(l): no place repeats an earlier one
abbrev pub new_at : List ℤ → ℕ → Bool
new_at l d = not (member_of (get_or l d (pos 0)) (take d l))

unfoldable pub is_unique : List ℤ → Check
is_unique l = each (length l) (λ d. fact (new_at l d))

-- l is a permutation of range(n): as many numbers, each from 0 to n - 1, none twice
abbrev pub place_below : List ℤ → ℕ → ℕ → Bool
place_below l n d = le_z (pos 0) (get_or l d (pos 0)) && lt_z (get_or l d (pos 0)) (pos n)

unfoldable pub is_permutation : List ℤ → ℕ → Check
is_permutation l n = once (fact (eqb (length l) n)) and each (length l) (λ d. fact (place_below l n d)) and is_unique l

-- ---- lists of dimensions

-- range(n); axes(x) is range(rank(x))
abbrev pub axes : ℕ → List ℤ
axes n = tab n pos

-- [z for z in l and z not in bad]
abbrev pub leaving : List ℤ → List ℤ → List ℤ
leaving [] bad = []
leaving (z ∷ l) bad = let rest = leaving l bad in pick (member_of z bad) rest (z ∷ rest)
