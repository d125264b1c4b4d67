-- Element types and shapes beside a relation: what their checks say, and the verifier's tests of them.
-- Assumes nothing.
use mathlib.Core.Path.{◌≡◌, refl, sym, ap, ◌∙◌, subst}
use mathlib.Core.List.{List, [], ◌∷◌}
use mathlib.Core.Bool.{Bool, true}
use Prim.Native.Nat.{ℕ, ◌<◌}
use lib.ListN.{length, get_or}
use lib.Dec.{eqb}
use lib.IntN.{ℤ, pos, nat_abs}
use borrow.Author.Tests.{eqb-true, eq-eqb}
use Rattle.lists.proofs.TestLaw.{both_true}
use Rattle.lists.proofs.TabLaw.{length-tab, get_or-tab}
use Rattle.element.specs.declared.ElementType.{ElementType}
use Rattle.element.specs.declared.ElementType.TheVariants.{I1, I8, I16, I32, I64, U8, U16, U32, U64}
use Rattle.dimrules.specs.Count.{everywhere}
use Rattle.dimrules.specs.Dims.{dim, dim_test}
use Rattle.dimrules.specs.Types.{element_code, same_element, same_shape, same_type, shapes_beside}
use Rattle.dimrules.specs.declared.TensorType.{TensorType}
use Rattle.dimrules.specs.declared.DimTest.TheVariants.{Same}
use Rattle.dimrules.proofs.CountLaw.{holds_at}
use Rattle.checks.specs.Check.{Term, is, missing, equal, fact, check_holds}
use Rattle.checks.specs.Formula.{shape, rank, entries, ◌[=]◌, same_elements, same_types}
use Rattle.checks.specs.Meaning.{Compares}
use Rattle.checks.proofs.CheckLaw.{and-true, same_tests, holds-and, holds-once, everywhere-all}
use Rattle.checks.proofs.ReadingLaw.{lists-true, true-lists}

-- ---- element types

element_of : ℕ → ElementType
element_of n = get_or (I1 ∷ I8 ∷ I16 ∷ I32 ∷ I64 ∷ U8 ∷ U16 ∷ U32 ∷ U64 ∷ []) n I1

back : (e : ElementType) → element_of (element_code e) ≡ e
unfolding element_of
back I1 = refl
back I8 = refl
back I16 = refl
back I32 = refl
back I64 = refl
back U8 = refl
back U16 = refl
back U32 = refl
back U64 = refl

pub same-element : (x y : TensorType) → same_element x y ≡ true → x.element ≡ y.element
unfolding same_element
same-element x y e =
    sym (back x.element) ∙ ap element_of (eqb-true (element_code x.element) (element_code y.element) e) ∙ back y.element

pub elements-true : (x y : TensorType) → check_holds (same_elements x y) ≡ true → x.element ≡ y.element
elements-true x y e = same-element x y (sym (holds-once (fact (same_element x y))) ∙ e)

pub true-elements : (x y : TensorType) → x.element ≡ y.element → check_holds (same_elements x y) ≡ true
unfolding same_element
true-elements x y e = holds-once (fact (same_element x y)) ∙ eq-eqb (element_code x.element) (element_code y.element) (ap element_code e)

-- ---- shapes

-- l[d] of a place that exists
abbrev pub ◌at◌ : List ℤ → ℕ → ℤ
l at d = get_or l d (pos 0)

infixl 80 ◌at◌
-- dim(x, d) of a dimension that exists
abbrev pub dim_of : TensorType → ℕ → ℤ
dim_of x d = pos (dim x.shape d)

pub shape-long : (x : TensorType) → length (shape x) ≡ rank x
shape-long x = length-tab (rank x) (λ e. pos (dim x.shape e))

pub shape_is : (x : TensorType) (d : ℕ) → d < rank x → shape x at d ≡ dim_of x d
shape_is x d h = get_or-tab (rank x) (λ e. pos (dim x.shape e)) d (pos 0) h

-- shape(x) = shape(y) by the verifier's test of each dimension
pub shapes-same : (x y : TensorType) → check_holds (entries (shape x) [=] entries (shape y)) ≡ same_shape x y
unfolding same_shape dim_test
shapes-same x y =
    same_tests _ _
    (λ e.
    let h = lists-true equal (shape x) (shape y) e in
    let q : rank x ≡ rank y = sym (shape-long x) ∙ h.0 ∙ shape-long y in
    and-true (eqb (rank x) (rank y)) (everywhere (rank x) same) (eq-eqb (rank x) (rank y) q)
    (everywhere-all (rank x) same (λ d k.
    eq-eqb (dim x.shape d) (dim y.shape d) (ap nat_abs (sym (shape_is x d k) ∙ h.1 d (rw (shape-long x) k) ∙ shape_is y d (rw (sym q) k))))))
    (λ e.
    let h = both_true (eqb (rank x) (rank y)) (everywhere (rank x) same) e in
    let q : rank x ≡ rank y = eqb-true (rank x) (rank y) h.0 in
    true-lists equal (shape x) (shape y) (shape-long x ∙ q ∙ sym (shape-long y)) (λ d i.
    let k : d < rank x = rw (shape-long x) at i in
    shape_is x d k ∙ ap pos (eqb-true _ _ (holds_at (rank x) same h.1 d k)) ∙ sym (shape_is y d (rw (sym q) k))))
  where
    same : ℕ → Bool
    same = dim_test Same (shapes_beside x y 0)

-- type(x) = type(y)
pub types_same : (x y : TensorType) → check_holds (same_types x y) ≡ same_type x y
unfolding same_type
types_same x y =
    holds-and (same_elements x y) (entries (shape x) [=] entries (shape y)) ∙ rw (holds-once (fact (same_element x y)), shapes-same x y) refl

-- ---- an equation with a number that a formula gives

pub equal_is : (a : ℤ) (n : Term) → Compares (is a) equal n → n ≡ is a
equal_is a (is b) e = ap is (sym e)
equal_is a missing e = absurd e

pub is-equal : (a : ℤ) (n : Term) → n ≡ is a → Compares (is a) equal n
is-equal a n e = subst (λ (m : Term). Compares (is a) equal m) (sym e) refl

number_in : Term → ℤ
number_in (is a) = a
number_in missing = pos 0

pub is_same : (a b : ℤ) → is a ≡ is b → a ≡ b
unfolding number_in
is_same a b e = ap number_in e
