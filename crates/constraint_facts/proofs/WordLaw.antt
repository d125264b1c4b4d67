-- The words of the constraints, both ways: what a check of types, shapes, sizes and lists of dimensions says.
-- Assumes nothing.
use mathlib.Core.Path.{◌≡◌, refl, sym, ap, ◌∙◌, subst}
use mathlib.Core.List.{List}
use mathlib.Core.Logic.{◌⊎◌, inl, inr}
use mathlib.Core.Bool.{true}
use Prim.Native.Nat.{ℕ, ◌≤◌, ◌<◌}
use native.Mathlib.Nat.{zero-lt-suc}
use native.Mathlib.Decide.{dec_lt}
use native.Mathlib.Omega.{arith}
use lib.Dec.{eqb}
use lib.IntN.{ℤ, pos, negsuc, nat_abs}
use borrow.Author.Tests.{eq-eqb}
use Rattle.dimrules.specs.Count.{everywhere}
use Rattle.dimrules.specs.Dims.{dim, dim_test}
use Rattle.dimrules.specs.Types.{same_element, same_shape, same_type, shapes_beside}
use Rattle.dimrules.specs.declared.TensorType.{TensorType}
use Rattle.dimrules.specs.declared.DimTest.TheVariants.{Same}
use Rattle.rules.specs.Facts.{AlikeShapes, AlikeTypes}
use Rattle.rules.proofs.FactLaw.{same-shape, same-type}
use Rattle.checks.specs.Check.{Term, is, equal, less, at_most, Test, compare, fact, or_else, check_holds}
use Rattle.checks.specs.Formula.{shape, rank, ◌‼◌, int, nat, entries, ◌and◌, once, whole, indexes, same_types, ◌[=]◌, ◌[<]◌, ◌[≤]◌}
use Rattle.checks.specs.Meaning.{Compares}
use Rattle.checks.proofs.CheckLaw.{and-true, holds-once, everywhere-all}
use Rattle.checks.proofs.MeaningLaw.{passes-true, true-passes, compared-true, true-compared, and-true-both, both-and-true}
use Rattle.checks.proofs.ReadingLaw.{at-past, shape-at, nats-true, true-nats, int-list-true, true-int-list, list-int-true, true-list-int}
use Rattle.checks.proofs.TypeLaw.{true-elements, shape-long, shapes-same, types_same}
use Rattle.constraint_facts.specs.OpFacts.{IsIndex, AreIndexes, IsDim}

-- ---- shapes and types

-- below one rank, so below the same rank
pub below-same : {m n : ℕ} (d : ℕ) → m ≡ n → d < m → d < n
below-same d q h = omega arith

pub shapes-true : (x y : TensorType) → check_holds (entries (shape x) [=] entries (shape y)) ≡ true → AlikeShapes x.shape y.shape
shapes-true x y e = same-shape x y (sym (shapes-same x y) ∙ e)

shape-test : (x y : TensorType) → AlikeShapes x.shape y.shape → same_shape x y ≡ true
unfolding same_shape dim_test
shape-test x y f =
    and-true (eqb (rank x) (rank y)) (everywhere (rank x) (dim_test Same (shapes_beside x y 0))) (eq-eqb (rank x) (rank y) f.rank)
    (everywhere-all (rank x) (dim_test Same (shapes_beside x y 0)) (λ d k. eq-eqb (dim x.shape d) (dim y.shape d) (f.dims d k)))

pub true-shapes : (x y : TensorType) → AlikeShapes x.shape y.shape → check_holds (entries (shape x) [=] entries (shape y)) ≡ true
true-shapes x y f = shapes-same x y ∙ shape-test x y f

pub element-test : (x y : TensorType) → x.element ≡ y.element → same_element x y ≡ true
element-test x y e = sym (holds-once (fact (same_element x y))) ∙ true-elements x y e

pub type-test : (x y : TensorType) → AlikeTypes x y → same_type x y ≡ true
unfolding same_type
type-test x y f = and-true (same_element x y) (same_shape x y) (element-test x y f.element) (shape-test x y f.shape)

pub types-true : (x y : TensorType) → check_holds (same_types x y) ≡ true → AlikeTypes x y
types-true x y e = same-type x y (sym (types_same x y) ∙ e)

pub true-types : (x y : TensorType) → AlikeTypes x y → check_holds (same_types x y) ≡ true
true-types x y f = types_same x y ∙ type-test x y f

-- rank(x) = 0 or shape(x) = shape(y)
module _ (x y : TensorType) where
  abbrev scalar_or : Test
  scalar_or = or_else (compare (is (pos (rank x))) equal (is (pos 0))) (whole (entries (shape x) [=] entries (shape y)))

  pub scalar-true : check_holds (once scalar_or) ≡ true → (rank x ≡ 0) ⊎ AlikeShapes x.shape y.shape
  scalar-true e = by_way (passes-true scalar_or (sym (holds-once scalar_or) ∙ e))
    where
      by_way : (pos (rank x) ≡ pos 0) ⊎ (check_holds (entries (shape x) [=] entries (shape y)) ≡ true) → (rank x ≡ 0) ⊎ AlikeShapes x.shape y.shape
      by_way (inl q) = inl (ap nat_abs q)
      by_way (inr q) = inr (shapes-true x y q)

  pub true-scalar : (rank x ≡ 0) ⊎ AlikeShapes x.shape y.shape → check_holds (once scalar_or) ≡ true
  true-scalar f = holds-once scalar_or ∙ true-passes scalar_or (by_way f)
    where
      by_way : (rank x ≡ 0) ⊎ AlikeShapes x.shape y.shape → (pos (rank x) ≡ pos 0) ⊎ (check_holds (entries (shape x) [=] entries (shape y)) ≡ true)
      by_way (inl q) = inl (ap pos q)
      by_way (inr q) = inr (true-shapes x y q)

-- ---- sizes

pub two-true : (a b n : ℕ) → check_holds ((nat a [=] nat b) and (nat b [=] nat n)) ≡ true → (a ≡ b) × (b ≡ n)
two-true a b n e =
    let h = and-true-both (nat a [=] nat b) (nat b [=] nat n) e in
    (nats-true a b h.0, nats-true b n h.1)

pub true-two : (a b n : ℕ) → (a ≡ b) × (b ≡ n) → check_holds ((nat a [=] nat b) and (nat b [=] nat n)) ≡ true
true-two a b n h = both-and-true (nat a [=] nat b) (nat b [=] nat n) (true-nats a b h.0) (true-nats b n h.1)

pub three-true : (a b c n : ℕ) → check_holds ((nat a [=] nat b) and (nat b [=] nat c) and (nat c [=] nat n)) ≡ true → (a ≡ b) × (b ≡ c) × (c ≡ n)
three-true a b c n e =
    let h = and-true-both ((nat a [=] nat b) and (nat b [=] nat c)) (nat c [=] nat n) e in
    let g = two-true a b c h.0 in
    (g.0, g.1, nats-true c n h.1)

pub true-three : (a b c n : ℕ) → (a ≡ b) × (b ≡ c) × (c ≡ n) → check_holds ((nat a [=] nat b) and (nat b [=] nat c) and (nat c [=] nat n)) ≡ true
true-three a b c n h =
    both-and-true ((nat a [=] nat b) and (nat b [=] nat c)) (nat c [=] nat n) (true-two a b c (h.0, h.1)) (true-nats c n h.2)

-- ---- dimensions

pub index-true : (z : ℤ) (n : ℕ) → check_holds ((int (pos 0) [≤] int z) and (int z [<] nat n)) ≡ true → IsIndex z n
index-true z n e =
    let h = and-true-both (int (pos 0) [≤] int z) (int z [<] nat n) e in
    ((compared-true at_most (int (pos 0)) (int z) h.0).1 0 (zero-lt-suc 0), (compared-true less (int z) (nat n) h.1).1 0 (zero-lt-suc 0))

pub true-index : (z : ℤ) (n : ℕ) → IsIndex z n → check_holds ((int (pos 0) [≤] int z) and (int z [<] nat n)) ≡ true
true-index z n f =
    both-and-true (int (pos 0) [≤] int z) (int z [<] nat n)
    (true-compared at_most (int (pos 0)) (int z) (tt, λ d l. f.0)) (true-compared less (int z) (nat n) (tt, λ d l. f.1))

pub indexes-true : (l : List ℤ) (n : ℕ) → check_holds (indexes l n) ≡ true → AreIndexes l n
indexes-true l n e d k =
    let h = and-true-both (int (pos 0) [≤] entries l) (entries l [<] nat n) e in
    (int-list-true at_most (pos 0) l h.0 d k, list-int-true less l (pos n) h.1 d k)

pub true-indexes : (l : List ℤ) (n : ℕ) → AreIndexes l n → check_holds (indexes l n) ≡ true
true-indexes l n f =
    both-and-true (int (pos 0) [≤] entries l) (entries l [<] nat n) (true-int-list at_most (pos 0) l (λ d k. (f d k).0)) (true-list-int less l (pos n) (λ d k. (f d k).1))

-- a = dim(x, z): a dimension that doesn't exist breaks it (01)
pub dim-true : (a : ℤ) (x : TensorType) (z : ℤ) → Compares (is a) equal (shape x ‼ is z) → IsDim a x z
dim-true a x (negsuc p) e = absurd e
dim-true a x (pos p) e = by_place (dec_lt p (rank x))
  where
    by_place : Dec (p < rank x) → IsDim a x (pos p)
    by_place (yes h) = (p, refl, h, subst (λ (n : Term). Compares (is a) equal n) (shape-at x p h) e)
    by_place (no h) =
        let g : rank x ≤ p = omega arith in
        absurd (subst (λ (n : Term). Compares (is a) equal n) (at-past (shape x) p (rw (shape-long x) g)) e)

pub true-dim : (a : ℤ) (x : TensorType) (z : ℤ) → IsDim a x z → Compares (is a) equal (shape x ‼ is z)
true-dim a x z f =
    subst (λ (n : Term). Compares (is a) equal n) (sym (ap (λ (i : ℤ). shape x ‼ is i) f.1 ∙ shape-at x f.0 f.2)) f.3
