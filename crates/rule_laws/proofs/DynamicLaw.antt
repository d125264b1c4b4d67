-- The checks of dynamic_slice refuse what its tests refuse, with the same C number.
-- Assumes nothing.
use mathlib.Core.Path.{◌≡◌, refl, sym, ap, ◌∙◌, subst}
use mathlib.Core.List.{List}
use mathlib.Core.Bool.{true, ◌&&◌}
use Prim.Native.Nat.{ℕ, ◌+◌, ◌-◌, ◌<◌}
use native.Mathlib.Omega.{arith}
use lib.ListN.{length}
use lib.Dec.{eqb}
use lib.IntN.{ℤ, pos, negsuc, nat_abs}
use lib.Signed.{le_z, ◌≤ℤ◌}
use borrow.Author.Tests.{eqb-true, eq-eqb, le-leb}
use Rattle.lists.proofs.TestLaw.{both_true}
use Rattle.lists.proofs.TabLaw.{length-tab, get_or-tab}
use Rattle.dimrules.specs.Count.{everywhere}
use Rattle.dimrules.specs.Whole.{number_of, in_order}
use Rattle.dimrules.specs.Dims.{dim, num, dim_test}
use Rattle.dimrules.specs.Types.{no_type, type_at, same_element, type_test, operand_test, all_types}
use Rattle.dimrules.specs.declared.TensorType.{TensorType}
use Rattle.dimrules.specs.declared.Numbers.{Numbers}
use Rattle.dimrules.specs.declared.Sides.{Sides}
use Rattle.dimrules.specs.declared.DimTest.TheVariants.{InOrder, SizeIs}
use Rattle.dimrules.specs.declared.TypeTest.TheVariants.{SameType}
use Rattle.dimrules.proofs.CountLaw.{holds_at}
use Rattle.rule_laws.specs.Broken.{first_broken}
use Rattle.rule_laws.specs.Broken.{sides_of}
use Rattle.rule_laws.proofs.Tests.{dynamic_slice_tests}
use Rattle.checks.specs.Check.{equal, at_most, fact, check_holds}
use Rattle.checks.specs.Formula.{ints, shape, rank, int, nat, entries, ◌and◌, each, whole, same_types, ◌[=]◌, ◌[≤]◌}
use Rattle.checks.proofs.CheckLaw.{and-true, same_tests, holds-once, holds-each, everywhere-all, everywhere-cong}
use Rattle.checks.proofs.MeaningLaw.{related, unrelated, and-true-both, both-and-true}
use Rattle.checks.proofs.ReadingLaw.{nats-true, true-nats, int-list-true, true-int-list, lists-true, true-lists}
use Rattle.checks.specs.Check.{broken_number}
use Rattle.op_checks.specs.OpChecks.{types_from, dynamic_slice_checks}
use Rattle.checks.proofs.TypeLaw.{◌at◌, dim_of, types_same}
use Rattle.rule_laws.proofs.AlikeLaw.{alike-first}
use Rattle.rule_laws.proofs.IntsLaw.{ints-long, ints_at, number-pos}

le_int-refl : (z : ℤ) → le_z z z ≡ true
le_int-refl (pos a) = le-leb a a (omega arith)
le_int-refl (negsuc a) = le-leb a a (omega arith)

module _ (types : List TensorType) (arity : ℕ) (sizes : Numbers) (r : TensorType) where
  abbrev x : TensorType
  x = type_at types 0

  abbrev l : List ℤ
  l = ints sizes

  abbrev starts : List TensorType
  starts = types_from types 1 (arity - 1)

  abbrev sides : Sides
  sides = sides_of x r 0 sizes sizes sizes

  starts-long : length starts ≡ arity - 1
  starts-long = length-tab (arity - 1) (λ j. type_at types (1 + j))

  sizes-same : check_holds ((nat (length starts) [=] nat (length l)) and (nat (length l) [=] nat (rank x))) ≡ (eqb (arity - 1) (rank x) && eqb sizes.count (rank x))
  sizes-same =
      same_tests _ _
      (λ e.
      let h = and-true-both (nat (length starts) [=] nat (length l)) (nat (length l) [=] nat (rank x)) e in
      let b : length l ≡ rank x = nats-true (length l) (rank x) h.1 in
      and-true (eqb (arity - 1) (rank x)) (eqb sizes.count (rank x)) (eq-eqb (arity - 1) (rank x) (sym starts-long ∙ nats-true (length starts) (length l) h.0 ∙ b)) (eq-eqb sizes.count (rank x) (sym (ints-long sizes) ∙ b)))
      (λ e.
      let h = both_true (eqb (arity - 1) (rank x)) (eqb sizes.count (rank x)) e in
      let b : length l ≡ rank x = ints-long sizes ∙ eqb-true sizes.count (rank x) h.1 in
      both-and-true (nat (length starts) [=] nat (length l)) (nat (length l) [=] nat (rank x))
      (true-nats (length starts) (length l) (starts-long ∙ eqb-true (arity - 1) (rank x) h.0 ∙ sym b)) (true-nats (length l) (rank x) b))

  start-at : (j : ℕ) → j < arity - 1 → type_at starts j ≡ type_at types (1 + j)
  start-at j h = get_or-tab (arity - 1) (λ i. type_at types (1 + i)) j no_type h

  starts-same : check_holds (each (length starts) (λ j. whole (same_types (type_at starts 0) (type_at starts j)))) ≡ all_types SameType 0 (type_at types 1) types 1 (arity - 1)
  unfolding all_types type_test
  starts-same =
      holds-each (length starts) (λ j. whole (same_types (type_at starts 0) (type_at starts j)))
      ∙ ap (λ (n : ℕ). everywhere n (λ j. check_holds (same_types (type_at starts 0) (type_at starts j)))) starts-long
      ∙ everywhere-cong (arity - 1) (λ j. check_holds (same_types (type_at starts 0) (type_at starts j))) (operand_test SameType 0 (type_at types 1) types 1)
      (λ j h. types_same (type_at starts 0) (type_at starts j) ∙ rw (start-at j h, start-at 0 (omega arith)) refl)

  within_same : sizes.count ≡ rank x → check_holds ((int (pos 0) [≤] entries l) and (entries l [≤] entries (shape x))) ≡ everywhere (rank x) (dim_test InOrder sides)
  unfolding dim_test in_order
  within_same c =
      same_tests _ _
      (λ e.
      let h = and-true-both (int (pos 0) [≤] entries l) (entries l [≤] entries (shape x)) e in
      everywhere-all (rank x) (dim_test InOrder sides) (λ d k.
      let i : d < length l = rw (ints-long sizes, c) k in
      let q : number_of (num sizes d) ≡ l at d = sym (ints_at sizes d (rw c k)) in
      let m : l at d ≤ℤ dim_of x d = subst (λ (z : ℤ). l at d ≤ℤ z) (shape_is d k) ((lists-true at_most l (shape x) h.1).1 d i) in
      rw q (and-true (le_z (pos 0) (l at d) && le_z (l at d) (l at d)) (le_z (l at d) (dim_of x d))
      (and-true (le_z (pos 0) (l at d)) (le_z (l at d) (l at d)) (unrelated at_most (pos 0) (l at d) (int-list-true at_most (pos 0) l h.0 d i)) (le_int-refl (l at d)))
      (unrelated at_most (l at d) (dim_of x d) m))))
      (λ e.
      both-and-true (int (pos 0) [≤] entries l) (entries l [≤] entries (shape x))
      (true-int-list at_most (pos 0) l (λ d i. (at_place e d (rw (ints-long sizes ∙ c) at i)).0))
      (true-lists at_most l (shape x) (ints-long sizes ∙ c ∙ sym (length-tab (rank x) (λ i. pos (dim x.shape i)))) (λ d i.
      let k : d < rank x = rw (ints-long sizes ∙ c) at i in
      subst (λ (z : ℤ). l at d ≤ℤ z) (sym (shape_is d k)) (at_place e d k).1)))
    where
      shape_is : (d : ℕ) → d < rank x → shape x at d ≡ dim_of x d
      shape_is d k = get_or-tab (rank x) (λ i. pos (dim x.shape i)) d (pos 0) k

      at_place : everywhere (rank x) (dim_test InOrder sides) ≡ true → (d : ℕ) → d < rank x → (pos 0 ≤ℤ l at d) × (l at d ≤ℤ dim_of x d)
      at_place e d k =
          let z = number_of (num sizes d) in
          let u = both_true (le_z (pos 0) z && le_z z z) (le_z z (dim_of x d)) (holds_at (rank x) (dim_test InOrder sides) e d k) in
          let v = both_true (le_z (pos 0) z) (le_z z z) u.0 in
          rw (ints_at sizes d (rw c k)) (related at_most (pos 0) z v.0, related at_most z (dim_of x d) u.1)

  sized_same : sizes.count ≡ rank x → check_holds ((int (pos 0) [≤] entries l) and (entries l [≤] entries (shape x))) ≡ true →
      check_holds (entries (shape r) [=] entries l) ≡ (eqb (rank r) (rank x) && everywhere (rank x) (dim_test SizeIs sides))
  unfolding dim_test
  sized_same c w =
      same_tests _ _
      (λ e.
      let h = lists-true equal (shape r) l e in
      let q : rank r ≡ rank x = sym long ∙ h.0 ∙ ints-long sizes ∙ c in
      and-true (eqb (rank r) (rank x)) (everywhere (rank x) (dim_test SizeIs sides)) (eq-eqb (rank r) (rank x) q)
      (everywhere-all (rank x) (dim_test SizeIs sides) (λ d k.
      let i : d < rank r = rw q k in
      eq-eqb (dim r.shape d) (num sizes d) (ap nat_abs (sym (result-at d i) ∙ h.1 d (rw long i) ∙ plain d k)))))
      (λ e.
      let h = both_true (eqb (rank r) (rank x)) (everywhere (rank x) (dim_test SizeIs sides)) e in
      let q : rank r ≡ rank x = eqb-true (rank r) (rank x) h.0 in
      true-lists equal (shape r) l (long ∙ q ∙ sym (ints-long sizes ∙ c)) (λ d m.
      let i : d < rank r = rw long at m in
      let k : d < rank x = rw q at i in
      result-at d i ∙ ap pos (eqb-true _ _ (holds_at (rank x) (dim_test SizeIs sides) h.1 d k)) ∙ sym (plain d k)))
    where
      long : length (shape r) ≡ rank r
      long = length-tab (rank r) (λ i. pos (dim r.shape i))

      result-at : (d : ℕ) → d < rank r → shape r at d ≡ dim_of r d
      result-at d i = get_or-tab (rank r) (λ j. pos (dim r.shape j)) d (pos 0) i

      plain : (d : ℕ) → d < rank x → l at d ≡ pos (num sizes d)
      plain d k =
          let i : d < sizes.count = rw c k in
          let h = and-true-both (int (pos 0) [≤] entries l) (entries l [≤] entries (shape x)) w in
          ints_at sizes d i ∙ number-pos (num sizes d) (subst (λ (z : ℤ). pos 0 ≤ℤ z) (ints_at sizes d i) (int-list-true at_most (pos 0) l h.0 d (rw (ints-long sizes) i)))

  pub same-dynamic-slice : broken_number (dynamic_slice_checks (type_at types 0) (types_from types 1 (arity - 1)) (ints sizes) r) ≡ first_broken (dynamic_slice_tests types arity sizes r)
  unfolding dynamic_slice_checks dynamic_slice_tests
  same-dynamic-slice =
      alike-first (dynamic_slice_checks (type_at types 0) (types_from types 1 (arity - 1)) (ints sizes) r) (dynamic_slice_tests types arity sizes r) 1 (
        holds-once (fact (same_element x r)),
        λ h1. (
          sizes-same,
          λ h2.
              let c : sizes.count ≡ rank x = sym (ints-long sizes) ∙ nats-true (length l) (rank x) (and-true-both (nat (length starts) [=] nat (length l)) (nat (length l) [=] nat (rank x)) h2).1 in (
                starts-same,
                λ h3. (
                  within_same c,
                  λ h4. (
                    sized_same c h4,
                    λ h5. tt,
                  ),
                ),
              ),
        ),
      )
