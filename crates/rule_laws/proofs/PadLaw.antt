-- The checks of pad refuse what its tests refuse, with the same C number.
-- Assumes nothing.
use mathlib.Core.Path.{◌≡◌, refl, sym, ap, ◌∙◌, subst}
use mathlib.Core.Bool.{Bool, true, ◌&&◌}
use Prim.Native.Nat.{ℕ, ◌-◌, ◌<◌}
use lib.Dec.{eqb}
use lib.IntN.{ℤ, pos, ◌+ℤ◌, ◌*ℤ◌}
use lib.Signed.{le_z, ◌≤ℤ◌}
use borrow.Author.Tests.{eqb-true, eq-eqb}
use Rattle.lists.proofs.TestLaw.{both_true}
use Rattle.dimrules.specs.Count.{everywhere}
use Rattle.dimrules.specs.Whole.{number_of, eq_int, non_negative, padded_is}
use Rattle.dimrules.specs.Dims.{dim, num, dim_test}
use Rattle.dimrules.specs.Types.{same_element}
use Rattle.dimrules.specs.declared.TensorType.{TensorType}
use Rattle.dimrules.specs.declared.Numbers.{Numbers}
use Rattle.dimrules.specs.declared.DimTest.TheVariants.{NonNegative, Padded}
use Rattle.dimrules.proofs.CountLaw.{holds_at}
use Rattle.rule_laws.specs.Broken.{first_broken}
use Rattle.rule_laws.specs.Broken.{sides_of}
use Rattle.rule_laws.proofs.Tests.{pad_tests}
use Rattle.checks.specs.Check.{Term, is, at_most, fact, check_holds}
use Rattle.checks.specs.Formula.{ints, shape, rank, terms, many, int, entries, ◌and◌, ◌[=]◌, ◌[≤]◌, same_elements}
use Rattle.checks.proofs.CheckLaw.{and-true, same_tests, holds-once, everywhere-all}
use Rattle.checks.proofs.MeaningLaw.{unrelated, and-true-both, both-and-true, eq_int-true, true-eq_int}
use Rattle.checks.proofs.ReadingLaw.{int-list-true, shape-row-true, true-shape-row}
use Rattle.checks.specs.Check.{broken_number}
use Rattle.op_checks.specs.OpChecks.{pad_checks}
use Rattle.checks.proofs.TypeLaw.{dim_of}
use Rattle.rule_laws.proofs.AlikeLaw.{alike-first}
use Rattle.checks.proofs.TypeLaw.{elements-true, true-elements, equal_is, is-equal, is_same}
use Rattle.op_checks.proofs.PieceLaw.{pad_formula, padded-at}
use Rattle.rule_laws.proofs.IntsLaw.{ints-long, ints_at, three-same, counts_of, zero_same}

module _ (x v : TensorType) (low high interior : Numbers) (r : TensorType) where
  elements_same : check_holds (same_elements x v and same_elements v r) ≡ (same_element x v && same_element x r)
  elements_same =
      same_tests _ _
      (λ e.
      let h = and-true-both (same_elements x v) (same_elements v r) e in
      and-true (same_element x v) (same_element x r) (sym (holds-once (fact (same_element x v))) ∙ h.0)
      (sym (holds-once (fact (same_element x r))) ∙ true-elements x r (elements-true x v h.0 ∙ elements-true v r h.1)))
      (λ e.
      let h = both_true (same_element x v) (same_element x r) e in
      let a : check_holds (same_elements x v) ≡ true = holds-once (fact (same_element x v)) ∙ h.0 in
      let b : check_holds (same_elements x r) ≡ true = holds-once (fact (same_element x r)) ∙ h.1 in
      both-and-true (same_elements x v) (same_elements v r) a (true-elements v r (sym (elements-true x v a) ∙ elements-true x r b)))

  nonnegative-at : (d : ℕ) → dim_test NonNegative (sides_of x r 0 low high interior) d ≡ le_z (pos 0) (number_of (num interior d))
  unfolding dim_test non_negative
  nonnegative-at d = refl

  -- C4, under C2 and C3
  padded-same : low.count ≡ rank x → high.count ≡ rank x → interior.count ≡ rank x → check_holds (int (pos 0) [≤] entries (ints interior)) ≡ true →
      check_holds (entries (shape r) [=] many (terms (rank x) (pad_formula x (ints low) (ints high) (ints interior))))
      ≡ (eqb (rank r) (rank x) && everywhere (rank x) (dim_test Padded (sides_of x r 0 low high interior)))
  unfolding dim_test padded_is
  padded-same s l t p =
      same_tests _ _
      (λ e.
      let w = shape-row-true r (rank x) formula e in
      and-true (eqb (rank r) (rank x)) (everywhere (rank x) old) (eq-eqb (rank r) (rank x) w.0)
      (everywhere-all (rank x) old (λ d h.
      and-true (le_z (pos 0) (number_of (num interior d))) (eq_int (dim_of r d) (sum d)) (inside d h)
      (true-eq_int (dim_of r d) (sum d) (sym (is_same _ _ (sym (worth d h) ∙ equal_is (dim_of r d) (formula d) (w.1 d h))))))))
      (λ e.
      let w = both_true (eqb (rank r) (rank x)) (everywhere (rank x) old) e in
      true-shape-row r (rank x) formula (eqb-true (rank r) (rank x) w.0) (λ d h.
      let g = both_true (le_z (pos 0) (number_of (num interior d))) (eq_int (dim_of r d) (sum d)) (holds_at (rank x) old w.1 d h) in
      is-equal (dim_of r d) (formula d) (worth d h ∙ ap is (sym (eq_int-true (dim_of r d) (sum d) g.1)))))
    where
      old : ℕ → Bool
      old = dim_test Padded (sides_of x r 0 low high interior)

      formula : ℕ → Term
      formula = pad_formula x (ints low) (ints high) (ints interior)

      sum : ℕ → ℤ
      sum d = dim_of x d +ℤ number_of (num low d) +ℤ pos (dim x.shape d - 1) *ℤ number_of (num interior d) +ℤ number_of (num high d)

      inside : (d : ℕ) → d < rank x → le_z (pos 0) (number_of (num interior d)) ≡ true
      inside d h = unrelated at_most (pos 0) (number_of (num interior d)) (subst (λ (z : ℤ). pos 0 ≤ℤ z) (ints_at interior d (rw t h)) (int-list-true at_most (pos 0) (ints interior) p d (rw (ints-long interior, t) h)))

      worth : (d : ℕ) → d < rank x → formula d ≡ is (sum d)
      worth d h =
          padded-at x (ints low) (ints high) (ints interior) (ints-long low ∙ s) (ints-long high ∙ l) (ints-long interior ∙ t) d h
          ∙ rw (ints_at low d (rw s h), ints_at high d (rw l h), ints_at interior d (rw t h)) refl

  pub same-pad : broken_number (pad_checks x v (ints low) (ints high) (ints interior) r) ≡ first_broken (pad_tests x v low high interior r)
  unfolding pad_checks pad_tests
  same-pad =
      alike-first (pad_checks x v (ints low) (ints high) (ints interior) r) (pad_tests x v low high interior r) 1 (
        elements_same,
        λ h1. (
          three-same low high interior (rank x),
          λ h2.
              let n = counts_of low high interior (rank x) h2 in (
                zero_same at_most interior (rank x) (dim_test NonNegative (sides_of x r 0 low high interior)) n.2 nonnegative-at,
                λ h3. (
                  padded-same n.0 n.1 n.2 h3,
                  λ h4. tt,
                ),
              ),
        ),
      )
