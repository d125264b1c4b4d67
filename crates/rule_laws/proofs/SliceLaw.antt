-- The checks of slice refuse what its tests refuse, with the same C number: line by line, each under the lines before it.
-- Assumes nothing.
use mathlib.Core.Path.{◌≡◌, refl, sym, ap, ◌∙◌, subst, subst₂}
use mathlib.Core.Bool.{Bool, true, ◌&&◌, false≢true}
use Prim.Native.Nat.{ℕ, ◌-◌, ◌≤◌, ◌<◌}
use lib.Dec.{ltb, eqb, leb-zero}
use lib.IntN.{ℤ, pos, negsuc, nat_abs}
use lib.Signed.{le_z, lt_z, ◌≤ℤ◌, ◌<ℤ◌}
use borrow.Author.Tests.{eqb-true, eq-eqb, lt-ltb, leb-true}
use Rattle.lists.proofs.TestLaw.{both_true}
use Rattle.dimrules.specs.Count.{everywhere}
use Rattle.dimrules.specs.Whole.{number_of, ceil_div, in_order, positive, ceiling_is}
use Rattle.dimrules.specs.Dims.{dim, num, dim_test}
use Rattle.dimrules.specs.Types.{same_element}
use Rattle.dimrules.specs.declared.TensorType.{TensorType}
use Rattle.dimrules.specs.declared.Numbers.{Numbers}
use Rattle.dimrules.specs.declared.DimTest.TheVariants.{InOrder, Positive, Ceiling}
use Rattle.dimrules.proofs.CountLaw.{holds_at}
use Rattle.rule_laws.specs.Broken.{first_broken}
use Rattle.rule_laws.specs.Broken.{sides_of}
use Rattle.rule_laws.proofs.Tests.{slice_tests}
use Rattle.checks.specs.Check.{Term, is, less, at_most, fact, check_holds}
use Rattle.checks.specs.Formula.{ints, shape, rank, ◌!◌, ◌⊖◌, ceil, terms, many, int, entries, ◌[=]◌, ◌[<]◌}
use Rattle.checks.proofs.CheckLaw.{and-true, same_tests, holds-once, everywhere-all}
use Rattle.checks.proofs.MeaningLaw.{related, unrelated}
use Rattle.checks.proofs.ReadingLaw.{int-list-true, shape-row-true, true-shape-row}
use Rattle.checks.specs.Check.{broken_number}
use Rattle.op_checks.specs.OpChecks.{slice_checks}
use Rattle.checks.proofs.TypeLaw.{◌at◌, dim_of}
use Rattle.rule_laws.proofs.AlikeLaw.{alike-first}
use Rattle.checks.proofs.TypeLaw.{equal_is, is-equal, is_same}
use Rattle.op_checks.proofs.PieceLaw.{ordered, ordered-true, true-ordered, ceiling-at}
use Rattle.rule_laws.proofs.IntsLaw.{ints-long, ints_at, number-pos, number-positive, ceil-nats, three-same, counts_of, zero_same}

module _ (x : TensorType) (start limit strides : Numbers) (r : TensorType) where
  pub order_same : start.count ≡ rank x → limit.count ≡ rank x →
      check_holds (ordered x (ints start) (ints limit)) ≡ everywhere (rank x) (dim_test InOrder (sides_of x r 0 start limit strides))
  unfolding dim_test in_order
  order_same s l =
      same_tests _ _
      (λ e. everywhere-all (rank x) (dim_test InOrder (sides_of x r 0 start limit strides)) (λ d h.
      let f = ordered-true x (ints start) (ints limit) (ints-long start ∙ s) (ints-long limit ∙ l) e d h in
      let a : number_of (num start d) ≡ ints start at d = sym (ints_at start d (rw s h)) in
      let b : number_of (num limit d) ≡ ints limit at d = sym (ints_at limit d (rw l h)) in
      rw (a, b) (and-true (le_z (pos 0) (ints start at d) && le_z (ints start at d) (ints limit at d)) (le_z (ints limit at d) (dim_of x d))
      (and-true (le_z (pos 0) (ints start at d)) (le_z (ints start at d) (ints limit at d)) (unrelated at_most (pos 0) (ints start at d) f.0) (unrelated at_most (ints start at d) (ints limit at d) f.1))
      (unrelated at_most (ints limit at d) (dim_of x d) f.2))))
      (λ e. true-ordered x (ints start) (ints limit) (ints-long start ∙ s) (ints-long limit ∙ l) (λ d h.
      let g = holds_at (rank x) (dim_test InOrder (sides_of x r 0 start limit strides)) e d h in
      let u = both_true (le_z (pos 0) (number_of (num start d)) && le_z (number_of (num start d)) (number_of (num limit d))) (le_z (number_of (num limit d)) (dim_of x d)) g in
      let v = both_true (le_z (pos 0) (number_of (num start d))) (le_z (number_of (num start d)) (number_of (num limit d))) u.0 in
      rw (ints_at start d (rw s h), ints_at limit d (rw l h)) (
        related at_most (pos 0) (number_of (num start d)) v.0,
        related at_most (number_of (num start d)) (number_of (num limit d)) v.1,
        related at_most (number_of (num limit d)) (dim_of x d) u.1,
      )))

  positive-at : (d : ℕ) → dim_test Positive (sides_of x r 0 start limit strides) d ≡ lt_z (pos 0) (number_of (num strides d))
  unfolding dim_test positive
  positive-at d = refl

  -- C5, under C2, C3 and C4
  ceiling-same : start.count ≡ rank x → limit.count ≡ rank x → strides.count ≡ rank x →
      check_holds (ordered x (ints start) (ints limit)) ≡ true → check_holds (int (pos 0) [<] entries (ints strides)) ≡ true →
      check_holds (entries (shape r) [=] many (terms (rank x) (λ d. ceil (ints limit ! d ⊖ ints start ! d) (ints strides ! d))))
      ≡ (eqb (rank r) (rank x) && everywhere (rank x) (dim_test Ceiling (sides_of x r 0 start limit strides)))
  unfolding dim_test ceiling_is
  ceiling-same s l t o p =
      same_tests _ _
      (λ e.
      let w = shape-row-true r (rank x) formula e in
      and-true (eqb (rank r) (rank x)) (everywhere (rank x) old) (eq-eqb (rank r) (rank x) w.0)
      (everywhere-all (rank x) old (λ d h.
      let m : dim r.shape d ≡ ceil_div (num limit d - num start d) (num strides d) =
      sym (ap nat_abs (is_same _ _ (sym (worth d h) ∙ equal_is (dim_of r d) (formula d) (w.1 d h)))) in
      and-true (ltb 0 (num strides d)) (eqb (dim r.shape d) (ceil_div (num limit d - num start d) (num strides d)))
      (lt-ltb 0 (num strides d) (stride d h).1) (eq-eqb _ _ m))))
      (λ e.
      let w = both_true (eqb (rank r) (rank x)) (everywhere (rank x) old) e in
      true-shape-row r (rank x) formula (eqb-true (rank r) (rank x) w.0) (λ d h.
      let g = both_true (ltb 0 (num strides d)) (eqb (dim r.shape d) (ceil_div (num limit d - num start d) (num strides d))) (holds_at (rank x) old w.1 d h) in
      is-equal (dim_of r d) (formula d) (worth d h ∙ ap (λ (k : ℕ). is (pos k)) (sym (eqb-true _ _ g.1)))))
    where
      old : ℕ → Bool
      old = dim_test Ceiling (sides_of x r 0 start limit strides)

      formula : ℕ → Term
      formula d = ceil (ints limit ! d ⊖ ints start ! d) (ints strides ! d)

      order : (d : ℕ) → d < rank x → (pos 0 ≤ℤ ints start at d) × (ints start at d ≤ℤ ints limit at d) × (ints limit at d ≤ℤ dim_of x d)
      order = ordered-true x (ints start) (ints limit) (ints-long start ∙ s) (ints-long limit ∙ l) o

      first : (d : ℕ) → d < rank x → number_of (num start d) ≡ pos (num start d)
      first d h = number-pos (num start d) (subst (λ (z : ℤ). pos 0 ≤ℤ z) (ints_at start d (rw s h)) (order d h).0)

      stride : (d : ℕ) → d < rank x → (number_of (num strides d) ≡ pos (num strides d)) × (0 < num strides d)
      stride d h = number-positive (num strides d) (subst (λ (z : ℤ). pos 0 <ℤ z) (ints_at strides d (rw t h)) (int-list-true less (pos 0) (ints strides) p d (rw (ints-long strides, t) h)))

      above : (a : ℕ) (z : ℤ) → pos a ≤ℤ z → pos 0 ≤ℤ z
      above a (pos b) h = related at_most (pos 0) (pos b) (leb-zero b)
      above a (negsuc b) h = absurd (false≢true (unrelated at_most (pos a) (negsuc b) h))

      middle : (d : ℕ) → d < rank x → pos (num start d) ≤ℤ number_of (num limit d)
      middle d h = subst₂ (λ (y z : ℤ). y ≤ℤ z) (ints_at start d (rw s h) ∙ first d h) (ints_at limit d (rw l h)) (order d h).1

      last : (d : ℕ) → d < rank x → number_of (num limit d) ≡ pos (num limit d)
      last d h = number-pos (num limit d) (above (num start d) (number_of (num limit d)) (middle d h))

      up : (d : ℕ) → d < rank x → num start d ≤ num limit d
      up d h = leb-true (num start d) (num limit d) (unrelated at_most (pos (num start d)) (pos (num limit d)) (subst (λ (z : ℤ). pos (num start d) ≤ℤ z) (last d h) (middle d h)))

      worth : (d : ℕ) → d < rank x → formula d ≡ is (pos (ceil_div (num limit d - num start d) (num strides d)))
      worth d h =
          ceiling-at x (ints start) (ints limit) (ints strides) (ints-long start ∙ s) (ints-long limit ∙ l) (ints-long strides ∙ t) d h
          ∙ rw (ints_at start d (rw s h), ints_at limit d (rw l h), ints_at strides d (rw t h), first d h, last d h, (stride d h).0) (ceil-nats (num limit d) (num start d) (num strides d) (up d h) (stride d h).1)

  pub same-slice : broken_number (slice_checks x (ints start) (ints limit) (ints strides) r) ≡ first_broken (slice_tests x start limit strides r)
  unfolding slice_checks slice_tests
  same-slice =
      alike-first (slice_checks x (ints start) (ints limit) (ints strides) r) (slice_tests x start limit strides r) 1 (
        holds-once (fact (same_element x r)),
        λ h1. (
          three-same start limit strides (rank x),
          λ h2.
              let n = counts_of start limit strides (rank x) h2 in (
                order_same n.0 n.1,
                λ h3. (
                  zero_same less strides (rank x) (dim_test Positive (sides_of x r 0 start limit strides)) n.2 positive-at,
                  λ h4. (
                    ceiling-same n.0 n.1 n.2 h3 h4,
                    λ h5. tt,
                  ),
                ),
              ),
        ),
      )
