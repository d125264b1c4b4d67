-- The checks of broadcast_in_dim refuse what its tests refuse, with the same C number.
-- Assumes nothing.
use mathlib.Core.Path.{◌≡◌, refl, sym, ap, ◌∙◌, subst}
use mathlib.Core.Bool.{true, ◌||◌}
use Prim.Native.Nat.{ℕ, ◌≤◌, ◌<◌}
use lib.ListN.{length}
use lib.Dec.{eqb}
use lib.IntN.{ℤ, pos}
use lib.Signed.{◌<ℤ◌}
use borrow.Author.Tests.{eqb-true, eq-eqb, ltb-true}
use Rattle.dimrules.specs.Count.{everywhere}
use Rattle.dimrules.specs.Dims.{dim, num, dim_test}
use Rattle.dimrules.specs.Types.{same_element}
use Rattle.dimrules.specs.declared.TensorType.{TensorType}
use Rattle.dimrules.specs.declared.Numbers.{Numbers}
use Rattle.dimrules.specs.declared.Sides.{Sides}
use Rattle.dimrules.specs.declared.DimTest.TheVariants.{Stretched}
use Rattle.rule_laws.specs.Broken.{first_broken}
use Rattle.rule_laws.specs.Broken.{sides_of}
use Rattle.rule_laws.proofs.Tests.{broadcast_tests}
use Rattle.checks.specs.Check.{is, equal, less, Test, compare, fact, or_else, test_holds, check_holds}
use Rattle.checks.specs.Formula.{ints, shape, rank, ◌!◌, ◌‼◌, int, nat, entries, each, ◌[=]◌, ◌[<]◌, ◌[≤]◌, indexes}
use Rattle.checks.proofs.CheckLaw.{same_tests, holds-once, holds-each, everywhere-cong}
use Rattle.checks.proofs.MeaningLaw.{unrelated, and-true-both}
use Rattle.checks.proofs.ReadingLaw.{at-inside, shape-at, nats-true, true-nats, list-int-true}
use Rattle.checks.specs.Check.{broken_number}
use Rattle.op_checks.specs.OpChecks.{broadcast_checks}
use Rattle.checks.proofs.TypeLaw.{◌at◌}
use Rattle.rule_laws.proofs.AlikeLaw.{alike-first}
use Rattle.rule_laws.proofs.IntsLaw.{ints-long, ints_at}
use Rattle.rule_laws.proofs.DimensionsLaw.{indexes-same, plain, unique-same, plain-apart}

module _ (x : TensorType) (p : Numbers) (r : TensorType) (few : p.count ≤ length p.list) where
  abbrev to_result : Sides
  to_result = sides_of x r (rank r) p p p

  abbrev stretch : ℕ → Test
  stretch d = or_else (compare (shape x ! d) equal (is (pos 1))) (compare (shape x ! d) equal (shape r ‼ (ints p ! d)))

  stretched-same : p.count ≡ rank x → check_holds (indexes (ints p) (rank r)) ≡ true → check_holds (each (rank x) stretch) ≡ everywhere (rank x) (dim_test Stretched to_result)
  unfolding dim_test
  stretched-same c inside = holds-each (rank x) stretch ∙ everywhere-cong (rank x) (λ d. test_holds (stretch d)) (dim_test Stretched to_result) at_place
    where
      at_place : (d : ℕ) → d < rank x → test_holds (stretch d) ≡ (eqb (dim x.shape d) 1 || eqb (dim x.shape d) (dim r.shape (num p d)))
      at_place d k =
          let i : d < p.count = rw c k in
          let q : ints p ! d ≡ is (pos (num p d)) = at-inside (ints p) d (rw (ints-long p) i) ∙ ap is (ints_at p d i ∙ plain to_result inside d i) in
          let h = and-true-both (int (pos 0) [≤] entries (ints p)) (entries (ints p) [<] nat (rank r)) inside in
          let b : ints p at d <ℤ pos (rank r) = list-int-true less (ints p) (pos (rank r)) h.1 d (rw (ints-long p) i) in
          let m : num p d < rank r = ltb-true (num p d) (rank r) (unrelated less (pos (num p d)) (pos (rank r)) (subst (λ (z : ℤ). z <ℤ pos (rank r)) (ints_at p d i ∙ plain to_result inside d i) b)) in
          rw (q, shape-at x d k, shape-at r (num p d) m) refl

  pub same-broadcast : broken_number (broadcast_checks x (ints p) r) ≡ first_broken (broadcast_tests x p r)
  unfolding broadcast_checks broadcast_tests
  same-broadcast =
      alike-first (broadcast_checks x (ints p) r) (broadcast_tests x p r) 1 (
        holds-once (fact (same_element x r)),
        λ h1. (
          count_same,
          λ h2. (
            indexes-same to_result,
            λ h3. (
              unique-same to_result few (plain-apart to_result few h3),
              λ h4. (
                stretched-same (sym (ints-long p) ∙ nats-true (length (ints p)) (rank x) h2) h3,
                λ h5. (refl, tt),
              ),
            ),
          ),
        ),
      )
    where
      count_same : check_holds (nat (length (ints p)) [=] nat (rank x)) ≡ eqb p.count (rank x)
      count_same = same_tests _ _ (λ e. eq-eqb p.count (rank x) (sym (ints-long p) ∙ nats-true (length (ints p)) (rank x) e)) (λ e. true-nats (length (ints p)) (rank x) (ints-long p ∙ eqb-true p.count (rank x) e))
