-- The checks of transpose refuse what its tests refuse, with the same C number.
-- Assumes nothing.
use mathlib.Core.Path.{◌≡◌, refl, sym, ap, ◌∙◌, subst}
use mathlib.Core.Bool.{Bool, true, ◌&&◌}
use Prim.Native.Nat.{ℕ, ◌≤◌, ◌<◌}
use native.Mathlib.Omega.{arith}
use lib.ListN.{length, length-take}
use lib.Dec.{eqb}
use lib.IntN.{ℤ, pos, nat_abs}
use lib.Signed.{le_z, lt_z, ◌≤ℤ◌, ◌<ℤ◌}
use borrow.Author.Tests.{eqb-true, eq-eqb, ne_eqb, ltb-true}
use Rattle.lists.proofs.TestLaw.{both_true}
use Rattle.shape.specs.Place.{place_in}
use Rattle.dimrules.specs.Count.{everywhere}
use Rattle.dimrules.specs.Whole.{number_of, below}
use Rattle.dimrules.specs.Dims.{list_of, dim, num, is_first, dim_test}
use Rattle.dimrules.specs.Types.{same_element}
use Rattle.dimrules.specs.declared.TensorType.{TensorType}
use Rattle.dimrules.specs.declared.Numbers.{Numbers}
use Rattle.dimrules.specs.declared.DimTest.TheVariants.{Below, Unique, Moved}
use Rattle.dimrules.proofs.CountLaw.{holds_at}
use Rattle.rule_laws.specs.Broken.{first_broken}
use Rattle.rule_laws.specs.Broken.{sides_of}
use Rattle.rule_laws.proofs.Tests.{transpose_tests}
use Rattle.checks.specs.Check.{Term, is, less, at_most, fact, check_holds}
use Rattle.checks.specs.Formula.{ints, shape, rank, ◌!◌, ◌‼◌, dims, many, entries, ◌[=]◌, is_permutation}
use Rattle.checks.proofs.CheckLaw.{and-true, same_tests, holds-once, everywhere-all}
use Rattle.checks.proofs.MeaningLaw.{related, unrelated}
use Rattle.checks.proofs.ReadingLaw.{shape-row-true, true-shape-row, permutation-true, true-permutation}
use Rattle.checks.specs.Check.{broken_number}
use Rattle.op_checks.specs.OpChecks.{transpose_checks}
use Rattle.checks.proofs.TypeLaw.{◌at◌, dim_of}
use Rattle.rule_laws.proofs.AlikeLaw.{alike-first}
use Rattle.checks.proofs.TypeLaw.{equal_is, is-equal, is_same}
use Rattle.op_checks.proofs.PieceLaw.{moved_at}
use Rattle.rule_laws.proofs.DimensionsLaw.{first-is}
use Rattle.rule_laws.proofs.IntsLaw.{ints-long, ints_at, number-pos}

module _ (x : TensorType) (p : Numbers) (r : TensorType) where
  abbrev sides : Rattle.dimrules.specs.declared.Sides.Sides
  sides = sides_of x r (rank x) p p p

  abbrev old_order : Bool
  old_order = eqb p.count (rank x) && everywhere (rank x) (dim_test Below sides) && everywhere (rank x) (dim_test Unique sides)

  permutation_same : p.count ≤ length p.list → check_holds (is_permutation (ints p) (rank x)) ≡ old_order
  unfolding dim_test below is_first
  permutation_same few =
      same_tests _ _
      (λ e.
      let h = permutation-true (ints p) (rank x) e in
      let c : p.count ≡ rank x = sym (ints-long p) ∙ h.0 in
      and-true (eqb p.count (rank x) && everywhere (rank x) (dim_test Below sides)) (everywhere (rank x) (dim_test Unique sides))
      (and-true (eqb p.count (rank x)) (everywhere (rank x) (dim_test Below sides)) (eq-eqb p.count (rank x) c)
      (everywhere-all (rank x) (dim_test Below sides) (λ d k.
      let q : number_of (num p d) ≡ ints p at d = sym (ints_at p d (rw c k)) in
      rw q (and-true (le_z (pos 0) (ints p at d)) (lt_z (ints p at d) (pos (rank x))) (unrelated at_most (pos 0) (ints p at d) (h.1 d k).0) (unrelated less (ints p at d) (pos (rank x)) (h.1 d k).1)))))
      (everywhere-all (rank x) (dim_test Unique sides) (λ d k.
      eq-eqb (place_in (list_of p) (num p d)) d (first-is (λ y. eqb y (num p d)) (list_of p) d (long d (rw c k))
      (λ i j. ne_eqb (num p i) (num p d) (λ q. h.2 i d j k (ints_at p i (less_lem i d j (rw c k)) ∙ ap number_of q ∙ sym (ints_at p d (rw c k)))))
      (eq-eqb (num p d) (num p d) refl)))))
      (λ e.
      let a = both_true (eqb p.count (rank x) && everywhere (rank x) (dim_test Below sides)) (everywhere (rank x) (dim_test Unique sides)) e in
      let b = both_true (eqb p.count (rank x)) (everywhere (rank x) (dim_test Below sides)) a.0 in
      let c : p.count ≡ rank x = eqb-true p.count (rank x) b.0 in
      let place : (m : ℕ) → m < rank x → place_in (list_of p) (num p m) ≡ m = λ m o. eqb-true (place_in (list_of p) (num p m)) m (holds_at (rank x) (dim_test Unique sides) a.1 m o) in
      true-permutation (ints p) (rank x) (ints-long p ∙ c)
      (λ d k.
      let m = both_true (le_z (pos 0) (number_of (num p d))) (lt_z (number_of (num p d)) (pos (rank x))) (holds_at (rank x) (dim_test Below sides) b.1 d k) in
      rw (ints_at p d (rw c k)) (related at_most (pos 0) (number_of (num p d)) m.0, related less (number_of (num p d)) (pos (rank x)) m.1))
      (λ d f j k q.
      let i : d < rank x = less_lem d f j k in
      let y : number_of (num p d) ≡ number_of (num p f) = sym (ints_at p d (rw c i)) ∙ q ∙ ints_at p f (rw c k) in
      let z : num p d ≡ num p f = ap nat_abs (sym (plain c b.1 d i) ∙ y ∙ plain c b.1 f k) in
      let u : d ≡ f = sym (place d i) ∙ ap (place_in (list_of p)) z ∙ place f k in
      let w : ⊥ = omega arith in
      w))
    where
      less_lem : (i d : ℕ) → i < d → {n : ℕ} → d < n → i < n
      less_lem i d j k = omega arith

      long : (d : ℕ) → d < p.count → d < length (list_of p)
      long d k = rw (length-take p.count p.list) (omega arith)

      plain : p.count ≡ rank x → everywhere (rank x) (dim_test Below sides) ≡ true → (d : ℕ) → d < rank x → number_of (num p d) ≡ pos (num p d)
      plain c b d k = number-pos (num p d) (related at_most (pos 0) (number_of (num p d)) (both_true (le_z (pos 0) (number_of (num p d))) (lt_z (number_of (num p d)) (pos (rank x))) (holds_at (rank x) (dim_test Below sides) b d k)).0)

  moved_same : check_holds (is_permutation (ints p) (rank x)) ≡ true →
      check_holds (entries (shape r) [=] many (dims x (ints p))) ≡ (eqb (rank r) (rank x) && everywhere (rank x) (dim_test Moved sides))
  unfolding dim_test
  moved_same q =
      same_tests _ _
      (λ e.
      let w = shape-row-true r (length (ints p)) formula e in
      and-true (eqb (rank r) (rank x)) (everywhere (rank x) old) (eq-eqb (rank r) (rank x) (w.0 ∙ h.0))
      (everywhere-all (rank x) old (λ d k.
      eq-eqb (dim r.shape d) (dim x.shape (num p d))
      (sym (ap nat_abs (is_same _ _ (sym (worth d k) ∙ equal_is (dim_of r d) (formula d) (w.1 d (rw h.0 k)))))))))
      (λ e.
      let w = both_true (eqb (rank r) (rank x)) (everywhere (rank x) old) e in
      true-shape-row r (length (ints p)) formula (eqb-true (rank r) (rank x) w.0 ∙ sym h.0) (λ d j.
      let k : d < rank x = rw h.0 at j in
      is-equal (dim_of r d) (formula d) (worth d k ∙ ap (λ (n : ℕ). is (pos n)) (sym (eqb-true _ _ (holds_at (rank x) old w.1 d k))))))
    where
      old : ℕ → Bool
      old = dim_test Moved sides

      formula : ℕ → Term
      formula d = shape x ‼ (ints p ! d)

      h : (length (ints p) ≡ rank x) × ((d : ℕ) → d < rank x → (pos 0 ≤ℤ ints p at d) × (ints p at d <ℤ pos (rank x))) × ((d e : ℕ) → d < e → e < rank x → ints p at d ≡ ints p at e → ⊥)
      h = permutation-true (ints p) (rank x) q

      plain : (d : ℕ) → d < rank x → ints p at d ≡ pos (num p d)
      plain d k =
          let c : d < p.count = rw (sym (ints-long p) ∙ h.0) k in
          ints_at p d c ∙ number-pos (num p d) (subst (λ (z : ℤ). pos 0 ≤ℤ z) (ints_at p d c) (h.1 d k).0)

      worth : (d : ℕ) → d < rank x → formula d ≡ is (dim_of x (num p d))
      worth d k = moved_at x (ints p) d (num p d) (rw h.0 k) (plain d k)
          (ltb-true (num p d) (rank x) (unrelated less (pos (num p d)) (pos (rank x)) (subst (λ (z : ℤ). z <ℤ pos (rank x)) (plain d k) (h.1 d k).1)))

  pub same-transpose : p.count ≤ length p.list → broken_number (transpose_checks x (ints p) r) ≡ first_broken (transpose_tests x p r)
  unfolding transpose_checks transpose_tests
  same-transpose few =
      alike-first (transpose_checks x (ints p) r) (transpose_tests x p r) 1 (
        holds-once (fact (same_element x r)),
        λ h1. (
          permutation_same few,
          λ h2. (
            moved_same h2,
            λ h3. (refl, tt),
          ),
        ),
      )
