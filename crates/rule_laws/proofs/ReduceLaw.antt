-- The checks of reduce refuse what its tests refuse, with the same C number.
-- Assumes nothing.
use mathlib.Core.Path.{◌≡◌, refl, sym, ap, ◌∙◌}
use mathlib.Core.List.{List}
use mathlib.Core.Bool.{Bool, true, false, ◌&&◌, ◌||◌}
use Prim.Native.Nat.{ℕ, ◌≤◌, ◌<◌}
use lib.ListN.{length}
use lib.Dec.{eqb}
use lib.IntN.{ℤ, pos, nat_abs}
use borrow.Author.Tests.{eqb-true, eq-eqb}
use Rattle.lists.proofs.TestLaw.{both_true}
use Rattle.dimrules.specs.Count.{everywhere}
use Rattle.shape.specs.Place.{is_in}
use Rattle.dimrules.specs.Dims.{list_of, dim, kept_below, kept_is, dim_test}
use Rattle.dimrules.specs.Types.{same_element}
use Rattle.dimrules.specs.declared.TensorType.{TensorType}
use Rattle.dimrules.specs.declared.Numbers.{Numbers}
use Rattle.dimrules.specs.declared.Sides.{Sides}
use Rattle.dimrules.specs.declared.DimTest.TheVariants.{Kept}
use Rattle.dimrules.proofs.CountLaw.{holds_at}
use Rattle.rule_laws.specs.Broken.{first_broken}
use Rattle.rule_laws.specs.Broken.{sides_of}
use Rattle.rule_laws.proofs.Tests.{reduce_tests}
use Rattle.checks.specs.Check.{Term, is, equal, fact, check_holds}
use Rattle.checks.specs.Formula.{ints, shape, rank, ◌!◌, ◌‼◌, dims, many, nat, entries, ◌and◌, ◌[=]◌, indexes, same_elements, member_of, axes, leaving}
use Rattle.checks.specs.Meaning.{Compares}
use Rattle.checks.proofs.CheckLaw.{and-true, and_assoc, same_tests, holds-and, holds-once, everywhere-all}
use Rattle.checks.proofs.ReadingLaw.{shape-at, shape-row-true, true-shape-row}
use Rattle.checks.proofs.AxesLaw.{left_below, leaving-long, left_less, leaving-at, leaving-from}
use Rattle.checks.specs.Check.{broken_number}
use Rattle.op_checks.specs.OpChecks.{reduce_checks}
use Rattle.checks.proofs.TypeLaw.{dim_of}
use Rattle.rule_laws.proofs.AlikeLaw.{alike-first}
use Rattle.checks.proofs.TypeLaw.{equal_is, is-equal, is_same}
use Rattle.rule_laws.proofs.DimensionsLaw.{indexes-same, unique-same, plain-apart, among-is, kept-is-left}
use Rattle.rule_laws.proofs.TypesLaw.{nats-same}

module _ (x v a b : TensorType) (p : Numbers) (r : TensorType) (few : p.count ≤ length p.list) where
  abbrev sides : Sides
  sides = sides_of x r (rank x) p p p

  body_same : check_holds (same_elements x a and (nat (rank a) [=] nat 0) and same_elements x b and (nat (rank b) [=] nat 0))
      ≡ ((same_element x a && eqb (rank a) 0) && (same_element x b && eqb (rank b) 0))
  body_same =
      rw (
        holds-and (same_elements x a and (nat (rank a) [=] nat 0) and same_elements x b) (nat (rank b) [=] nat 0),
        holds-and (same_elements x a and (nat (rank a) [=] nat 0)) (same_elements x b),
        holds-and (same_elements x a) (nat (rank a) [=] nat 0),
        nats-same (rank a) 0,
        nats-same (rank b) 0,
        holds-once (fact (same_element x a)),
        holds-once (fact (same_element x b)),
      )
      (sym (and_assoc (same_element x a && eqb (rank a) 0) (same_element x b) (eqb (rank b) 0)))

  kept_same : check_holds (indexes (ints p) (rank x)) ≡ true →
      check_holds (entries (shape r) [=] many (dims x (leaving (axes (rank x)) (ints p))))
      ≡ (eqb (rank r) (kept_below p (rank x)) && everywhere (rank x) (dim_test Kept sides))
  unfolding dim_test kept_is
  kept_same inside =
      same_tests _ _
      (λ e.
      let w = shape-row-true r (length lv) formula e in
      and-true (eqb (rank r) (kept_below p (rank x))) (everywhere (rank x) old) (eq-eqb (rank r) (kept_below p (rank x)) (w.0 ∙ leaving-long (ints p) (rank x) ∙ sym (kept (rank x))))
      (everywhere-all (rank x) old (λ d k. by-list d k w.1 (is_in (list_of p) d) refl)))
      (λ e.
      let w = both_true (eqb (rank r) (kept_below p (rank x))) (everywhere (rank x) old) e in
      true-shape-row r (length lv) formula (eqb-true (rank r) (kept_below p (rank x)) w.0 ∙ kept (rank x) ∙ sym (leaving-long (ints p) (rank x))) (λ j i.
      let z = leaving-from (ints p) (rank x) j (rw (leaving-long (ints p) (rank x)) at i) in
      let q : is_in (list_of p) z.0 ≡ false = sym (among-is sides few inside z.0) ∙ z.2 in
      let g : dim x.shape z.0 ≡ dim r.shape (kept_below p z.0) = eqb-true _ _ (or-false (is_in (list_of p) z.0) _ q (holds_at (rank x) old w.1 z.0 z.1)) in
      let y : kept_below p z.0 ≡ j = kept z.0 ∙ z.3 in
      is-equal (dim_of r j) (formula j) (ap (λ (m : ℕ). formula m) (sym z.3) ∙ worth z.0 z.1 z.2 ∙ ap (λ (m : ℕ). is (pos m)) (g ∙ ap (dim r.shape) y))))
    where
      old : ℕ → Bool
      old = dim_test Kept sides

      lv : List ℤ
      lv = leaving (axes (rank x)) (ints p)

      formula : ℕ → Term
      formula j = shape x ‼ (lv ! j)

      kept : (d : ℕ) → kept_below p d ≡ left_below (ints p) d
      kept d = kept-is-left sides few inside d

      worth : (d : ℕ) → d < rank x → member_of (pos d) (ints p) ≡ false → formula (left_below (ints p) d) ≡ is (dim_of x d)
      worth d k q = rw (leaving-at (ints p) (rank x) d k q) (shape-at x d k)

      or-false : (c e : Bool) → c ≡ false → c || e ≡ true → e ≡ true
      or-false c e q h = rw q at h

      by-list : (d : ℕ) → d < rank x → ((j : ℕ) → j < length lv → Compares (is (dim_of r j)) equal (formula j)) → (c : Bool) → is_in (list_of p) d ≡ c →
          is_in (list_of p) d || eqb (dim x.shape d) (dim r.shape (kept_below p d)) ≡ true
      by-list d k f true q = rw q refl
      by-list d k f false q =
          let m : member_of (pos d) (ints p) ≡ false = among-is sides few inside d ∙ q in
          let j : left_below (ints p) d < length lv = rw (leaving-long (ints p) (rank x)) (left_less (ints p) (rank x) d k m) in
          let g : dim_of x d ≡ dim_of r (left_below (ints p) d) = is_same _ _ (sym (worth d k m) ∙ equal_is (dim_of r (left_below (ints p) d)) (formula (left_below (ints p) d)) (f (left_below (ints p) d) j)) in
          rw (q, kept d) (eq-eqb _ _ (ap nat_abs g))

  pub same-reduce : broken_number (reduce_checks x v a b (ints p) r) ≡ first_broken (reduce_tests x v a b p r)
  unfolding reduce_checks reduce_tests
  same-reduce =
      alike-first (reduce_checks x v a b (ints p) r) (reduce_tests x v a b p r) 1 (
        refl,
        λ h1. (
          holds-once (fact (same_element x v)),
          λ h2. (
            refl,
            λ h3. (
              indexes-same sides,
              λ h4. (
                unique-same sides few (plain-apart sides few h4),
                λ h5. (
                  body_same,
                  λ h6. (
                    kept_same h4,
                    λ h7. (
                      holds-once (fact (same_element x r)),
                      λ h8. tt,
                    ),
                  ),
                ),
              ),
            ),
          ),
        ),
      )
