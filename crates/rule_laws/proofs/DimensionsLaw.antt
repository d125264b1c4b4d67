-- Lists of dimensions: 0 <= dimensions < rank, is_unique(dimensions), d in dimensions, against the tests of each place.
-- Assumes nothing.
use mathlib.Core.Path.{◌≡◌, refl, sym, ap, ◌∙◌, subst}
use mathlib.Core.List.{List, [], ◌∷◌}
use mathlib.Core.Bool.{Bool, true, false, not}
use Prim.Native.Nat.{ℕ, zero, suc, ◌+◌, ◌≤◌, ◌<◌, suc-le-suc}
use native.Mathlib.Nat.{not-suc-le-zero, le_of_suc-le-suc, zero-lt-suc}
use native.Mathlib.Omega.{arith}
use lib.ListN.{length, get_or, length-take}
use lib.Dec.{ltb, eqb}
use lib.IntN.{ℤ, pos, nat_abs}
use lib.Signed.{le_z, lt_z, ◌≤ℤ◌, ◌<ℤ◌}
use borrow.Author.Tests.{eqb-true, eqb-false, eq-eqb, ne_eqb, ltb-true, ltb-false}
use Rattle.lists.specs.Lists.{pick, first_where}
use Rattle.lists.proofs.TestLaw.{both_true}
use Rattle.lists.proofs.SearchLaw.{first-le, none_passes}
use Rattle.shape.specs.Place.{place_in}
use Rattle.dimrules.specs.Count.{everywhere}
use Rattle.dimrules.specs.Whole.{number_of, below}
use Rattle.shape.specs.Place.{is_in}
use Rattle.dimrules.specs.Dims.{list_of, num, is_first, kept_below, dim_test}
use Rattle.dimrules.specs.declared.Numbers.{Numbers}
use Rattle.dimrules.specs.declared.Sides.{Sides}
use Rattle.dimrules.specs.declared.DimTest.TheVariants.{Below, Unique}
use Rattle.dimrules.proofs.CountLaw.{holds_at}
use Rattle.checks.specs.Check.{less, at_most, check_holds}
use Rattle.checks.specs.Formula.{ints, int, nat, entries, ◌[<]◌, ◌[≤]◌, indexes, member_of, is_unique}
use Rattle.checks.proofs.CheckLaw.{and-true, same_tests, everywhere-all}
use Rattle.checks.proofs.MeaningLaw.{related, unrelated, and-true-both, both-and-true}
use Rattle.checks.proofs.ReadingLaw.{int-list-true, true-int-list, list-int-true, true-list-int, unique-true, true-unique}
use Rattle.checks.proofs.AxesLaw.{among_none, among-some, left_below}
use Rattle.checks.proofs.TypeLaw.{◌at◌}
use Rattle.rule_laws.proofs.IntsLaw.{ints-long, ints_at, number-pos}

-- ---- 0 <= dimensions < rank, and is_unique(dimensions)

module _ (s : Sides) where
  abbrev l : List ℤ
  l = ints s.a

  abbrev n : ℕ
  n = s.a.count

  pub indexes-same : check_holds (indexes l s.k) ≡ everywhere n (dim_test Below s)
  unfolding dim_test below
  indexes-same =
      same_tests _ _
      (λ e.
      let h = and-true-both (int (pos 0) [≤] entries l) (entries l [<] nat s.k) e in
      everywhere-all n (dim_test Below s) (λ d k.
      let i : d < length l = rw (ints-long s.a) k in
      let q : number_of (num s.a d) ≡ l at d = sym (ints_at s.a d k) in
      rw q (and-true (le_z (pos 0) (l at d)) (lt_z (l at d) (pos s.k))
      (unrelated at_most (pos 0) (l at d) (int-list-true at_most (pos 0) l h.0 d i))
      (unrelated less (l at d) (pos s.k) (list-int-true less l (pos s.k) h.1 d i)))))
      (λ e.
      both-and-true (int (pos 0) [≤] entries l) (entries l [<] nat s.k)
      (true-int-list at_most (pos 0) l (λ d i. (at_place e d (rw (ints-long s.a) at i)).0))
      (true-list-int less l (pos s.k) (λ d i. (at_place e d (rw (ints-long s.a) at i)).1)))
    where
      at_place : everywhere n (dim_test Below s) ≡ true → (d : ℕ) → d < n → (pos 0 ≤ℤ l at d) × (l at d <ℤ pos s.k)
      at_place e d k =
          let m = both_true (le_z (pos 0) (number_of (num s.a d))) (lt_z (number_of (num s.a d)) (pos s.k)) (holds_at n (dim_test Below s) e d k) in
          rw (ints_at s.a d k) (related at_most (pos 0) (number_of (num s.a d)) m.0, related less (number_of (num s.a d)) (pos s.k) m.1)

  -- a list of dimensions is one of plain numbers
  pub plain : check_holds (indexes l s.k) ≡ true → (d : ℕ) → d < n → number_of (num s.a d) ≡ pos (num s.a d)
  plain e d k =
      let h = and-true-both (int (pos 0) [≤] entries l) (entries l [<] nat s.k) e in
      number-pos (num s.a d) (subst (λ (z : ℤ). pos 0 ≤ℤ z) (ints_at s.a d k) (int-list-true at_most (pos 0) l h.0 d (rw (ints-long s.a) k)))

-- ---- d in dimensions

first_passes : (t : ℕ → Bool) (l : List ℕ) → first_where t l < length l → t (get_or l (first_where t l) 0) ≡ true
unfolding first_where
first_passes t [] h = absurd (not-suc-le-zero h)
first_passes t (y ∷ l) h = by-test (t y) refl h (first_passes t l)
  where
    by-test : (b : Bool) → t y ≡ b → pick b 0 (suc (first_where t l)) < suc (length l) → (first_where t l < length l → t (get_or l (first_where t l) 0) ≡ true) →
        t (get_or (y ∷ l) (pick b 0 (suc (first_where t l))) 0) ≡ true
    by-test true q h ih = q
    by-test false q h ih = ih (le_of_suc-le-suc h)

-- the first element that passes
pub first-is : (t : ℕ → Bool) (l : List ℕ) (d : ℕ) → d < length l → ((i : ℕ) → i < d → t (get_or l i 0) ≡ false) → t (get_or l d 0) ≡ true → first_where t l ≡ d
unfolding first_where
first-is t [] d h f e = absurd (not-suc-le-zero h)
first-is t (y ∷ l) zero h f e = rw e
first-is t (y ∷ l) (suc d) h f e = rw (f zero (zero-lt-suc d)) (ap suc (first-is t l d (le_of_suc-le-suc h) (λ i k. f (suc i) (suc-le-suc k)) e))

pub list-long : (a : Numbers) → a.count ≤ length a.list → length (list_of a) ≡ a.count
list-long a few = rw (length-take a.count a.list) (omega arith)

-- is_unique(dimensions), of numbers that differ as whole numbers where they differ
module _ (s : Sides) (few : s.a.count ≤ length s.a.list)
    (apart : (d e : ℕ) → d < s.a.count → e < s.a.count → number_of (num s.a d) ≡ number_of (num s.a e) → num s.a d ≡ num s.a e) where
  pub unique-same : check_holds (is_unique (ints s.a)) ≡ everywhere s.a.count (dim_test Unique s)
  unfolding dim_test is_first
  unique-same =
      same_tests _ _
      (λ e. everywhere-all s.a.count (dim_test Unique s) (λ d k.
      eq-eqb (place_in (list_of s.a) (num s.a d)) d (first-is (λ y. eqb y (num s.a d)) (list_of s.a) d (rw (list-long s.a few) k)
      (λ i j. ne_eqb (num s.a i) (num s.a d) (λ q.
      unique-true (ints s.a) e i d j (rw (ints-long s.a) k) (ints_at s.a i (less_lem i d j k) ∙ ap number_of q ∙ sym (ints_at s.a d k))))
      (eq-eqb (num s.a d) (num s.a d) refl))))
      (λ e. true-unique (ints s.a) (λ d f j m q.
      let k : f < s.a.count = rw (ints-long s.a) at m in
      let i : d < s.a.count = less_lem d f j k in
      let y : number_of (num s.a d) ≡ number_of (num s.a f) = sym (ints_at s.a d i) ∙ q ∙ ints_at s.a f k in
      let place : (p : ℕ) → p < s.a.count → place_in (list_of s.a) (num s.a p) ≡ p =
      λ p o. eqb-true (place_in (list_of s.a) (num s.a p)) p (holds_at s.a.count (dim_test Unique s) e p o) in
      let u : d ≡ f = sym (place d i) ∙ ap (place_in (list_of s.a)) (apart d f i k y) ∙ place f k in
      let w : ⊥ = omega arith in
      w))
    where
      less_lem : (i d : ℕ) → i < d → d < s.a.count → i < s.a.count
      less_lem i d j k = omega arith

module _ (s : Sides) (few : s.a.count ≤ length s.a.list) (inside : check_holds (indexes (ints s.a) s.k) ≡ true) where
  long : length (list_of s.a) ≡ s.a.count
  long = list-long s.a few

  -- numbers from 0 up differ as whole numbers where they differ
  pub plain-apart : (d e : ℕ) → d < s.a.count → e < s.a.count → number_of (num s.a d) ≡ number_of (num s.a e) → num s.a d ≡ num s.a e
  plain-apart d e k m q = ap nat_abs (sym (plain s inside d k) ∙ q ∙ plain s inside e m)

  pub among-is : (d : ℕ) → member_of (pos d) (ints s.a) ≡ is_in (list_of s.a) d
  among-is d = by-test (ltb (place_in (list_of s.a) d) s.a.count) refl ∙ ap (ltb (place_in (list_of s.a) d)) (sym long)
    where
      p : ℕ
      p = place_in (list_of s.a) d

      by-test : (b : Bool) → ltb (place_in (list_of s.a) d) s.a.count ≡ b → member_of (pos d) (ints s.a) ≡ b
      by-test true q =
          let h : place_in (list_of s.a) d < s.a.count = ltb-true (place_in (list_of s.a) d) s.a.count q in
          let e : num s.a (place_in (list_of s.a) d) ≡ d = eqb-true _ _ (first_passes (λ y. eqb y d) (list_of s.a) (rw long h)) in
          among-some (pos d) (ints s.a) (place_in (list_of s.a) d) (rw (ints-long s.a) h) (ints_at s.a (place_in (list_of s.a) d) h ∙ plain s inside (place_in (list_of s.a) d) h ∙ ap pos e)
      by-test false q =
          let h : s.a.count ≤ place_in (list_of s.a) d = ltb-false (place_in (list_of s.a) d) s.a.count q in
          let g : place_in (list_of s.a) d ≤ length (list_of s.a) = first-le (λ y. eqb y d) (list_of s.a) in
          let w : place_in (list_of s.a) d ≡ length (list_of s.a) = (let z = long in omega arith) in
          among_none (pos d) (ints s.a) (λ i m r.
          let k : i < s.a.count = rw (ints-long s.a) at m in
          let e : num s.a i ≡ d = ap nat_abs (sym (ints_at s.a i k ∙ plain s inside i k) ∙ r) in
          eqb-false (num s.a i) d (none_passes (λ y. eqb y d) (list_of s.a) i w (rw long k)) e)

  pub kept-is-left : (d : ℕ) → kept_below s.a d ≡ left_below (ints s.a) d
  unfolding kept_below
  kept-is-left zero = refl
  kept-is-left (suc d) = rw (← among-is d) (ap (λ (k : ℕ). k + pick (not (member_of (pos d) (ints s.a))) 1 0) (kept-is-left d))
