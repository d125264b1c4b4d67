-- Lists beside a relation, both ways: what a check of two lists, or of a number and a list, says place by place. Uniqueness and order.
-- Assumes nothing.
use mathlib.Core.Path.{◌≡◌, refl, sym, ap, ◌∙◌, subst, subst₂}
use mathlib.Core.List.{List, [], ◌∷◌}
use mathlib.Core.Bool.{Bool, true, false, ◌||◌, false≢true, true≢false}
use Prim.Native.Nat.{ℕ, zero, suc, ◌≤◌, ◌<◌, suc-le-suc}
use native.Mathlib.Nat.{not-suc-le-zero, le_of_suc-le-suc, zero-lt-suc}
use native.Mathlib.Omega.{arith}
use lib.ListN.{length, get_or, take}
use lib.Dec.{eqb}
use lib.IntN.{ℤ, pos, negsuc, nat_abs}
use lib.Signed.{le_z, lt_z, ◌≤ℤ◌, ◌<ℤ◌}
use borrow.Author.Tests.{eqb-true, eq-eqb, ltb-true, not-true}
use Rattle.lists.proofs.TestLaw.{both_true}
use Rattle.lists.proofs.TabLaw.{length-tab, get_or-tab}
use Rattle.dimrules.specs.Whole.{eq_int}
use Rattle.dimrules.specs.Dims.{dim}
use Rattle.dimrules.specs.declared.TensorType.{TensorType}
use Rattle.checks.specs.Check.{Term, is, missing, Relation, equal, less, at_most, Test, fact, check_holds}
use Rattle.checks.specs.Formula.{shape, rank, ◌!◌, terms, many, int, nat, entries, compared, once, each, ◌and◌, ◌[=]◌, member_of, new_at, is_unique, place_below, is_permutation}
use Rattle.checks.specs.Meaning.{Related, Compares}
use Rattle.checks.proofs.CheckLaw.{and-true, holds-once, each_all, all-each}
use Rattle.checks.proofs.MeaningLaw.{eq_int-true, true-eq_int, related, unrelated, compared-true, true-compared, and-true-both, both-and-true}

-- ---- reading a place

pub at-inside : (l : List ℤ) (d : ℕ) → d < length l → l ! d ≡ is (get_or l d (pos 0))
at-inside [] d h = absurd (not-suc-le-zero h)
at-inside (z ∷ l) zero h = refl
at-inside (z ∷ l) (suc d) h = at-inside l d (le_of_suc-le-suc h)

-- "A constraint that names a dimension or list place that doesn't exist counts as broken" (01)
pub at-past : (l : List ℤ) (d : ℕ) → length l ≤ d → l ! d ≡ missing
at-past [] d h = refl
at-past (z ∷ l) zero h = absurd (not-suc-le-zero h)
at-past (z ∷ l) (suc d) h = at-past l d (le_of_suc-le-suc h)

pub shape-at : (x : TensorType) (d : ℕ) → d < rank x → shape x ! d ≡ is (pos (dim x.shape d))
shape-at x d h =
    at-inside (shape x) d (rw (length-tab (rank x) (λ (e : ℕ). pos (dim x.shape e))) h)
    ∙ ap is (get_or-tab (rank x) (λ e. pos (dim x.shape e)) d (pos 0) h)

-- ---- two numbers

pub nats-true : (a b : ℕ) → check_holds (nat a [=] nat b) ≡ true → a ≡ b
nats-true a b e = let q : pos a ≡ pos b = (compared-true equal (nat a) (nat b) e).1 0 (zero-lt-suc 0) in ap nat_abs q

pub true-nats : (a b : ℕ) → a ≡ b → check_holds (nat a [=] nat b) ≡ true
true-nats a b q = true-compared equal (nat a) (nat b) (tt, λ d l. ap pos q)

-- ---- a number and a list

pub int-list-true : (r : Relation) (z : ℤ) (l : List ℤ) → check_holds (compared r (int z) (entries l)) ≡ true → (d : ℕ) → d < length l → Related r z (get_or l d (pos 0))
int-list-true r z l e d h = subst (λ (n : Term). Compares (is z) r n) (at-inside l d h) ((compared-true r (int z) (entries l) e).1 d h)

pub true-int-list : (r : Relation) (z : ℤ) (l : List ℤ) → ((d : ℕ) → d < length l → Related r z (get_or l d (pos 0))) → check_holds (compared r (int z) (entries l)) ≡ true
true-int-list r z l f = true-compared r (int z) (entries l) (tt, λ d h. subst (λ (n : Term). Compares (is z) r n) (sym (at-inside l d h)) (f d h))

pub list-int-true : (r : Relation) (l : List ℤ) (z : ℤ) → check_holds (compared r (entries l) (int z)) ≡ true → (d : ℕ) → d < length l → Related r (get_or l d (pos 0)) z
list-int-true r l z e d h = subst (λ (n : Term). Compares n r (is z)) (at-inside l d h) ((compared-true r (entries l) (int z) e).1 d h)

pub true-list-int : (r : Relation) (l : List ℤ) (z : ℤ) → ((d : ℕ) → d < length l → Related r (get_or l d (pos 0)) z) → check_holds (compared r (entries l) (int z)) ≡ true
true-list-int r l z f = true-compared r (entries l) (int z) (tt, λ d h. subst (λ (n : Term). Compares n r (is z)) (sym (at-inside l d h)) (f d h))

-- ---- two lists

pub lists-true : (r : Relation) (l m : List ℤ) → check_holds (compared r (entries l) (entries m)) ≡ true →
    (length l ≡ length m) × ((d : ℕ) → d < length l → Related r (get_or l d (pos 0)) (get_or m d (pos 0)))
lists-true r l m e =
    let b = compared-true r (entries l) (entries m) e in (
      b.0,
      λ d h.
          let g : d < length m = subst (λ (n : ℕ). d < n) b.0 h in
          subst₂ (λ (x y : Term). Compares x r y) (at-inside l d h) (at-inside m d g) (b.1 d h),
    )

pub true-lists : (r : Relation) (l m : List ℤ) → length l ≡ length m → ((d : ℕ) → d < length l → Related r (get_or l d (pos 0)) (get_or m d (pos 0))) →
    check_holds (compared r (entries l) (entries m)) ≡ true
true-lists r l m q f =
    true-compared r (entries l) (entries m) (
      q,
      λ d h.
          let g : d < length m = subst (λ (n : ℕ). d < n) q h in
          subst₂ (λ (x y : Term). Compares x r y) (sym (at-inside l d h)) (sym (at-inside m d g)) (f d h),
    )

-- ---- a shape and what a formula works out

pub shape-row-true : (x : TensorType) (n : ℕ) (f : ℕ → Term) → check_holds (entries (shape x) [=] many (terms n f)) ≡ true →
    (rank x ≡ n) × ((d : ℕ) → d < n → Compares (is (pos (dim x.shape d))) equal (f d))
shape-row-true x n f e =
    let b = compared-true equal (entries (shape x)) (many (terms n f)) e in
    let s : length (shape x) ≡ rank x = length-tab (rank x) (λ e. pos (dim x.shape e)) in
    let q : rank x ≡ n = sym s ∙ b.0 in
    (q, λ d h. subst (λ (z : Term). Compares z equal (f d)) (shape-at x d (rw q h)) (b.1 d (rw b.0 h)))

pub true-shape-row : (x : TensorType) (n : ℕ) (f : ℕ → Term) → rank x ≡ n → ((d : ℕ) → d < n → Compares (is (pos (dim x.shape d))) equal (f d)) →
    check_holds (entries (shape x) [=] many (terms n f)) ≡ true
true-shape-row x n f q g =
    let s : length (shape x) ≡ rank x = length-tab (rank x) (λ e. pos (dim x.shape e)) in
    true-compared equal (entries (shape x)) (many (terms n f)) (
      s ∙ q,
      λ d h.
          let k : d < rank x = subst (λ (m : ℕ). d < m) s h in
          subst (λ (z : Term). Compares z equal (f d)) (sym (shape-at x d k)) (g d (subst (λ (m : ℕ). d < m) q k)),
    )

-- ---- uniqueness

among-out : (z : ℤ) (l : List ℤ) (d : ℕ) → member_of z (take d l) ≡ false → (i : ℕ) → i < d → i < length l → get_or l i (pos 0) ≡ z → ⊥
among-out z [] d e i h g q = not-suc-le-zero g
among-out z (y ∷ l) zero e i h g q = not-suc-le-zero h
among-out z (y ∷ l) (suc d) e zero h g q = true≢false (sym (or-first (eq_int y z) (member_of z (take d l)) (true-eq_int y z q)) ∙ e)
  where
    or-first : (a b : Bool) → a ≡ true → a || b ≡ true
    or-first a b p = rw p
among-out z (y ∷ l) (suc d) e (suc i) h g q = among-out z l d (or-rest (eq_int y z) (member_of z (take d l)) e) i (le_of_suc-le-suc h) (le_of_suc-le-suc g) q
  where
    or-rest : (a b : Bool) → a || b ≡ false → b ≡ false
    or-rest true b p = absurd (true≢false p)
    or-rest false b p = p

out-among : (z : ℤ) (l : List ℤ) (d : ℕ) → ((i : ℕ) → i < d → i < length l → get_or l i (pos 0) ≡ z → ⊥) → member_of z (take d l) ≡ false
out-among z [] zero f = refl
out-among z [] (suc d) f = refl
out-among z (y ∷ l) zero f = refl
out-among z (y ∷ l) (suc d) f = by-test (eq_int y z) refl (out-among z l d (λ i h g q. f (suc i) (suc-le-suc h) (suc-le-suc g) q))
  where
    by-test : (b : Bool) → eq_int y z ≡ b → member_of z (take d l) ≡ false → b || member_of z (take d l) ≡ false
    by-test true q ih = absurd (f zero (zero-lt-suc d) (zero-lt-suc (length l)) (eq_int-true y z q))
    by-test false q ih = ih

pub unique-true : (l : List ℤ) → check_holds (is_unique l) ≡ true → (d e : ℕ) → d < e → e < length l → get_or l d (pos 0) ≡ get_or l e (pos 0) → ⊥
unfolding is_unique
unique-true l q d e h g p =
    among-out (get_or l e (pos 0)) l e (not-true (member_of (get_or l e (pos 0)) (take e l)) (all-each (length l) (λ d. fact (new_at l d)) q e g)) d h (omega arith) p

pub true-unique : (l : List ℤ) → ((d e : ℕ) → d < e → e < length l → get_or l d (pos 0) ≡ get_or l e (pos 0) → ⊥) → check_holds (is_unique l) ≡ true
unfolding is_unique
true-unique l f = each_all (length l) (λ d. fact (new_at l d)) (λ e g. rw (out-among (get_or l e (pos 0)) l e (λ i h k p. f i e h g p)))

pub permutation-true : (l : List ℤ) (n : ℕ) → check_holds (is_permutation l n) ≡ true →
    (length l ≡ n) × ((d : ℕ) → d < n → (pos 0 ≤ℤ get_or l d (pos 0)) × (get_or l d (pos 0) <ℤ pos n)) × ((d e : ℕ) → d < e → e < n → get_or l d (pos 0) ≡ get_or l e (pos 0) → ⊥)
unfolding is_permutation
permutation-true l n q =
    let t : ℕ → Test = λ d. fact (place_below l n d) in
    let h = and-true-both (once (fact (eqb (length l) n)) and each (length l) t) (is_unique l) q in
    let g = and-true-both (once (fact (eqb (length l) n))) (each (length l) t) h.0 in
    let s : length l ≡ n = eqb-true (length l) n (sym (holds-once (fact (eqb (length l) n))) ∙ g.0) in (
      s,
      λ d k.
          let m = both_true (le_z (pos 0) (get_or l d (pos 0))) (lt_z (get_or l d (pos 0)) (pos n)) (all-each (length l) t g.1 d (rw s k)) in
          (related at_most (pos 0) (get_or l d (pos 0)) m.0, related less (get_or l d (pos 0)) (pos n) m.1),
      λ d e k m. unique-true l h.1 d e k (rw s m),
    )

pub true-permutation : (l : List ℤ) (n : ℕ) → length l ≡ n →
    ((d : ℕ) → d < n → (pos 0 ≤ℤ get_or l d (pos 0)) × (get_or l d (pos 0) <ℤ pos n)) → ((d e : ℕ) → d < e → e < n → get_or l d (pos 0) ≡ get_or l e (pos 0) → ⊥) →
    check_holds (is_permutation l n) ≡ true
unfolding is_permutation
true-permutation l n s f g =
    let t : ℕ → Test = λ d. fact (place_below l n d) in
    both-and-true (once (fact (eqb (length l) n)) and each (length l) t) (is_unique l)
    (both-and-true (once (fact (eqb (length l) n))) (each (length l) t) (holds-once (fact (eqb (length l) n)) ∙ eq-eqb (length l) n s)
    (each_all (length l) t (λ d k.
    let m : d < n = subst (λ (x : ℕ). d < x) s k in
    and-true (le_z (pos 0) (get_or l d (pos 0))) (lt_z (get_or l d (pos 0)) (pos n)) (unrelated at_most (pos 0) (get_or l d (pos 0)) (f d m).0) (unrelated less (get_or l d (pos 0)) (pos n) (f d m).1))))
    (true-unique l (λ d e h k. g d e h (subst (λ (x : ℕ). e < x) s k)))

-- a number from 0 up to below n is a place
pub place_of : (z : ℤ) (n : ℕ) → pos 0 ≤ℤ z → z <ℤ pos n → (p : ℕ) × (z ≡ pos p) × (p < n)
place_of (pos p) n h g = (p, refl, ltb-true p n (unrelated less (pos p) (pos n) g))
place_of (negsuc p) n h g = absurd (false≢true (unrelated at_most (pos 0) (negsuc p) h))
