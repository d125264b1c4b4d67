-- Tests of lists against tests at every number below one.
-- Assumes nothing.
use mathlib.Core.Path.{◌≡◌, refl, sym, ap, ◌∙◌}
use mathlib.Core.List.{List, [], ◌∷◌}
use mathlib.Core.Bool.{Bool, true, false, not, ◌&&◌, ◌||◌, false≢true}
use Prim.Native.Nat.{ℕ, zero, suc, ◌+◌, ◌<◌, ◌≤◌}
use Prim.Native.Nat.{suc-le-suc}
use native.Mathlib.Nat.{not-suc-le-zero, le_of_suc-le-suc, zero-lt-suc}
use native.Mathlib.Omega.{arith}
use lib.Dec.{eqb, ltb}
use lib.ListN.{length, get_or}
use borrow.Author.Tests.{eqb-true, eq-eqb, lt-ltb}
use Rattle.lists.specs.Lists.{pick, tab, first_where}
use Rattle.lists.proofs.TestLaw.{both_true}
use Rattle.lists.proofs.TabLaw.{length-tab, map-tab}
use Rattle.dimrules.specs.Count.{first_failing, everywhere}
use Rattle.dimrules.proofs.CountLaw.{Reached, reach-none, reach-next, reach-end, holds_at}
use Rattle.verifier.specs.AttributeRules.{pairwise, some_of}

pub same_tests : (a b : Bool) → (a ≡ true → b ≡ true) → (b ≡ true → a ≡ true) → a ≡ b
same_tests true b f g = sym (f refl)
same_tests false true f g = absurd (false≢true (g refl))
same_tests false false f g = refl

pub and-true : (a b : Bool) → a ≡ true → b ≡ true → a && b ≡ true
and-true a b p q = rw (p, q) refl

pub not-not : (a : Bool) → not (not a) ≡ a
not-not true = refl
not-not false = refl

pub none_of_two : (a b : Bool) → not (not a || not b) ≡ a && b
none_of_two true true = refl
none_of_two true false = refl
none_of_two false b = refl

pub none-of-three : (a b c : Bool) → not (not a || not b || not c) ≡ a && b && c
none-of-three true true true = refl
none-of-three true true false = refl
none-of-three true false c = refl
none-of-three false b c = refl

-- each number below n passes
reached : (n : ℕ) (t : ℕ → Bool) → ((d : ℕ) → d < n → t d ≡ true) → (k : ℕ) → k ≤ n → Reached n t k
reached n t h zero l = reach-none n t
reached n t h (suc k) l =
    let r = reached n t h k (omega arith) in
    let q = reach-next n t k r (omega arith) (h k (omega arith)) in
    let z : k + 1 ≡ suc k = omega arith in rw z at q

pub holds-below : (n : ℕ) (t : ℕ → Bool) → ((d : ℕ) → d < n → t d ≡ true) → everywhere n t ≡ true
unfolding everywhere
holds-below n t h =
    let r = reached n t h n (omega arith) in
    let e = reach-end n t n r (omega arith) (omega arith) in
    eq-eqb (first_failing n t) n (sym e)

-- pairs of items, by place
pub pair-at : (test : ℕ → ℕ → Bool) (xs ys : List ℕ) → pairwise test xs ys ≡ true → (j : ℕ) → j < length xs → test (get_or xs j 0) (get_or ys j 0) ≡ true
pair-at test [] ys e j h = absurd (not-suc-le-zero h)
pair-at test (x ∷ xs) [] e j h = absurd (false≢true e)
pair-at test (x ∷ xs) (y ∷ ys) e zero h = (both_true (test x y) (pairwise test xs ys) e).0
pair-at test (x ∷ xs) (y ∷ ys) e (suc j) h = pair-at test xs ys (both_true (test x y) (pairwise test xs ys) e).1 j (le_of_suc-le-suc h)

pub pair-length : (test : ℕ → ℕ → Bool) (xs ys : List ℕ) → pairwise test xs ys ≡ true → length ys ≡ length xs
pair-length test [] [] e = refl
pair-length test [] (y ∷ ys) e = absurd (false≢true e)
pair-length test (x ∷ xs) [] e = absurd (false≢true e)
pair-length test (x ∷ xs) (y ∷ ys) e = ap suc (pair-length test xs ys (both_true (test x y) (pairwise test xs ys) e).1)

pub at_pair : (test : ℕ → ℕ → Bool) (xs ys : List ℕ) → length ys ≡ length xs → ((j : ℕ) → j < length xs → test (get_or xs j 0) (get_or ys j 0) ≡ true) → pairwise test xs ys ≡ true
at_pair test [] [] l h = refl
at_pair test [] (y ∷ ys) l h = absurd (let z : suc (length ys) ≡ 0 = l in omega arith)
at_pair test (x ∷ xs) [] l h = absurd (let z : 0 ≡ suc (length xs) = l in omega arith)
at_pair test (x ∷ xs) (y ∷ ys) l h =
    let z : suc (length ys) ≡ suc (length xs) = l in
    and-true (test x y) (pairwise test xs ys) (h zero (zero-lt-suc (length xs))) (at_pair test xs ys (omega arith) (λ j q. h (suc j) (suc-le-suc q)))

-- the first item of a list that passes, by the numbers of its items
first-shift : (t : ℕ → Bool) (n : ℕ) (f g : ℕ → ℕ) → ((k : ℕ) → t (f k) ≡ t (g k)) → first_where t (tab n f) ≡ first_where t (tab n g)
unfolding first_where
first-shift t zero f g h = refl
first-shift t (suc n) f g h = rw (h zero, first-shift t n (λ k. f (suc k)) (λ k. g (suc k)) (λ k. h (suc k))) refl

first-items : {A : Type 0} (t : A → Bool) (z : A) (l : List A) (u : ℕ → Bool) (f : ℕ → ℕ) → ((k : ℕ) → k < length l → u (f k) ≡ t (get_or l k z)) →
    first_where u (tab (length l) f) ≡ first_where t l
unfolding first_where
first-items t z [] u f h = refl
first-items t z (x ∷ l) u f h =
    rw (h zero (zero-lt-suc (length l)), first-items t z l u (λ k. f (suc k)) (λ k q. h (suc k) (suc-le-suc q))) refl

pub first-by-number : {A : Type 0} (t : A → Bool) (z : A) (l : List A) (n : ℕ) (u : ℕ → Bool) → n ≡ length l → ((k : ℕ) → k < n → u k ≡ t (get_or l k z)) →
    first_where u (tab n (λ i. i)) ≡ first_where t l
first-by-number t z l n u e h = rw e (first-items t z l u (λ i. i) (λ k q. h k (rw e q)))

-- none of the items passes, or one does
pub none_of : {A : Type 0} (t : A → Bool) (xs : List A) → some_of t xs ≡ false → (z : A) (j : ℕ) → j < length xs → t (get_or xs j z) ≡ false
none_of t [] e z j h = absurd (not-suc-le-zero h)
none_of t (x ∷ xs) e z zero h = (or-false (t x) (some_of t xs) e).0
  where
    or-false : (a b : Bool) → a || b ≡ false → (a ≡ false) × (b ≡ false)
    or-false true b e = absurd (false≢true (sym e))
    or-false false b e = (refl, e)
none_of t (x ∷ xs) e z (suc j) h = none_of t xs (tail (t x) (some_of t xs) e) z j (le_of_suc-le-suc h)
  where
    tail : (a b : Bool) → a || b ≡ false → b ≡ false
    tail true b e = absurd (false≢true (sym e))
    tail false b e = e
