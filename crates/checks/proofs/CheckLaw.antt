-- When checks hold: both of two, each of n places, against the loops' tests at every number below one.
-- Assumes nothing.
use mathlib.Core.Path.{◌≡◌, refl, sym, ap, ◌∙◌}
use mathlib.Core.List.{List, [], ◌∷◌, ◌++◌}
use mathlib.Core.Bool.{Bool, true, false, ◌&&◌}
use Prim.Native.Nat.{ℕ, zero, suc, ◌+◌, ◌≤◌, ◌<◌, suc-le-suc}
use native.Mathlib.Nat.{not-suc-le-zero, le_of_suc-le-suc, zero-lt-suc}
use native.Mathlib.Numerals.{add-one}
use native.Mathlib.Omega.{arith}
use borrow.Author.Tests.{eq-eqb}
use Rattle.lists.specs.Lists.{tab}
use Rattle.lists.proofs.TestLaw.{both_true}
use Rattle.dimrules.specs.Count.{first_failing, everywhere}
use Rattle.dimrules.proofs.CountLaw.{Reached, reach-none, reach-next, reach-end, holds_at}
use Rattle.checks.specs.Check.{Test, Check, test_holds, tests_hold, check_holds}
use Rattle.checks.specs.Formula.{◌and◌, once, each}

-- ---- tests

pub and-true : (a b : Bool) → a ≡ true → b ≡ true → a && b ≡ true
and-true a b p q = rw (p, q)

pub and_assoc : (a b c : Bool) → a && (b && c) ≡ a && b && c
and_assoc true b c = refl
and_assoc false b c = refl

pub and_last : (a : Bool) → a && true ≡ a
and_last true = refl
and_last false = refl

-- tests that follow from each other are the same
pub same_tests : (a b : Bool) → (a ≡ true → b ≡ true) → (b ≡ true → a ≡ true) → a ≡ b
same_tests true b f g = sym (f refl)
same_tests false true f g = g refl
same_tests false false f g = refl

-- ---- both of two checks

pub pass-append : (p q : List Test) → tests_hold (p ++ q) ≡ tests_hold p && tests_hold q
pass-append [] q = refl
pass-append (t ∷ p) q = ap (λ (b : Bool). test_holds t && b) (pass-append p q) ∙ and_assoc (test_holds t) (tests_hold p) (tests_hold q)

swap_and : (a b c d : Bool) → (a && b) && (c && d) ≡ (a && c) && (b && d)
swap_and true b true d = refl
swap_and true true false d = refl
swap_and true false false d = refl
swap_and false b c d = refl

pub holds-and : (a b : Check) → check_holds (a and b) ≡ check_holds a && check_holds b
holds-and [] b = refl
holds-and (p ∷ ps) [] = sym (and_last (tests_hold p && check_holds ps))
holds-and (p ∷ ps) (q ∷ qs) =
    ap (λ (t : Bool). t && check_holds (ps and qs)) (pass-append p q)
    ∙ ap (λ (t : Bool). (tests_hold p && tests_hold q) && t) (holds-and ps qs)
    ∙ swap_and (tests_hold p) (tests_hold q) (check_holds ps) (check_holds qs)

pub holds-once : (t : Test) → check_holds (once t) ≡ test_holds t
holds-once t = and_last (tests_hold (t ∷ [])) ∙ and_last (test_holds t)

-- ---- each of n places

all-tab : (n : ℕ) (f : ℕ → List Test) → ((d : ℕ) → d < n → tests_hold (f d) ≡ true) → check_holds (tab n f) ≡ true
all-tab zero f h = refl
all-tab (suc n) f h = and-true (tests_hold (f zero)) (check_holds (tab n (λ k. f (suc k)))) (h zero (zero-lt-suc n)) (all-tab n (λ k. f (suc k)) (λ d l. h (suc d) (suc-le-suc l)))

tab-all : (n : ℕ) (f : ℕ → List Test) → check_holds (tab n f) ≡ true → (d : ℕ) → d < n → tests_hold (f d) ≡ true
tab-all zero f e d l = absurd (not-suc-le-zero l)
tab-all (suc n) f e zero l = (both_true (tests_hold (f zero)) (check_holds (tab n (λ k. f (suc k)))) e).0
tab-all (suc n) f e (suc d) l = tab-all n (λ k. f (suc k)) (both_true (tests_hold (f zero)) (check_holds (tab n (λ k. f (suc k)))) e).1 d (le_of_suc-le-suc l)

pub each_all : (n : ℕ) (t : ℕ → Test) → ((d : ℕ) → d < n → test_holds (t d) ≡ true) → check_holds (each n t) ≡ true
each_all n t h = all-tab n (λ d. t d ∷ []) (λ d l. and_last (test_holds (t d)) ∙ h d l)

pub all-each : (n : ℕ) (t : ℕ → Test) → check_holds (each n t) ≡ true → (d : ℕ) → d < n → test_holds (t d) ≡ true
all-each n t e d l = sym (and_last (test_holds (t d))) ∙ tab-all n (λ d. t d ∷ []) e d l

-- a loop over places reaches k where each place below passes
pub reached : (n : ℕ) (t : ℕ → Bool) (m : ℕ) → ((d : ℕ) → d < m → t d ≡ true) → (k : ℕ) → k ≤ m → m ≤ n → Reached n t k
reached n t m h zero l g = reach-none n t
reached n t m h (suc k) l g =
    let a : k < m = omega arith in
    let b : k < n = omega arith in
    let r : Reached n t (k + 1) = reach-next n t k (reached n t m h k (omega arith) g) b (h k a) in
    rw (add-one k) at r

pub everywhere-all : (n : ℕ) (t : ℕ → Bool) → ((d : ℕ) → d < n → t d ≡ true) → everywhere n t ≡ true
unfolding everywhere
everywhere-all n t h =
    let q : n ≡ first_failing n t = reach-end n t n (reached n t n h n (omega arith) (omega arith)) (omega arith) (omega arith) in
    eq-eqb (first_failing n t) n (sym q)

-- what the code's loop over places answers
pub holds-each : (n : ℕ) (t : ℕ → Test) → check_holds (each n t) ≡ everywhere n (λ d. test_holds (t d))
holds-each n t =
    same_tests (check_holds (each n t)) (everywhere n (λ d. test_holds (t d)))
    (λ e. everywhere-all n (λ d. test_holds (t d)) (all-each n t e))
    (λ e. each_all n t (holds_at n (λ d. test_holds (t d)) e))

pub everywhere-cong : (n : ℕ) (t u : ℕ → Bool) → ((d : ℕ) → d < n → t d ≡ u d) → everywhere n t ≡ everywhere n u
everywhere-cong n t u h =
    same_tests (everywhere n t) (everywhere n u)
    (λ e. everywhere-all n u (λ d l. sym (h d l) ∙ holds_at n t e d l))
    (λ e. everywhere-all n t (λ d l. h d l ∙ holds_at n u e d l))
