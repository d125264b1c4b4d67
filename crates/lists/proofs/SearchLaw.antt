-- Laws of first_where and all_below, as loops use them, and of pick.
-- Assumes nothing.
use mathlib.Core.Path.{◌≡◌, refl, sym, ◌∙◌}
use mathlib.Core.Bool.{Bool, true, false}
use mathlib.Core.List.{List, [], ◌∷◌}
use Prim.Native.Nat.{ℕ, zero, suc, ◌+◌, ◌≤◌, ◌<◌}
use native.Mathlib.Nat.{zero-add, not-suc-le-zero, le_of_suc-le-suc}
use native.Mathlib.Decide.{dec_lt}
use native.Mathlib.Numerals.{add-one}
use native.Mathlib.Omega.{arith}
use lib.ListN.{length, drop, get_or, drop_of_length-le}
use lib.Seq.{drop-cons}
use Rattle.lists.specs.Lists.{pick, all_below, first_where}

-- first_where: `Passed t s i` says that none of the first i elements passes the test

abbrev pub Passed : (ℕ → Bool) → List ℕ → ℕ → Type 0
Passed t s i = i + first_where t (drop i s) ≡ first_where t s

pub passed_none : (t : ℕ → Bool) (s : List ℕ) → Passed t s 0
passed_none t s = zero-add _

first-false : (t : ℕ → Bool) (x : ℕ) (xs : List ℕ) → t x ≡ false → first_where t (x ∷ xs) ≡ suc (first_where t xs)
unfolding first_where
first-false t x xs e = rw e

first-true : (t : ℕ → Bool) (x : ℕ) (xs : List ℕ) → t x ≡ true → first_where t (x ∷ xs) ≡ 0
unfolding first_where
first-true t x xs e = rw e

pub passed-next : (t : ℕ → Bool) (s : List ℕ) (i : ℕ) → i < length s → t (get_or s i 0) ≡ false → Passed t s i → Passed t s (i + 1)
passed-next t s i h e p =
    let a : first_where t (drop i s) ≡ suc (first_where t (drop (suc i) s)) = rw (drop-cons s i 0 h) (first-false t _ _ e) in
    rw add-one (omega (arith, a, p))

pub passed_here : (t : ℕ → Bool) (s : List ℕ) (i : ℕ) → i < length s → t (get_or s i 0) ≡ true → Passed t s i → i ≡ first_where t s
passed_here t s i h e p =
    let a : first_where t (drop i s) ≡ 0 = rw (drop-cons s i 0 h) (first-true t _ _ e) in
    omega (arith, a, p)

pub passed-end : (t : ℕ → Bool) (s : List ℕ) (i : ℕ) → length s ≤ i → Passed t s i → i ≡ first_where t s
unfolding first_where
passed-end t s i h p =
    let a : first_where t (drop i s) ≡ 0 = rw (drop_of_length-le s h) in
    omega (arith, a, p)

-- none of the elements passes the test
pub none_passes : (t : ℕ → Bool) (s : List ℕ) (i : ℕ) → first_where t s ≡ length s → i < length s → t (get_or s i 0) ≡ false
unfolding first_where
none_passes t [] i e h = absurd (not-suc-le-zero h)
none_passes t (x ∷ xs) i e h = by-test (t x) refl i h (λ q k. none_passes t xs k (rest q))
  where
    rest : t x ≡ false → first_where t xs ≡ length xs
    rest q = let a : suc (first_where t xs) ≡ suc (length xs) = sym (first-false t x xs q) ∙ e in omega arith

    by-test : (b : Bool) → t x ≡ b → (j : ℕ) → j < suc (length xs) → (t x ≡ false → (k : ℕ) → k < length xs → t (get_or xs k 0) ≡ false) →
        t (get_or (x ∷ xs) j 0) ≡ false
    by-test true q j h ih = let a : 0 ≡ suc (length xs) = sym (first-true t x xs q) ∙ e in absurd (omega arith)
    by-test false q zero h ih = q
    by-test false q (suc j) h ih = ih q j (le_of_suc-le-suc h)

-- all_below

pub all-next : (n : ℕ) (t : ℕ → Bool) → all_below n t ≡ true → t n ≡ true → all_below (n + 1) t ≡ true
unfolding all_below
all-next n t a b = rw (add-one, a, b)

last : (b : Bool) {x : Bool} → x ≡ false → pick b x false ≡ false
last true e = e
last false e = refl

pub all-stop : (n : ℕ) (t : ℕ → Bool) (i : ℕ) → i < n → t i ≡ false → all_below n t ≡ false
unfolding all_below
all-stop zero t i h e = absurd (not-suc-le-zero h)
all-stop (suc n) t i h e = by_place (dec_lt i n) (λ a. all-stop n t i a e)
  where
    by_place : Dec (i < n) → (i < n → all_below n t ≡ false) → all_below (suc n) t ≡ false
    by_place (yes a) ih = rw (ih a)
    by_place (no a) ih = let q : i ≡ n = omega arith in last (all_below n t) (rw q at e)

pub all-at : (n : ℕ) (t : ℕ → Bool) (i : ℕ) → all_below n t ≡ true → i < n → t i ≡ true
unfolding all_below
all-at n t i a h = by-test (t i) refl
  where
    by-test : (b : Bool) → t i ≡ b → t i ≡ true
    by-test true q = q
    by-test false q = let z : false ≡ true = sym (all-stop n t i h q) ∙ a in cc

-- the first element that passes is at most the length
pub first-le : (t : ℕ → Bool) (s : List ℕ) → first_where t s ≤ length s
unfolding first_where
first-le t [] = omega arith
first-le t (x ∷ xs) = by-test (t x) (first-le t xs)
  where
    by-test : (b : Bool) → first_where t xs ≤ length xs → pick b 0 (suc (first_where t xs)) ≤ suc (length xs)
    by-test true h = omega arith
    by-test false h = omega arith

pub all_none : (t : ℕ → Bool) → all_below 0 t ≡ true
unfolding all_below
all_none t = refl

-- pick
pub pick_first : {A : Type 0} (b : Bool) (x y r : A) → b ≡ true → r ≡ x → r ≡ pick b x y
pick_first b x y r e q = rw e q

pub pick_second : {A : Type 0} (b : Bool) (x y r : A) → b ≡ false → r ≡ y → r ≡ pick b x y
pick_second b x y r e q = rw e q
