-- A rule of a table, proved at all of its entries by one test that antt computes, one entry after the other.
-- Assumes nothing.
use mathlib.Core.Path.{◌≡◌, refl, ◌∙◌, subst, sym}
use mathlib.Core.Bool.{Bool, true, false}
use mathlib.Core.List.{List, [], ◌∷◌}
use Prim.Native.Nat.{ℕ, zero, suc, ◌+◌, ◌<◌}
use native.Mathlib.Nat.{add-zero, zero-add, add-suc, suc-add, le_of_suc-le-suc, not-suc-le-zero}
use native.Mathlib.Omega.{arith}
use lib.Dec.{T, eqb}
use lib.ListN.{length, get_or}
use borrow.Author.Tests.{eqb-true, eqb-false}
use Rattle.lists.specs.Lists.{pick}

abbrev pub both : Bool → Bool → Bool
both true b = b
both false b = false

pub both_left : (a b : Bool) → T (both a b) → T a
both_left true b t = tt
both_left false b t = t

pub both_right : (a b : Bool) → T (both a b) → T b
both_right true b t = t
both_right false b t = absurd t

pub both-make : (a b : Bool) → T a → T b → T (both a b)
both-make true b t u = u
both-make false b t u = absurd t

-- where a holds, b does
abbrev pub implies : Bool → Bool → Bool
implies a b = pick a b true

pub implied : (a b : Bool) → T (implies a b) → T a → T b
implied true b t u = t
implied false b t u = absurd u

abbrev pub or : Bool → Bool → Bool
or a b = pick a true b

pub or_cases : (a b : Bool) (A : Type 0) → T (or a b) → (T a → A) → (T b → A) → A
or_cases true b A t f g = f tt
or_cases false b A t f g = g t

pub true-T : (b : Bool) → b ≡ true → T b
true-T true e = tt
true-T false e = let z : ◌≡◌ {A = ℕ} 0 1 = cc in absurd (omega arith)

pub T_true : (b : Bool) → T b → b ≡ true
T_true true t = refl
T_true false t = absurd t

-- the test f passes at each entry of the list and its place, counted from i
abbrev pub every : {A : Type 0} → (ℕ → A → Bool) → ℕ → List A → Bool
every f i [] = true
every f i (x ∷ xs) = both (f i x) (every f (suc i) xs)

from : {A : Type 0} (d : A) (f : ℕ → A → Bool) (xs : List A) (i : ℕ) → T (every f i xs) → (k : ℕ) → k < length xs → T (f (i + k) (get_or xs k d))
from d f [] i t k h = absurd (not-suc-le-zero h)
from d f (x ∷ xs) i t zero h = subst (λ (m : ℕ). T (f m x)) (sym (add-zero i)) (both_left (f i x) (every f (suc i) xs) t)
from d f (x ∷ xs) i t (suc k) h =
    subst (λ (m : ℕ). T (f m (get_or xs k d))) (suc-add i k ∙ sym (add-suc i k))
    (from d f xs (suc i) (both_right (f i x) (every f (suc i) xs) t) k (le_of_suc-le-suc h))

pub at : {A : Type 0} (d : A) (f : ℕ → A → Bool) (xs : List A) → T (every f 0 xs) → (k : ℕ) → k < length xs → T (f k (get_or xs k d))
at d f xs t k h = subst (λ (m : ℕ). T (f m (get_or xs k d))) (zero-add k) (from d f xs 0 t k h)

-- the test f passes at each number below n
abbrev pub up_to : ℕ → (ℕ → Bool) → Bool
up_to zero f = true
up_to (suc n) f = both (f n) (up_to n f)

up-case : (n : ℕ) (f : ℕ → Bool) (k : ℕ) (b : Bool) → eqb k n ≡ b → T (f n) → (k < n → T (f k)) → k < suc n → T (f k)
up-case n f k true e t g h = subst (λ (m : ℕ). T (f m)) (sym (eqb-true k n e)) t
up-case n f k false e t g h = let q = eqb-false k n e in g (omega arith)

pub up-to : (n : ℕ) (f : ℕ → Bool) (k : ℕ) → T (up_to n f) → k < n → T (f k)
up-to zero f k t h = absurd (omega arith)
up-to (suc n) f k t h =
    up-case n f k (eqb k n) refl (both_left (f n) (up_to n f) t) (λ g. up-to n f k (both_right (f n) (up_to n f) t) g) h
