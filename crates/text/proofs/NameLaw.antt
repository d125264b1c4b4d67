-- Laws of names: their bytes, how they are compared, and what that decides.
-- Assumes nothing.
use mathlib.Core.Path.{◌≡◌, refl, ap}
use mathlib.Core.Bool.{Bool, true, false, ◌&&◌}
use mathlib.Core.List.{List, [], ◌∷◌}
use Prim.Native.Nat.{ℕ}
use native.Mathlib.Omega.{arith}
use lib.Pointwise.{pointwise}
use lib.Dec.{eqb}
use borrow.Author.Tests.{eq-eqb, eqb-true}
use Rattle.text.specs.Names.{same_bytes}

-- `==` of slices
pub same-slices : (xs ys : List ℕ) → pointwise eqb xs ys ≡ same_bytes xs ys
unfolding same_bytes
same-slices [] [] = refl
same-slices [] (y ∷ ys) = refl
same-slices (x ∷ xs) [] = refl
same-slices (x ∷ xs) (y ∷ ys) = ap (λ (t : Bool). eqb x y && t) (same-slices xs ys)

-- two stretches are found the same exactly where their bytes are
pub same_bytes_lem : (xs ys : List ℕ) → same_bytes xs ys ≡ true → xs ≡ ys
unfolding same_bytes
same_bytes_lem [] [] e = refl
same_bytes_lem [] (y ∷ ys) e = let z : ◌≡◌ {A = ℕ} 0 1 = cc in absurd (omega arith)
same_bytes_lem (x ∷ xs) [] e = let z : ◌≡◌ {A = ℕ} 0 1 = cc in absurd (omega arith)
same_bytes_lem (x ∷ xs) (y ∷ ys) e = by-test (eqb x y) (eqb-true x y) (same_bytes_lem xs ys) e
  where
    by-test : (b : Bool) → (b ≡ true → x ≡ y) → (same_bytes xs ys ≡ true → xs ≡ ys) → (b && same_bytes xs ys) ≡ true → x ∷ xs ≡ y ∷ ys
    by-test true p q r = let a : x ≡ y = p refl in let b : xs ≡ ys = q r in cc
    by-test false p q r = let z : ◌≡◌ {A = ℕ} 0 1 = cc in absurd (omega arith)

pub bytes_same : (xs : List ℕ) → same_bytes xs xs ≡ true
unfolding same_bytes
bytes_same [] = refl
bytes_same (x ∷ xs) = rw (eq-eqb x x refl) (bytes_same xs)
