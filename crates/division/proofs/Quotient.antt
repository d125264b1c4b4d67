-- The quotient and the remainder of two numbers by their sizes, and by -1. Assumes nothing.
use mathlib.Core.Path.{◌≡◌, refl, ap}
use Prim.Native.Nat.{ℕ, zero, suc, ◌/◌, ◌≤◌, ◌<◌}
use native.Mathlib.Nat.{div-le_self, div-one, mod-one, div-lt_self, le_trans, zero-lt-suc}
use native.Mathlib.Omega.{arith}
use lib.IntN.{ℤ, pos, negsuc, neg_ℤ}
use lib.Signed.{quot_z, rem_z, mag}

mag-neg : (r a : ℕ) → r ≤ suc a → mag (neg_ℤ (pos r)) ≤ a
mag-neg zero a h = omega arith
mag-neg (suc r) a h = omega arith

mag-neg-le : (r : ℕ) → mag (neg_ℤ (pos r)) ≤ r
mag-neg-le zero = omega arith
mag-neg-le (suc r) = omega arith

-- a quotient by anything but -1 is no larger than the dividend
pub mag-quot : (a b : ℤ) → (b ≡ negsuc 0 → ⊥) → mag (quot_z a b) ≤ mag a
mag-quot (pos a) (pos b) h = div-le_self a b
mag-quot (pos a) (negsuc b) h = le_trans (mag-neg-le (a / suc b)) (div-le_self a (suc b))
mag-quot (negsuc a) (pos b) h = mag-neg (suc a / b) a (div-le_self (suc a) b)
mag-quot (negsuc a) (negsuc zero) h = absurd (h refl)
mag-quot (negsuc a) (negsuc (suc b)) h =
    let l : suc a / suc (suc b) < suc a = div-lt_self (zero-lt-suc a) (omega arith) in omega arith

-- and by -1 it is the negation, with remainder 0
pub quot-minus-one : (a : ℤ) → quot_z a (negsuc 0) ≡ neg_ℤ a
quot-minus-one (pos a) = ap (λ (x : ℕ). neg_ℤ (pos x)) (div-one a)
quot-minus-one (negsuc a) = ap pos (div-one (suc a))

pub rem-minus-one : (a : ℤ) → rem_z a (negsuc 0) ≡ pos 0
rem-minus-one (pos a) = ap pos (mod-one a)
rem-minus-one (negsuc a) = ap (λ (x : ℕ). neg_ℤ (pos x)) (mod-one (suc a))
