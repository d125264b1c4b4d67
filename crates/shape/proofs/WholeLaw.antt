-- An attribute number and its pattern.
-- Assumes nothing.
use mathlib.Core.Path.{◌≡◌, ap, ◌∙◌}
use Prim.Native.Nat.{ℕ, ◌-◌, ◌%◌, ◌^◌, ◌≤◌, ◌<◌}
use native.Mathlib.Nat.{mod-eq_of_lt}
use native.Mathlib.Omega.{arith}
use lib.IntN.{ℤ, pos, negsuc}
use lib.Signed.{mag}
use borrow.Author.Tests.{lt-ltb, le-ltb}
use Rattle.shape.specs.Whole.{pattern_of, number_of}

-- a pattern below 2^63 is the number, any other the number and 2^64

pub number-low : {w : ℕ} → w < 2 ^ 63 → number_of w ≡ pos w
number-low {w} h = rw (lt-ltb w (2 ^ 63) h)

pub number-high : {w : ℕ} → 2 ^ 63 ≤ w → number_of w ≡ negsuc (2 ^ 64 - 1 - w)
number-high {w} h = rw (le-ltb w (2 ^ 63) h)

-- the pattern of a number in the signed 64-bit range

pub pattern-pos : (n : ℕ) → n < 2 ^ 63 → pattern_of (pos n) ≡ n
pattern-pos n h = let l : n < 2 ^ 64 = omega arith in mod-eq_of_lt l

pub pattern-negsuc : (n : ℕ) → n < 2 ^ 63 → pattern_of (negsuc n) ≡ 2 ^ 64 - 1 - n
pattern-negsuc n h =
    let l : n < 2 ^ 64 = omega arith in
    let e : n % 2 ^ 64 ≡ n = mod-eq_of_lt l in
    rw e (omega arith)

-- a number in the signed 64-bit range is the one that its pattern is read as
pub number-pattern : (z : ℤ) → mag z < 2 ^ 63 → number_of (pattern_of z) ≡ z
number-pattern (pos n) h = ap number_of (pattern-pos n h) ∙ number-low h
number-pattern (negsuc n) h =
    let l : 2 ^ 63 ≤ 2 ^ 64 - 1 - n = omega arith in
    ap number_of (pattern-negsuc n h) ∙ number-high l ∙ ap negsuc (omega arith)
