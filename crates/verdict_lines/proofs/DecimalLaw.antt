-- The fewest digits that hold a number are its decimal digits without leading zeros.
-- Assumes nothing.
use mathlib.Core.Path.{◌≡◌, refl}
use mathlib.Core.List.{List, [], ◌∷◌, ◌++◌}
use Prim.Native.Nat.{ℕ, zero, suc, ◌+◌, ◌-◌, ◌/◌, ◌%◌, ◌^◌, ◌≤◌, ◌<◌}
use native.Mathlib.Nat.{pow-suc, pow-le-pow_right, one-le-pow, mod-lt, mod-eq_of_lt}
use native.Mathlib.Omega.{arith}
use mathlib.Core.Bool.{Bool, true, false}
use lib.Dec.{ltb, leb}
use lib.ListN.{length, length-append}
use Rattle.lists.specs.Lists.{pick}
use borrow.Author.Tests.{lt-ltb, le-ltb, leb-true, leb-false}
use Rattle.io.specs.Digits.{hex_digit_ascii, last_digits, IsDigitCount}
use Rattle.printed.specs.Printed.{digits_of}

last-digit : (n : ℕ) → n < 10 → hex_digit_ascii n ≡ 48 + n
last-digit n h = rw (lt-ltb n 10 h)

-- digits that are all there are
pub all_digits : (most k n : ℕ) → k ≤ most → IsDigitCount 10 1 n k → last_digits 10 k n ≡ digits_of most n
unfolding digits_of
all_digits zero k n h f = absurd (omega (arith, f.0))
all_digits (suc most) zero n h f = absurd (omega (arith, f.0))
all_digits (suc most) (suc zero) n h f =
    let small : n < 10 = f.1 in
    rw (lt-ltb n 10 small, mod-eq_of_lt small, last-digit n small)
all_digits (suc most) (suc (suc j)) n h f =
    let down : suc (suc j) - 1 ≡ suc j = omega arith in
    let many : 10 ^ suc j ≤ n = rw down at (f.2 (omega arith)) in
    let top : n < 10 ^ suc (suc j) = f.1 in
    let one = pow-suc 10 j in
    let two = pow-suc 10 (suc j) in
    let low : 10 ≤ n = omega (arith, one, many, one-le-pow j 10 (omega arith)) in
    let less : suc j - 1 ≡ j = omega arith in
    let rest : IsDigitCount 10 1 (n / 10) (suc j) = (omega arith, omega (arith, one, two, top), λ p. rw less (omega (arith, one, many))) in
    rw (le-ltb n 10 low, last-digit (n % 10) (mod-lt n (omega arith)), all_digits most (suc j) (n / 10) (omega arith) rest)

-- a number below 2^64 has at most 20
pub at-most-20 : (n k : ℕ) → n < 2 ^ 64 → IsDigitCount 10 1 n k → k ≤ 20
at-most-20 n k h f = go (leb k 20) (leb-true k 20) (leb-false k 20)
  where
    go : (b : Bool) → (b ≡ true → k ≤ 20) → (b ≡ false → 20 < k) → k ≤ 20
    go true p q = p refl
    go false p q =
        let above = q refl in
        let many : 10 ^ 20 ≤ 10 ^ (k - 1) = pow-le-pow_right {n = 10} (omega arith) {i = 20} {j = k - 1} (omega arith) in
        absurd (omega (arith, many, f.2 (omega arith)))

-- a number has at most so many digits
pub few-digits : (most n : ℕ) → length (digits_of most n) ≤ most
unfolding digits_of
few-digits zero n = omega arith
few-digits (suc most) n = go (ltb n 10) (few-digits most (n / 10))
  where
    front : List ℕ
    front = digits_of most (n / 10)

    go : (b : Bool) → length front ≤ most → length (pick b ((48 + n) ∷ []) (front ++ ((48 + n % 10) ∷ []))) ≤ suc most
    go true h = omega arith
    go false h = omega (arith, length-append front ((48 + n % 10) ∷ []))
