-- ceil_z is the ceiling, both ways: the lowest whole number whose product with the divisor is at least the dividend.
-- Assumes nothing.
use mathlib.Core.Path.{◌≡◌, refl, sym, ap, ◌∙◌, subst}
use mathlib.Core.Bool.{false≢true}
use Prim.Native.Nat.{ℕ, zero, suc, ◌+◌, ◌-◌, ◌*◌, ◌/◌, ◌≤◌, ◌<◌, suc-le-suc}
use native.Mathlib.Nat.{le_of_suc-le-suc, not-suc-le-zero, zero-lt-suc, div-lt_iff_lt-mul, le-div_iff_mul-le, suc-mul}
use native.Mathlib.Omega.{arith}
use lib.IntN.{ℤ, pos, negsuc, neg_ℤ, ◌*ℤ◌}
use lib.Signed.{◌≤ℤ◌}
use borrow.Author.Tests.{leb-true, le-leb, lt-ltb}
use Rattle.dimrules.specs.Whole.{ceil_div}
use Rattle.checks.specs.Check.{Term, is, missing, less, at_most}
use Rattle.checks.specs.Formula.{ceil_z}
use Rattle.checks.proofs.MeaningLaw.{related, unrelated}
use Rattle.checks.proofs.TypeLaw.{is_same}
use Rattle.constraint_facts.specs.OpFacts.{IsCeil}

-- ---- the order of whole numbers

pos-le : (m n : ℕ) → m ≤ n → pos m ≤ℤ pos n
pos-le m n h = related at_most (pos m) (pos n) (le-leb m n h)

le-pos : (m n : ℕ) → pos m ≤ℤ pos n → m ≤ n
le-pos m n h = leb-true m n (unrelated at_most (pos m) (pos n) h)

neg-le : (p q : ℕ) → p ≤ q → neg_ℤ (pos q) ≤ℤ neg_ℤ (pos p)
neg-le zero zero h = related at_most (pos 0) (pos 0) refl
neg-le zero (suc q) h = related at_most (negsuc q) (pos 0) refl
neg-le (suc p) zero h = absurd (not-suc-le-zero h)
neg-le (suc p) (suc q) h = related at_most (negsuc q) (negsuc p) (le-leb p q (le_of_suc-le-suc h))

le-neg : (p q : ℕ) → neg_ℤ (pos q) ≤ℤ neg_ℤ (pos p) → p ≤ q
le-neg zero q h = omega arith
le-neg (suc p) zero h = absurd (false≢true (unrelated at_most (pos 0) (negsuc p) h))
le-neg (suc p) (suc q) h = suc-le-suc (leb-true p q (unrelated at_most (negsuc q) (negsuc p) h))

neg-below : (q k : ℕ) → neg_ℤ (pos q) ≤ℤ pos k
neg-below zero k = pos-le 0 k (omega arith)
neg-below (suc q) k = related at_most (negsuc q) (pos k) refl

pos-above : (m p : ℕ) → 0 < p → pos m ≤ℤ neg_ℤ (pos p) → ⊥
pos-above m zero g h = not-suc-le-zero g
pos-above m (suc p) g h = false≢true (unrelated at_most (pos m) (negsuc p) h)

neg-times : (q b : ℕ) → neg_ℤ (pos q) *ℤ pos b ≡ neg_ℤ (pos (q * b))
neg-times zero b = ap pos (let e : 0 * b ≡ 0 = omega arith in e) ∙ sym (ap (λ (n : ℕ). neg_ℤ (pos n)) (let e : 0 * b ≡ 0 = omega arith in e))
neg-times (suc q) b = refl

both-le : (a b : ℤ) → a ≤ℤ b → b ≤ℤ a → a ≡ b
both-le (pos a) (pos b) h g = let k = le-pos a b h in let m = le-pos b a g in ap pos (let e : a ≡ b = omega arith in e)
both-le (pos a) (negsuc b) h g = absurd (false≢true (unrelated at_most (pos a) (negsuc b) h))
both-le (negsuc a) (pos b) h g = absurd (false≢true (unrelated at_most (pos b) (negsuc a) g))
both-le (negsuc a) (negsuc b) h g =
    let k : b ≤ a = leb-true b a (unrelated at_most (negsuc a) (negsuc b) h) in
    let m : a ≤ b = leb-true a b (unrelated at_most (negsuc b) (negsuc a) g) in
    ap negsuc (let e : a ≡ b = omega arith in e)

-- ---- of a dividend from 0 on, and of one below

module _ (m n : ℕ) where
  ceil-up : IsCeil (pos m) (pos (suc n)) (pos (ceil_div m (suc n)))
  ceil-up =
      record {
        divisor = related less (pos 0) (pos (suc n)) (lt-ltb 0 (suc n) (zero-lt-suc n));
        reaches = pos-le m (ceil_div m (suc n) * suc n) up;
        lowest = low;
      }
    where
      up : m ≤ ceil_div m (suc n) * suc n
      up =
          let h : m + suc n - 1 < suc (ceil_div m (suc n)) * suc n = (div-lt_iff_lt-mul (zero-lt-suc n)).0 (let g : ceil_div m (suc n) < suc (ceil_div m (suc n)) = omega arith in g) in
          let e : suc (ceil_div m (suc n)) * suc n ≡ ceil_div m (suc n) * suc n + suc n = suc-mul (ceil_div m (suc n)) (suc n) in
          omega arith

      low : (e : ℤ) → pos m ≤ℤ (e *ℤ pos (suc n)) → pos (ceil_div m (suc n)) ≤ℤ e
      low (pos k) h =
          let g : m ≤ k * suc n = le-pos m (k * suc n) h in
          let e : suc k * suc n ≡ k * suc n + suc n = suc-mul k (suc n) in
          let l : ceil_div m (suc n) < suc k = (div-lt_iff_lt-mul (zero-lt-suc n)).1 (let i : m + suc n - 1 < suc k * suc n = omega arith in i) in
          pos-le (ceil_div m (suc n)) k (le_of_suc-le-suc l)
      low (negsuc k) h =
          let e : suc k * suc n ≡ k * suc n + suc n = suc-mul k (suc n) in
          absurd (pos-above m (suc k * suc n) (omega arith) h)

  ceil-down : IsCeil (negsuc m) (pos (suc n)) (neg_ℤ (pos (suc m / suc n)))
  ceil-down =
      record {
        divisor = related less (pos 0) (pos (suc n)) (lt-ltb 0 (suc n) (zero-lt-suc n));
        reaches = subst (λ (z : ℤ). negsuc m ≤ℤ z) (sym (neg-times (suc m / suc n) (suc n)))
            (neg-le (suc m / suc n * suc n) (suc m) ((le-div_iff_mul-le (zero-lt-suc n)).0 (let g : suc m / suc n ≤ suc m / suc n = omega arith in g)));
        lowest = low;
      }
    where
      low : (e : ℤ) → negsuc m ≤ℤ (e *ℤ pos (suc n)) → neg_ℤ (pos (suc m / suc n)) ≤ℤ e
      low (pos k) h = neg-below (suc m / suc n) k
      low (negsuc k) h = neg-le (suc k) (suc m / suc n) ((le-div_iff_mul-le (zero-lt-suc n)).1 (le-neg (suc k * suc n) (suc m) h))

-- ---- both ways

is-missing : (c : ℤ) → missing ≡ is c → ⊥
is-missing c e = subst Named (sym e) tt
  where
    Named : Term → Type 0
    Named (is z) = Unit {0}
    Named missing = ⊥

pub ceil-true : (a b c : ℤ) → ceil_z a b ≡ is c → IsCeil a b c
ceil-true (pos a) (pos zero) c e = absurd (is-missing c e)
ceil-true (pos a) (pos (suc b)) c e = subst (λ (z : ℤ). IsCeil (pos a) (pos (suc b)) z) (is_same _ c e) (ceil-up a b)
ceil-true (pos a) (negsuc b) c e = absurd (is-missing c e)
ceil-true (negsuc a) (pos zero) c e = absurd (is-missing c e)
ceil-true (negsuc a) (pos (suc b)) c e = subst (λ (z : ℤ). IsCeil (negsuc a) (pos (suc b)) z) (is_same _ c e) (ceil-down a b)
ceil-true (negsuc a) (negsuc b) c e = absurd (is-missing c e)

one-ceil : (a b c d : ℤ) → IsCeil a b c → IsCeil a b d → c ≡ d
one-ceil a b c d f g = both-le c d (f.lowest d g.reaches) (g.lowest c f.reaches)

pub true-ceil : (a b c : ℤ) → IsCeil a b c → ceil_z a b ≡ is c
true-ceil (pos a) (pos zero) c f = absurd (false≢true (unrelated less (pos 0) (pos 0) f.divisor))
true-ceil (pos a) (pos (suc b)) c f = ap is (one-ceil (pos a) (pos (suc b)) _ c (ceil-up a b) f)
true-ceil (pos a) (negsuc b) c f = absurd (false≢true (unrelated less (pos 0) (negsuc b) f.divisor))
true-ceil (negsuc a) (pos zero) c f = absurd (false≢true (unrelated less (pos 0) (pos 0) f.divisor))
true-ceil (negsuc a) (pos (suc b)) c f = ap is (one-ceil (negsuc a) (pos (suc b)) _ c (ceil-down a b) f)
true-ceil (negsuc a) (negsuc b) c f = absurd (false≢true (unrelated less (pos 0) (negsuc b) f.divisor))
