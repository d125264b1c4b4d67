-- The residue of an integer modulo m respects sums, products and negation; over any modulus. Assumes nothing.
use mathlib.Core.Path.{◌≡◌, sym, ap, ap₂, ◌∙◌}
use mathlib.Core.Bool.{Bool, true, false, not, cond}
use Prim.Native.Nat.{ℕ, zero, suc, ◌+◌, ◌-◌, ◌*◌, ◌/◌, ◌%◌, ◌^◌, ◌≤◌, ◌<◌}
use native.Mathlib.Nat.{mul-add, mul_comm, div-add-mod', add-mod, mod-mod, mod-add-mod, add-mod-mod, mod-lt, add_assoc, add_comm, mul-mod_left, add-mod_right, mod-eq_of_lt, zero-add, add-zero, zero-mod, mul-zero}
use native.Mathlib.Omega.{arith}
use lib.IntN.{ℤ, pos, negsuc, ◌+ℤ◌, ◌*ℤ◌, neg_ℤ, sub_ℕ, +ℤ_invl}
use lib.Pow.{pow_pos, mod-mod-pow}
use lib.Dec.{T, ltb, ltb→lt, nltb→le}
use Rattle.element.specs.Types.{residue}
use Rattle.element.proofs.Mod.{mul-mod-l, mul-mod-r, mod-cancel}

module _ (m : ℕ) (hm : 0 < m) where
  pub residue-lt : (z : ℤ) → residue m z < m
  residue-lt (pos k) = mod-lt k hm
  residue-lt (negsuc k) = omega arith

  -- the residue of -(k + 1), with k + 1 added, is a multiple of m
  pub negsuc-back : (k : ℕ) → (residue m (negsuc k) + suc k) % m ≡ 0
  negsuc-back k = ap (λ (x : ℕ). x % m) whole ∙ add-mod_right (k / m * m) m ∙ mul-mod_left (k / m) m
    where
      whole : m - suc (k % m) + suc k ≡ k / m * m + m
      whole = omega (arith, div-add-mod' k m, mod-lt k hm)

  -- so it is what a difference of two naturals leaves
  sub_back : (p q : ℕ) → (residue m (sub_ℕ p q) + q) % m ≡ p % m
  sub_back p q = by (ltb p q) (ltb→lt p q) (nltb→le p q)
    where
      low : p < q → residue m (negsuc (q - suc p)) + q ≡ residue m (negsuc (q - suc p)) + suc (q - suc p) + p
      low h = omega arith

      high : q ≤ p → p - q + q ≡ p
      high h = omega arith

      by : (b : Bool) → (T b → p < q) → (T (not b) → q ≤ p) → (residue m (cond b (negsuc (q - suc p)) (pos (p - q))) + q) % m ≡ p % m
      by true l g =
          ap (λ (x : ℕ). x % m) (low (l tt)) ∙ sym (mod-add-mod (residue m (negsuc (q - suc p)) + suc (q - suc p)) m p)
          ∙ ap (λ (x : ℕ). (x + p) % m) (negsuc-back (q - suc p)) ∙ ap (λ (x : ℕ). x % m) (zero-add p)
      by false l g = mod-add-mod (p - q) m q ∙ ap (λ (x : ℕ). x % m) (high (g tt))

  -- the residue is the only number below m that is congruent to it
  pub only : (u w v : ℕ) → u < m → (u + v) % m ≡ (w + v) % m → u ≡ w % m
  only u w v h e = sym (mod-eq_of_lt h) ∙ mod-cancel u w v m hm e

  -- the same for -k
  neg-back : (k : ℕ) → (residue m (neg_ℤ (pos k)) + k) % m ≡ 0
  neg-back zero = ap (λ (x : ℕ). x % m) (add-zero (0 % m)) ∙ mod-mod 0 m ∙ zero-mod m
  neg-back (suc k) = negsuc-back k

  -- a multiple of the residue of -(k + 1), with as many times k + 1
  times-back : (a k : ℕ) → (a * residue m (negsuc k) + a * suc k) % m ≡ 0
  times-back a k =
      ap (λ (x : ℕ). x % m) (sym (mul-add a (residue m (negsuc k)) (suc k))) ∙ sym (mul-mod-r a (residue m (negsuc k) + suc k) m)
      ∙ ap (λ (x : ℕ). (a * x) % m) (negsuc-back k) ∙ ap (λ (x : ℕ). x % m) (mul-zero a) ∙ zero-mod m

  mixed-sum : (a b : ℕ) → residue m (sub_ℕ a (suc b)) ≡ (a % m + residue m (negsuc b)) % m
  mixed-sum a b =
      only (residue m (sub_ℕ a (suc b))) (a % m + residue m (negsuc b)) (suc b) (residue-lt (sub_ℕ a (suc b)))
      (sub_back a (suc b) ∙ sym (ap (λ (x : ℕ). x % m) (add_assoc (a % m) (residue m (negsuc b)) (suc b))
      ∙ sym (add-mod-mod (a % m) (residue m (negsuc b) + suc b) m) ∙ ap (λ (x : ℕ). (a % m + x) % m) (negsuc-back b)
      ∙ ap (λ (x : ℕ). x % m) (add-zero (a % m)) ∙ mod-mod a m))

  pub residue-add : (x y : ℤ) → residue m (x +ℤ y) ≡ (residue m x + residue m y) % m
  residue-add (pos a) (pos b) = add-mod a b m
  residue-add (pos a) (negsuc b) = mixed-sum a b
  residue-add (negsuc a) (pos b) = mixed-sum b a ∙ ap (λ (x : ℕ). x % m) (add_comm (b % m) (residue m (negsuc a)))
  residue-add (negsuc a) (negsuc b) =
      only (residue m (negsuc (suc (a + b)))) (residue m (negsuc a) + residue m (negsuc b)) (suc (suc (a + b))) (residue-lt (negsuc (suc (a + b))))
      (negsuc-back (suc (a + b)) ∙ sym (ap (λ (x : ℕ). x % m) regroup
      ∙ add-mod (residue m (negsuc a) + suc a) (residue m (negsuc b) + suc b) m
      ∙ ap₂ (λ (x y : ℕ). (x + y) % m) (negsuc-back a) (negsuc-back b) ∙ zero-mod m))
    where
      regroup : residue m (negsuc a) + residue m (negsuc b) + suc (suc (a + b)) ≡ (residue m (negsuc a) + suc a) + (residue m (negsuc b) + suc b)
      regroup = omega arith

  mixed-product : (a b : ℕ) → residue m (neg_ℤ (pos (a * suc b))) ≡ (a % m * residue m (negsuc b)) % m
  mixed-product a b =
      only (residue m (neg_ℤ (pos (a * suc b)))) (a * residue m (negsuc b)) (a * suc b) (residue-lt (neg_ℤ (pos (a * suc b))))
      (neg-back (a * suc b) ∙ sym (times-back a b)) ∙ sym (mul-mod-l a (residue m (negsuc b)) m)

  pub residue-mul : (x y : ℤ) → residue m (x *ℤ y) ≡ (residue m x * residue m y) % m
  residue-mul (pos a) (pos b) = sym (mul-mod-l a (b % m) m ∙ mul-mod-r a b m)
  residue-mul (pos a) (negsuc b) = mixed-product a b
  residue-mul (negsuc a) (pos b) =
      ap (λ (x : ℕ). residue m (neg_ℤ (pos x))) (mul_comm (suc a) b) ∙ mixed-product b a ∙ ap (λ (x : ℕ). x % m) (mul_comm (b % m) (residue m (negsuc a)))
  residue-mul (negsuc a) (negsuc b) =
      mod-cancel (suc a * suc b) (residue m (negsuc a) * residue m (negsuc b)) (residue m (negsuc a) * suc b) m hm
      (ap (λ (x : ℕ). x % m) (add_comm (suc a * suc b) (residue m (negsuc a) * suc b) ∙ ap₂ (λ (x y : ℕ). x + y) (mul_comm (residue m (negsuc a)) (suc b)) (mul_comm (suc a) (suc b)))
      ∙ times-back (suc b) a ∙ sym (times-back (residue m (negsuc a)) b))

  pub residue-neg : (x : ℤ) → (residue m (neg_ℤ x) + residue m x) % m ≡ 0
  residue-neg x = sym (residue-add (neg_ℤ x) x) ∙ ap (residue m) (+ℤ_invl x) ∙ zero-mod m

-- the low bits of a number of more bits
pub mod-narrow : {n N : ℕ} → n ≤ N → (x : ℕ) → x % 2 ^ N % 2 ^ n ≡ x % 2 ^ n
mod-narrow {n} {N} h x = rw e at (mod-mod-pow x (N - n) n)
  where
    e : N - n + n ≡ N
    e = omega arith

pub residue-narrow : {n N : ℕ} → n ≤ N → (z : ℤ) → residue (2 ^ n) z ≡ residue (2 ^ N) z % 2 ^ n
residue-narrow h (pos k) = sym (mod-narrow h k)
residue-narrow {n} {N} h (negsuc k) =
    only (2 ^ n) (pow_pos n) (residue (2 ^ n) (negsuc k)) (residue (2 ^ N) (negsuc k)) (suc k) (residue-lt (2 ^ n) (pow_pos n) (negsuc k))
    (negsuc-back (2 ^ n) (pow_pos n) k ∙ sym (sym (mod-narrow h (residue (2 ^ N) (negsuc k) + suc k))
    ∙ ap (λ (x : ℕ). x % 2 ^ n) (negsuc-back (2 ^ N) (pow_pos N) k) ∙ zero-mod (2 ^ n)))
