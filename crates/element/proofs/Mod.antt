-- Remainders of sums and products, over any modulus. Assumes nothing.
use mathlib.Core.Path.{◌≡◌, sym, ap, ap₂, ◌∙◌}
use Prim.Native.Nat.{ℕ, ◌+◌, ◌-◌, ◌*◌, ◌/◌, ◌%◌, ◌^◌, ◌<◌}
use native.Mathlib.Nat.{add-mul, mul_assoc, mul_comm, div-add-mod', mul-add-mod_self_right, add-mod, mod-add-mod, add-mod-mod, mod-lt, add_assoc, add_comm, mul-mod_left, add-mul-mod_self_right, add-mod_right, mul-add, add-zero, mul-div_cancel, lt_of_le_of_lt, mul-le-mul_left, mul-lt-mul_of_pos_right, le_of_lt}
use lib.Pow.{pow-add, pow_pos}
use lib.Arith.{mod-mul}
use native.Mathlib.Omega.{arith}

pub mul-mod-l : (a b m : ℕ) → (a % m * b) % m ≡ (a * b) % m
mul-mod-l a b m =
    sym (ap (λ (x : ℕ). x * b % m) (sym (div-add-mod' a m))
    ∙ ap (λ (x : ℕ). x % m) (add-mul (a / m * m) (a % m) b ∙ ap (λ (x : ℕ). x + a % m * b) (mul_assoc (a / m) m b ∙ ap (λ (x : ℕ). a / m * x) (mul_comm m b) ∙ sym (mul_assoc (a / m) b m)))
    ∙ mul-add-mod_self_right (a / m * b) m (a % m * b))

pub mul-mod-r : (a b m : ℕ) → (a * (b % m)) % m ≡ (a * b) % m
mul-mod-r a b m = rw (mul_comm a (b % m), mul_comm a b) (mul-mod-l b a m)

-- a summand is cancelled
pub mod-cancel : (u w v m : ℕ) → 0 < m → (u + v) % m ≡ (w + v) % m → u % m ≡ w % m
mod-cancel u w v m hm e = sym (back u) ∙ ap (λ (x : ℕ). (x + (m - v % m)) % m) e ∙ back w
  where
    whole : (u : ℕ) → u + v + (m - v % m) ≡ u + (v / m * m + m)
    whole u = omega (arith, div-add-mod' v m, mod-lt v hm)

    back : (u : ℕ) → ((u + v) % m + (m - v % m)) % m ≡ u % m
    back u = mod-add-mod (u + v) m (m - v % m) ∙ ap (λ (x : ℕ). x % m) (whole u ∙ sym (add_assoc u (v / m * m) m)) ∙ add-mod_right (u + v / m * m) m ∙ add-mul-mod_self_right u (v / m) m

-- the product of two numbers of two digits

pub below : (k : ℕ) {a b : ℕ} → a < 2 ^ k → b < 2 ^ k → a * b < 2 ^ (k + k)
below k {a} {b} ha hb =
    rw (pow-add 2 k k) (lt_of_le_of_lt (mul-le-mul_left a (le_of_lt hb)) (mul-lt-mul_of_pos_right ha (pow_pos k)))

expand : (B h l k m : ℕ) → (h * B + l) * (k * B + m) ≡ h * k * (B * B) + ((h * m + l * k) * B + l * m)
expand B h l k m = simp (add-mul, mul-add) (omega (arith, p₁, p₂, p₃))
  where
    p₁ : h * B * (k * B) ≡ h * k * (B * B)
    p₁ = mul_assoc h B (k * B) ∙ ap (λ (x : ℕ). h * x) (mul_comm B (k * B) ∙ mul_assoc k B B) ∙ sym (mul_assoc h k (B * B))

    p₂ : l * (k * B) ≡ l * k * B
    p₂ = sym (mul_assoc l k B)

    p₃ : h * B * m ≡ h * m * B
    p₃ = mul_assoc h B m ∙ ap (λ (x : ℕ). h * x) (mul_comm B m) ∙ sym (mul_assoc h m B)

-- a product modulo the square of the base, from the products of the digits
pub product-digits : (B a b : ℕ) → 0 < B
    → (a % B * (b % B) + (a / B * (b % B) % B + a % B * (b / B) % B) % B * B) % (B * B) ≡ (a * b) % (B * B)
product-digits B a b hB =
    ap (λ (x : ℕ). (l + x) % (B * B)) (ap (λ (x : ℕ). x * B) (sym (add-mod (a / B * (b % B)) (a % B * (b / B)) B)) ∙ sym top)
    ∙ add-mod-mod l (X * B) (B * B) ∙ ap (λ (x : ℕ). x % (B * B)) (add_comm l (X * B))
    ∙ sym (mul-add-mod_self_right (a / B * (b / B)) (B * B) (X * B + l))
    ∙ ap (λ (x : ℕ). x % (B * B)) (sym (expand B (a / B) (a % B) (b / B) (b % B)) ∙ ap₂ (λ (x y : ℕ). x * y) (div-add-mod' a B) (div-add-mod' b B))
  where
    X : ℕ
    X = a / B * (b % B) + a % B * (b / B)

    l : ℕ
    l = a % B * (b % B)

    top : (X * B) % (B * B) ≡ X % B * B
    top = mod-mul (X * B) hB hB ∙ ap₂ (λ (x y : ℕ). x % B * B + y) (mul-div_cancel X hB) (mul-mod_left X B) ∙ add-zero (X % B * B)
