-- The laws of slots that the functions' proofs cite, for every element type, from those over the width. Assumes nothing.
use mathlib.Core.Path.{◌≡◌, refl, sym, ap, ap₂, ◌∙◌}
use mathlib.Core.Bool.{true, false}
use Prim.Native.Nat.{ℕ, ◌+◌, ◌-◌, ◌*◌, ◌/◌, ◌%◌, ◌^◌, ◌≤◌, ◌<◌}
use native.Mathlib.Nat.{mod-eq_of_lt, mod-lt, mod-mod}
use native.Mathlib.Omega.{arith}
use lib.Pow.{pow_pos, pow_mono}
use lib.Bits.{bit_and, and_mask}
use lib.IntN.{ℤ, pos, ◌+ℤ◌, ◌*ℤ◌, ◌-ℤ◌, neg_ℤ, -ℤ-+ℤ_cancel}
use Rattle.element.proofs.Mod.{mul-mod-r}
use lib.Dec.{lit≤}
use borrow.Author.Tests.{le-leb, lt-leb}
use Rattle.element.specs.Types.{wrap, width_of, signed_of, mask_of, value_of, wrap_to, slot_for, slot_of}
use Rattle.element.specs.declared.ElementType.{ElementType}
use Rattle.element.specs.declared.ElementType.TheVariants.{I1, I8, I16, I32, I64, U8, U16, U32, U64}
use Rattle.element.proofs.Residue.{residue-lt, only, residue-add, residue-mul, residue-neg}
use Rattle.element.proofs.Wrap.{extend, wrap-extend, read-slot}

-- what the nine types have in common
pub record Sized (t : ElementType) : Type 0 where
  pub least : 1 ≤ width_of t
  pub most : width_of t ≤ 64
  pub half : mask_of t / 2 ≡ 2 ^ (width_of t - 1) - 1

pub sized : (t : ElementType) → Sized t
sized I1 = record { least = lit≤ tt; most = lit≤ tt; half = refl }
sized I8 = record { least = lit≤ tt; most = lit≤ tt; half = refl }
sized I16 = record { least = lit≤ tt; most = lit≤ tt; half = refl }
sized I32 = record { least = lit≤ tt; most = lit≤ tt; half = refl }
sized I64 = record { least = lit≤ tt; most = lit≤ tt; half = refl }
sized U8 = record { least = lit≤ tt; most = lit≤ tt; half = refl }
sized U16 = record { least = lit≤ tt; most = lit≤ tt; half = refl }
sized U32 = record { least = lit≤ tt; most = lit≤ tt; half = refl }
sized U64 = record { least = lit≤ tt; most = lit≤ tt; half = refl }

-- a value's slot

pub slot-value : (t : ElementType) {s : ℕ} → s < 2 ^ 64 → slot_of (value_of t s) ≡ s
unfolding value_of
slot-value t {s} h = read-slot (signed_of t) 64 s h

pub wrap_to-is : (t : ElementType) (z : ℤ) → wrap_to t z ≡ extend 64 (signed_of t) (width_of t) (slot_of z)
unfolding wrap_to slot_for
wrap_to-is t z = wrap-extend (width_of t) 64 (sized t).most (signed_of t) z

-- the type's range takes two integers to one slot where they are congruent modulo 2^64
pub wrap_to-cong : (t : ElementType) (x y : ℤ) → slot_of x ≡ slot_of y → wrap_to t x ≡ wrap_to t y
wrap_to-cong t x y e = wrap_to-is t x ∙ ap (extend 64 (signed_of t) (width_of t)) e ∙ sym (wrap_to-is t y)

-- what `fit` computes

pub low-is : (t : ElementType) (x : ℕ) → bit_and x (mask_of t) ≡ x % 2 ^ width_of t
low-is t x = and_mask x (width_of t)

pub fit_is : (t : ElementType) {x : ℕ} → x < 2 ^ 64 → wrap_to t (pos x) ≡ extend 64 (signed_of t) (width_of t) x
fit_is t {x} h = wrap_to-is t (pos x) ∙ ap (extend 64 (signed_of t) (width_of t)) (mod-eq_of_lt h)

-- its three answers, with m for the mask
module _ (t : ElementType) {x m : ℕ} (h : x < 2 ^ 64) (e : m ≡ mask_of t) where
  is-low : bit_and x m ≡ x % 2 ^ width_of t
  is-low = rw e (low-is t x)

  is-half : m / 2 ≡ 2 ^ (width_of t - 1) - 1
  is-half = rw e (sized t).half

  pub fit-high-fits : bit_and x m + (18446744073709551615 - m) < 2 ^ 64
  fit-high-fits = omega (arith, is-low, e, mod-lt x (pow_pos (width_of t)), pow_mono (sized t).most)

  pub fit-high : signed_of t ≡ true → m / 2 < bit_and x m → bit_and x m + (18446744073709551615 - m) ≡ wrap_to t (pos x)
  fit-high s g =
      let l : 2 ^ (width_of t - 1) ≤ x % 2 ^ width_of t = omega (arith, is-low, is-half, g) in
      rw (fit_is t h) (simp (s, le-leb _ _ l) (omega (arith, is-low, e, pow_pos (width_of t), pow_mono (sized t).most)))

  pub fit_low : signed_of t ≡ true → bit_and x m ≤ m / 2 → bit_and x m ≡ wrap_to t (pos x)
  fit_low s g =
      let l : x % 2 ^ width_of t < 2 ^ (width_of t - 1) = omega (arith, is-low, is-half, g, pow_pos (width_of t - 1)) in
      rw (fit_is t h) (simp (s, lt-leb _ _ l) is-low)

  pub fit-unsigned : signed_of t ≡ false → bit_and x m ≡ wrap_to t (pos x)
  fit-unsigned s = rw (fit_is t h) (simp s is-low)

-- sums, products and negations of values, by those of slots

module _ (t : ElementType) {a b : ℕ} (ha : a < 2 ^ 64) (hb : b < 2 ^ 64) where
  pub sum-slot : wrap_to t (value_of t a +ℤ value_of t b) ≡ wrap_to t (pos ((a + b) % 2 ^ 64))
  sum-slot =
      wrap_to-cong t (value_of t a +ℤ value_of t b) (pos ((a + b) % 2 ^ 64))
      (residue-add (2 ^ 64) (pow_pos 64) (value_of t a) (value_of t b) ∙ ap₂ (λ (x y : ℕ). (x + y) % 2 ^ 64) (slot-value t ha) (slot-value t hb) ∙ sym (mod-mod (a + b) (2 ^ 64)))

  pub product-slot : wrap_to t (value_of t a *ℤ value_of t b) ≡ wrap_to t (pos ((a * b) % 2 ^ 64))
  product-slot =
      wrap_to-cong t (value_of t a *ℤ value_of t b) (pos ((a * b) % 2 ^ 64))
      (residue-mul (2 ^ 64) (pow_pos 64) (value_of t a) (value_of t b) ∙ ap₂ (λ (x y : ℕ). (x * y) % 2 ^ 64) (slot-value t ha) (slot-value t hb) ∙ sym (mod-mod (a * b) (2 ^ 64)))

-- b is the slot that a added to gives 0
pub negation-slot : (t : ElementType) {a : ℕ} (b : ℕ) → a < 2 ^ 64 → (b + a) % 2 ^ 64 ≡ 0 → wrap_to t (neg_ℤ (value_of t a)) ≡ wrap_to t (pos b)
negation-slot t {a} b ha e =
    wrap_to-cong t (neg_ℤ (value_of t a)) (pos b)
    (only (2 ^ 64) (pow_pos 64) (slot_of (neg_ℤ (value_of t a))) b (slot_of (value_of t a)) (residue-lt (2 ^ 64) (pow_pos 64) (neg_ℤ (value_of t a)))
    (residue-neg (2 ^ 64) (pow_pos 64) (value_of t a) ∙ sym (rw (slot-value t ha) e)))

pub value-slot : (t u : ElementType) {a : ℕ} → a < 2 ^ 64 → wrap_to u (value_of t a) ≡ wrap_to u (pos a)
value-slot t u {a} h = wrap_to-cong u (value_of t a) (pos a) (slot-value t h ∙ sym (mod-eq_of_lt h))

pub wrap_to-lt : (t : ElementType) (z : ℤ) → wrap_to t z < 2 ^ 64
unfolding wrap_to slot_for
wrap_to-lt t z = residue-lt (2 ^ 64) (pow_pos 64) (wrap (signed_of t) (width_of t) z)

-- b added to c gives a
pub difference-slot : (t : ElementType) {a b : ℕ} (c : ℕ) → a < 2 ^ 64 → b < 2 ^ 64 → (c + b) % 2 ^ 64 ≡ a → wrap_to t (value_of t a -ℤ value_of t b) ≡ wrap_to t (pos c)
difference-slot t {a} {b} c ha hb e =
    wrap_to-cong t (value_of t a -ℤ value_of t b) (pos c)
    (only (2 ^ 64) (pow_pos 64) (slot_of (value_of t a -ℤ value_of t b)) c (slot_of (value_of t b)) (residue-lt (2 ^ 64) (pow_pos 64) (value_of t a -ℤ value_of t b))
    (sym (residue-add (2 ^ 64) (pow_pos 64) (value_of t a -ℤ value_of t b) (value_of t b)) ∙ ap slot_of (-ℤ-+ℤ_cancel (value_of t a) (value_of t b)) ∙ slot-value t ha
    ∙ sym (rw (slot-value t hb) e)))

-- a value times a natural number
pub scaled-slot : (t : ElementType) {a : ℕ} (k : ℕ) → a < 2 ^ 64 → wrap_to t (value_of t a *ℤ pos k) ≡ wrap_to t (pos ((a * k) % 2 ^ 64))
scaled-slot t {a} k ha =
    wrap_to-cong t (value_of t a *ℤ pos k) (pos ((a * k) % 2 ^ 64))
    (residue-mul (2 ^ 64) (pow_pos 64) (value_of t a) (pos k) ∙ ap (λ (x : ℕ). (x * (k % 2 ^ 64)) % 2 ^ 64) (slot-value t ha) ∙ mul-mod-r a k (2 ^ 64) ∙ sym (mod-mod (a * k) (2 ^ 64)))
