-- The number that a slot holds by its sign and size, and the slot that holds a number.
-- Assumes nothing.
use mathlib.Core.Path.{◌≡◌, refl, sym, ap, ◌∙◌}
use mathlib.Core.Bool.{Bool, true, false}
use Prim.Native.Nat.{ℕ, zero, suc, ◌+◌, ◌-◌, ◌%◌, ◌^◌, ◌≤◌, ◌<◌}
use native.Mathlib.Nat.{mod-eq_of_lt}
use native.Mathlib.Omega.{arith}
use lib.Pow.{pow_pos, pow_mono}
use lib.IntN.{ℤ, pos, negsuc, neg_ℤ, nat_abs}
use lib.Signed.{lt_z}
use Rattle.element.specs.Types.{width_of, signed_of, highest_of, lowest_of, slot_of, slot_for, value_of, SlotHolds}
use Rattle.element.specs.declared.ElementType.{ElementType}
use Rattle.element.proofs.Slots.{sized}
use Rattle.element.proofs.Signed.{value-plain, value-negative, value-small, value-signed, value-unsigned, read-high}
use Rattle.element.proofs.Range.{low_value, high_value}

-- the number that a slot holds, without its sign
module _ (t : ElementType) {a : ℕ} where
  pub magnitude-negative : {r : ℕ} → lt_z (value_of t a) (pos 0) ≡ true → a < 2 ^ 64 → r < 2 ^ 64 → (r + a) % 2 ^ 64 ≡ 0 → r ≡ nat_abs (value_of t a)
  magnitude-negative e l k m = let v : 2 ^ 63 ≤ a = (value-negative t a e).1 in rw (value-negative t a e).0 (omega arith)

  pub magnitude-plain : lt_z (value_of t a) (pos 0) ≡ false → a ≡ nat_abs (value_of t a)
  magnitude-plain e = rw (value-plain t a e)

-- the slot that holds a number

pub slot-pos : (n : ℕ) → n < 2 ^ 64 → slot_of (pos n) ≡ n
slot-pos n h = mod-eq_of_lt h

pub slot-negsuc : (n : ℕ) → n < 2 ^ 64 → slot_of (negsuc n) ≡ 2 ^ 64 - 1 - n
slot-negsuc n h = let e : n % 2 ^ 64 ≡ n = mod-eq_of_lt h in rw e (omega arith)

module _ (t : ElementType) where
  pub slot-plus : (m : ℕ) → m < 2 ^ 64 → m ≡ slot_for t (pos m)
  unfolding slot_for
  slot-plus m h = sym (slot-pos m h)

  pub slot-minus : (m : ℕ) {r : ℕ} → m < 2 ^ 64 → r < 2 ^ 64 → (r + m) % 2 ^ 64 ≡ 0 → r ≡ slot_for t (neg_ℤ (pos m))
  unfolding slot_for
  slot-minus zero h k e = omega arith
  slot-minus (suc n) h k e = let l : n < 2 ^ 64 = omega arith in rw (slot-negsuc n l) (omega arith)

-- the highest value of a type is below 2^64, of a signed one below 2^63

pub highest-small : (t : ElementType) → highest_of t < 2 ^ 64
highest-small t = go (signed_of t) refl
  where
    go : (b : Bool) → signed_of t ≡ b → highest_of t < 2 ^ 64
    go true g = rw g (omega (arith, pow_pos (width_of t - 1), pow_mono {i = width_of t - 1} {j = 64} (omega (arith, (sized t).most))))
    go false g = rw g (omega (arith, pow_pos (width_of t), pow_mono (sized t).most))

pub signed-small : (t : ElementType) → signed_of t ≡ true → highest_of t < 2 ^ 63
signed-small t g = rw g (omega (arith, pow_pos (width_of t - 1), pow_mono {i = width_of t - 1} {j = 63} (omega (arith, (sized t).most))))

-- the lowest value's slot is as far below 2^64 as the highest is above -1
lowest-highest : (t : ElementType) → signed_of t ≡ true → 2 ^ 64 - 1 - highest_of t ≡ lowest_of t
lowest-highest t g = rw g (omega (arith, pow_pos (width_of t - 1), pow_mono {i = width_of t - 1} {j = 64} (omega (arith, (sized t).most))))

-- a number in the type's range: its slot is a value of the type and holds it
pub record Held (t : ElementType) (z : ℤ) : Type 0 where
  pub value : SlotHolds t (slot_for t z)
  pub holds : value_of t (slot_for t z) ≡ z

module _ (t : ElementType) (n : ℕ) (h : n ≤ highest_of t) where
  pub held-pos : Held t (pos n)
  unfolding slot_for
  held-pos =
      let e : slot_of (pos n) ≡ n = slot-pos n (omega (arith, highest-small t)) in
      record { value = rw e (low_value t h); holds = rw e (by_sign (signed_of t) refl) }
    where
      by_sign : (b : Bool) → signed_of t ≡ b → value_of t n ≡ pos n
      by_sign true g = value-small t n (omega (arith, signed-small t g))
      by_sign false g = value-unsigned t n g

  pub held-negsuc : signed_of t ≡ true → Held t (negsuc n)
  unfolding slot_for
  held-negsuc g =
      let s = signed-small t g in
      let e : slot_of (negsuc n) ≡ 2 ^ 64 - 1 - n = slot-negsuc n (omega arith) in
      let l = lowest-highest t g in
      let f : 18446744073709551615 - (2 ^ 64 - 1 - n) ≡ n = omega arith in
      record {
        value = rw e (high_value t g (omega arith) (omega arith));
        holds = rw e (value-signed t (2 ^ 64 - 1 - n) g ∙ read-high {s = 2 ^ 64 - 1 - n} (omega arith) (omega arith) ∙ ap negsuc f);
      }
