-- Every operation gives a value of its type.
-- Assumes nothing.
use Rattle.std.proofs.Common.{◌≡◌, ℕ, suc, ◌-◌, ◌/◌, ◌%◌, ◌^◌, ◌<◌, ◌≤◌, Bool, true, false, eqb, ◌⊎◌, ℤ, pos, negsuc, ◌-ℤ◌, ◌*ℤ◌, neg_ℤ, refl, inl, inr, le_trans, lt_of_le_of_lt, mod-lt, mod-eq_of_lt, div-le_self, arith, pow_pos, pow_mono}
use lib.Signed.{mag, lt_z, shr_z, mag_shr}
use lib.Count.{leading_le, ones-le}
use borrow.Author.Tests.{eqb-false}
use Rattle.lists.specs.Lists.{pick}
use Rattle.element.specs.Types.{width_of, signed_of, bool_of, lowest_of, highest_of, value_of, wrap_to, slot_for, slot_of, SlotHolds}
use Rattle.element.specs.declared.ElementType.{ElementType}
use Rattle.element.specs.declared.ElementType.TheVariants.{I1}
use Rattle.element.proofs.Wrap.{wrap-signed}
use Rattle.element.proofs.Slots.{sized}
use Rattle.element.proofs.Signed.{value-unsigned, negative-signed, value-negative}
use Rattle.element.proofs.Range.{low_value, value-cases, value-lt, signed_range, unsigned-range, unsigned-value, wrapped-value}
use Rattle.element.proofs.Ends.{ends, zero-value}
use Rattle.scalar.specs.Ops.{negate_of, abs_of, sign_of, not_of, count_leading_zeros_of, popcnt_of, subtract_of, shift_left_of, shift_right_arithmetic_of, shift_right_logical_of, amount_out, amount_power, compare_of, holds, clamp_of, select_of, convert_of, iota_of, unary_of, binary_of}
use Rattle.scalar.specs.declared.Unary.{Unary}
use Rattle.scalar.specs.declared.Unary.TheVariants.{Negate, Abs, Sign, Not, CountLeadingZeros, Popcnt}
use Rattle.scalar.specs.declared.Binary.{Binary}
use Rattle.scalar.specs.declared.Binary.TheVariants.{Add, Subtract, Multiply, Maximum, Minimum, And, Or, Xor, ShiftLeft, ShiftRightArithmetic, ShiftRightLogical}
use Rattle.scalar.specs.declared.Direction.{Direction}
use Rattle.scalar.proofs.Shift.{ones_low}
use Rattle.scalar.proofs.Bitwise.{and-reducible, or-reducible, xor-reducible}
use Rattle.scalar.proofs.Order.{maximum-reducible, minimum-reducible}
use Rattle.scalar.proofs.Algebra.{add-reducible, multiply-reducible}

module _ (t : ElementType) where
  pick-value : (b : Bool) (x y : ℕ) → SlotHolds t x → SlotHolds t y → SlotHolds t (pick b x y)
  pick-value true x y u v = u
  pick-value false x y u v = v

  -- -1
  minus_one : signed_of t ≡ true → SlotHolds t (2 ^ 64 - 1)
  minus_one g = rw g at (ends t).all

  -- a number of a signed type's range
  in-range : signed_of t ≡ true → (z : ℤ) → mag z < 2 ^ (width_of t - 1) → SlotHolds t (slot_of z)
  unfolding wrap_to slot_for
  in-range g z h = rw (g, wrap-signed (width_of t) (sized t).least z h) at (wrapped-value t z)

  -- a count of bits of the type's width
  count : {k : ℕ} → k ≤ width_of t → SlotHolds t k
  count h = low_value t (le_trans h (ends t).width)

  -- the magnitude of a negative value but the lowest
  magnitude : (a : ℕ) → SlotHolds t a → lt_z (value_of t a) (pos 0) ≡ true → (a ≡ lowest_of t → ⊥) → SlotHolds t (slot_of (neg_ℤ (value_of t a)))
  magnitude a v n e = rw ((value-negative t a n).0, mod-eq_of_lt small) (low_value t (rw g (go (value-cases t v))))
    where
      g : signed_of t ≡ true
      g = negative-signed t a n

      h : 2 ^ 63 ≤ a
      h = (value-negative t a n).1

      p : 2 ^ (width_of t - 1) ≤ 2 ^ 63
      p = pow_mono {i = width_of t - 1} {j = 63} (omega (arith, (sized t).most))

      small : suc (2 ^ 64 - suc a) < 2 ^ 64
      small = omega (arith, h)

      go : (a ≤ highest_of t) ⊎ ((signed_of t ≡ true) × (lowest_of t ≤ a) × (a < 2 ^ 64)) → suc (2 ^ 64 - suc a) ≤ 2 ^ (width_of t - 1) - 1
      go (inl l) = let m : a ≤ 2 ^ (width_of t - 1) - 1 = rw g at l in absurd (omega (arith, h, p, pow_pos (width_of t - 1)))
      go (inr l) =
          let m : 2 ^ 64 - 2 ^ (width_of t - 1) ≤ a = rw g at l.1 in
          let d : a ≡ 2 ^ 64 - 2 ^ (width_of t - 1) → ⊥ = rw g at e in
          omega (arith, l.2, p)

  abs-closed : (a : ℕ) → SlotHolds t a → SlotHolds t (abs_of t a)
  unfolding abs_of
  abs-closed a v = go (lt_z (value_of t a) (pos 0)) (eqb a (lowest_of t)) refl (eqb-false a (lowest_of t))
    where
      go : (n e : Bool) → lt_z (value_of t a) (pos 0) ≡ n → (e ≡ false → a ≡ lowest_of t → ⊥) → SlotHolds t (pick n (pick e (highest_of t) (slot_of (neg_ℤ (value_of t a)))) a)
      go false e n d = v
      go true true n d = (ends t).highest
      go true false n d = magnitude a v n (d refl)

  sign-closed : (a : ℕ) → SlotHolds t (sign_of t a)
  unfolding sign_of
  sign-closed a = go (lt_z (value_of t a) (pos 0)) refl
    where
      go : (n : Bool) → lt_z (value_of t a) (pos 0) ≡ n → SlotHolds t (pick n (slot_of (negsuc 0)) (pick (eqb a 0) 0 1))
      go true n = minus_one (negative-signed t a n)
      go false n = pick-value (eqb a 0) 0 1 (zero-value t) (ends t).one

  popcnt-closed : (a : ℕ) → SlotHolds t (popcnt_of t a)
  unfolding popcnt_of
  popcnt-closed a = rw (ones_low (width_of t) a) (count (ones-le (width_of t) (a % 2 ^ width_of t) (mod-lt a (pow_pos (width_of t)))))

  -- a value divided, rounded down
  shifted : (a m : ℕ) → SlotHolds t a → SlotHolds t (slot_of (shr_z (value_of t a) m))
  shifted a m v = go (signed_of t) refl
    where
      go : (s : Bool) → signed_of t ≡ s → SlotHolds t (slot_of (shr_z (value_of t a) m))
      go true g = in-range g (shr_z (value_of t a) m) (lt_of_le_of_lt (mag_shr (value_of t a) m) (signed_range t a v g))
      go false g =
          let l : a / m < 2 ^ width_of t = lt_of_le_of_lt (div-le_self a m) (unsigned-range t a v g) in
          rw (value-unsigned t a g, mod-eq_of_lt (lt_of_le_of_lt (div-le_self a m) (value-lt t a v))) (unsigned-value t g l)

  arithmetic-closed : (a b : ℕ) → SlotHolds t a → SlotHolds t (shift_right_arithmetic_of t a b)
  unfolding shift_right_arithmetic_of
  arithmetic-closed a b v = go (amount_out t b) (lt_z (value_of t a) (pos 0)) refl
    where
      go : (o n : Bool) → lt_z (value_of t a) (pos 0) ≡ n → SlotHolds t (slot_of (pick o (pick n (negsuc 0) (pos 0)) (shr_z (value_of t a) (amount_power t b))))
      go true true e = minus_one (negative-signed t a e)
      go true false e = zero-value t
      go false n e = shifted a (amount_power t b) v

pub unary-closed : (op : Unary) (t : ElementType) (a : ℕ) → SlotHolds t a → SlotHolds t (unary_of op t a)
unfolding negate_of not_of count_leading_zeros_of
unary-closed Negate t a v = wrapped-value t (neg_ℤ (value_of t a))
unary-closed Abs t a v = abs-closed t a v
unary-closed Sign t a v = sign-closed t a
unary-closed Not t a v = (xor-reducible t).closed a _ v (ends t).all
unary-closed CountLeadingZeros t a v = count t (leading_le (width_of t) (a % 2 ^ width_of t))
unary-closed Popcnt t a v = popcnt-closed t a

pub binary-closed : (op : Binary) (t : ElementType) (a b : ℕ) → SlotHolds t a → SlotHolds t b → SlotHolds t (binary_of op t a b)
unfolding subtract_of shift_left_of shift_right_logical_of
binary-closed Add t a b u v = (add-reducible t).closed a b u v
binary-closed Subtract t a b u v = wrapped-value t (value_of t a -ℤ value_of t b)
binary-closed Multiply t a b u v = (multiply-reducible t).closed a b u v
binary-closed Maximum t a b u v = (maximum-reducible t).closed a b u v
binary-closed Minimum t a b u v = (minimum-reducible t).closed a b u v
binary-closed And t a b u v = (and-reducible t).closed a b u v
binary-closed Or t a b u v = (or-reducible t).closed a b u v
binary-closed Xor t a b u v = (xor-reducible t).closed a b u v
binary-closed ShiftLeft t a b u v = pick-value t (amount_out t b) 0 _ (zero-value t) (wrapped-value t (value_of t a *ℤ pos (amount_power t b)))
binary-closed ShiftRightArithmetic t a b u v = arithmetic-closed t a b u
binary-closed ShiftRightLogical t a b u v = pick-value t (amount_out t b) 0 _ (zero-value t) (wrapped-value t (pos (a % 2 ^ width_of t / amount_power t b)))

pub compare-closed : (d : Direction) (t : ElementType) (a b : ℕ) → SlotHolds I1 (compare_of d t a b)
unfolding compare_of
compare-closed d t a b = pick-value I1 (holds d t a b) 1 0 (ends I1).one (zero-value I1)

pub clamp-closed : (t : ElementType) (min x max : ℕ) → SlotHolds t min → SlotHolds t x → SlotHolds t max → SlotHolds t (clamp_of t min x max)
unfolding clamp_of
clamp-closed t min x max u v w = (minimum-reducible t).closed _ max ((maximum-reducible t).closed x min v u) w

pub select-closed : (t : ElementType) (pred a b : ℕ) → SlotHolds t a → SlotHolds t b → SlotHolds t (select_of pred a b)
unfolding select_of
select-closed t pred a b u v = pick-value t (eqb pred 0) b a v u

pub convert-closed : (from to : ElementType) (a : ℕ) → SlotHolds to (convert_of from to a)
unfolding convert_of
convert-closed from to a =
    pick-value to (bool_of to) _ _ (pick-value to (eqb a 0) 0 1 (zero-value to) (ends to).one) (wrapped-value to (value_of from a))

pub iota-closed : (t : ElementType) (k : ℕ) → SlotHolds t (iota_of t k)
unfolding iota_of
iota-closed t k = wrapped-value t (pos k)
