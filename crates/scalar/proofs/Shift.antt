-- The laws that shifts, magnitudes and counts of bits cite. Assumes nothing.
use Rattle.std.proofs.Common.{◌≡◌, ℕ, zero, suc, ◌+◌, ◌-◌, ◌*◌, ◌/◌, ◌%◌, ◌^◌, ◌<◌, ◌≤◌, Bool, true, false, ◌&&◌, ◌||◌, leb, pos, negsuc, sym, refl, ap, ◌∙◌, ap₂, lt_of_le_of_lt, mod-eq_of_lt, div-le_self, add-one, arith, eq-eqb, ne_eqb, le-leb, leb-true}
use native.Mathlib.Nat.{mod-one}
use lib.Signed.{lt_z, le_z}
use lib.Dec.{leb-suc-zero}
use lib.Pow.{mod-mod-pow, field}
use lib.Count.{count_leading_zeros, ones, ones_in, ones_step, leading_length, leading_unique}
use borrow.Author.Tests.{lt-leb}
use Rattle.lists.specs.Lists.{pick}
use Rattle.element.specs.Types.{value_of, signed_of, width_of, lowest_of, highest_of, wrap_to, mask_of}
use Rattle.scalar.specs.Ops.{amount_out, shift_right_arithmetic_of, abs_of, shift_left_of, shift_right_logical_of}
use lib.Bits.{bit_and}
use Rattle.element.specs.declared.ElementType.{ElementType}
use Rattle.element.proofs.Slots.{sized, scaled-slot, low-is}
use Rattle.element.proofs.Signed.{value-plain, value-negative, value-small}

-- a shift's amount: one below 0 has a slot far above every width
pub amount-is : (t : ElementType) (b : ℕ) → amount_out t b ≡ leb (width_of t) b
unfolding value_of
amount-is t b = go (signed_of t) (leb (2 ^ 63) b) (leb-true (2 ^ 63) b)
  where
    go : (s h : Bool) → (h ≡ true → 2 ^ 63 ≤ b)
        → (lt_z (pick (s && h) (negsuc (2 ^ 64 - suc b)) (pos b)) (pos 0) || le_z (pos (width_of t)) (pick (s && h) (negsuc (2 ^ 64 - suc b)) (pos b))) ≡ leb (width_of t) b
    go true true l = sym (le-leb (width_of t) b (omega (arith, l refl, (sized t).most)))
    go true false l = rw (leb-suc-zero b)
    go false h l = rw (leb-suc-zero b)

-- the ways of an arithmetic shift

module _ (t : ElementType) {a b : ℕ} (h : a < 2 ^ 64) where
  small : b < width_of t → b < 2 ^ 63
  small l = omega (arith, l, (sized t).most)

  pub sra-low : lt_z (value_of t a) (pos 0) ≡ true → b < width_of t → 18446744073709551615 - (18446744073709551615 - a) / 2 ^ b ≡ shift_right_arithmetic_of t a b
  unfolding shift_right_arithmetic_of
  sra-low n l =
      let k : (2 ^ 64 - suc a) / 2 ^ b < 2 ^ 64 = lt_of_le_of_lt (div-le_self (2 ^ 64 - suc a) (2 ^ b)) (omega arith) in
      let e : 18446744073709551615 - a ≡ 2 ^ 64 - suc a = omega arith in
      rw (amount-is t b, lt-leb (width_of t) b l, (value-negative t a n).0, value-small t b (small l), mod-eq_of_lt k, e) (omega arith)

  pub sra-low-out : lt_z (value_of t a) (pos 0) ≡ true → width_of t ≤ b → 18446744073709551615 ≡ shift_right_arithmetic_of t a b
  unfolding shift_right_arithmetic_of
  sra-low-out n l = rw (amount-is t b, le-leb (width_of t) b l, n)

  pub sra-plain : lt_z (value_of t a) (pos 0) ≡ false → b < width_of t → a / 2 ^ b ≡ shift_right_arithmetic_of t a b
  unfolding shift_right_arithmetic_of
  sra-plain n l =
      let k : a / 2 ^ b < 2 ^ 64 = lt_of_le_of_lt (div-le_self a (2 ^ b)) h in
      rw (amount-is t b, lt-leb (width_of t) b l, value-plain t a n, value-small t b (small l), mod-eq_of_lt k)

  pub sra-plain-out : lt_z (value_of t a) (pos 0) ≡ false → width_of t ≤ b → 0 ≡ shift_right_arithmetic_of t a b
  unfolding shift_right_arithmetic_of
  sra-plain-out n l = rw (amount-is t b, le-leb (width_of t) b l, n)

-- counts of bits

-- zeros above a number of n bits in a word of N
pub leading-more : (n N r : ℕ) → n ≤ N → r < 2 ^ n → count_leading_zeros n r + (N - n) ≡ count_leading_zeros N r
leading-more n N r h l =
    let w = leading_length n r l in
    leading_unique N r (count_leading_zeros n r + (N - n)) w.0 (omega (arith, w.1)) w.2 w.3

-- the magnitude

module _ (t : ElementType) {a : ℕ} (h : a < 2 ^ 64) where
  pub abs-plain : lt_z (value_of t a) (pos 0) ≡ false → a ≡ abs_of t a
  unfolding abs_of
  abs-plain n = rw n

  pub abs-least : lt_z (value_of t a) (pos 0) ≡ true → a ≡ lowest_of t → highest_of t ≡ abs_of t a
  unfolding abs_of
  abs-least n e = rw (n, eq-eqb a (lowest_of t) e)

  pub abs-negative : {r : ℕ} → lt_z (value_of t a) (pos 0) ≡ true → (a ≡ lowest_of t → ⊥) → r < 2 ^ 64 → (r + a) % 2 ^ 64 ≡ 0 → r ≡ abs_of t a
  unfolding abs_of
  abs-negative n e g m =
      let v = value-negative t a n in
      let k : suc (2 ^ 64 - suc a) < 2 ^ 64 = omega (arith, v.1) in
      rw (n, ne_eqb a (lowest_of t) e, v.0, mod-eq_of_lt k) (omega arith)

-- the ways of the other shifts

module _ (t : ElementType) {a b : ℕ} (h : a < 2 ^ 64) where
  amount-in : b < width_of t → (amount_out t b ≡ false) × (value_of t b ≡ pos b)
  amount-in l = (amount-is t b ∙ lt-leb (width_of t) b l, value-small t b (omega (arith, l, (sized t).most)))

  pub shl-in : b < width_of t → wrap_to t (pos ((a * 2 ^ b) % 2 ^ 64)) ≡ shift_left_of t a b
  unfolding shift_left_of
  shl-in l = rw ((amount-in l).0, (amount-in l).1) (sym (scaled-slot t (2 ^ b) h))

  pub shl-out : width_of t ≤ b → 0 ≡ shift_left_of t a b
  unfolding shift_left_of
  shl-out l = rw (amount-is t b, le-leb (width_of t) b l)

  pub srl-in : b < width_of t → wrap_to t (pos (bit_and a (mask_of t) / 2 ^ b)) ≡ shift_right_logical_of t a b
  unfolding shift_right_logical_of
  srl-in l = rw ((amount-in l).0, (amount-in l).1, low-is t a)

  pub srl-out : width_of t ≤ b → 0 ≡ shift_right_logical_of t a b
  unfolding shift_right_logical_of
  srl-out l = rw (amount-is t b, le-leb (width_of t) b l)

-- the set digits among the k lowest
pub ones_low : (k n : ℕ) → ones_in k n ≡ ones (n % 2 ^ k)
unfolding ones_in ones
ones_low zero n = rw (mod-one n) refl
ones_low (suc k) n =
    ap₂ (λ (x y : ℕ). x + y) (sym (rw (add-one k) at (mod-mod-pow n k 1))) (ones_low k (n / 2) ∙ ap ones (sym (rw (add-one k) at (field n k 1))))
    ∙ sym (ones_step (n % 2 ^ suc k))
