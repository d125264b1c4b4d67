-- Bitwise operations are associative, by induction on binary digits. Assumes nothing.
use Rattle.std.proofs.Common.{◌≡◌, ℕ, zero, suc, ◌+◌, ◌*◌, ◌/◌, ◌%◌, ◌<◌, min, max, sym, refl, ap, ◌∙◌, ap₂, mod-lt, arith, lit<}
use lib.Arith.{bin_ind, digits_div, digits_mod}
use lib.Bits.{bit_and, bit_or, bit_xor, differ, and_step, or_step, xor_step, and_zero_l, or_zero_l, xor_zero_l}

module _ (op f : ℕ → ℕ → ℕ)
    (step : (a b : ℕ) → op a b ≡ op (a / 2) (b / 2) * 2 + f (a % 2) (b % 2))
    (bit : (x y : ℕ) → x < 2 → y < 2 → f x y < 2)
    (bits : (x y z : ℕ) → x < 2 → y < 2 → z < 2 → f (f x y) z ≡ f x (f y z))
    (base : (b c : ℕ) → op (op 0 b) c ≡ op 0 (op b c)) where
  two : (x : ℕ) → x % 2 < 2
  two x = mod-lt x (lit< tt)

  half : (a b : ℕ) → op a b / 2 ≡ op (a / 2) (b / 2)
  half a b = ap (λ (x : ℕ). x / 2) (step a b) ∙ digits_div (op (a / 2) (b / 2)) (bit (a % 2) (b % 2) (two a) (two b))

  last : (a b : ℕ) → op a b % 2 ≡ f (a % 2) (b % 2)
  last a b = ap (λ (x : ℕ). x % 2) (step a b) ∙ digits_mod (op (a / 2) (b / 2)) (bit (a % 2) (b % 2) (two a) (two b))

  pub bitwise-assoc : (a b c : ℕ) → op (op a b) c ≡ op a (op b c)
  bitwise-assoc = bin_ind (λ (a : ℕ). (b c : ℕ) → op (op a b) c ≡ op a (op b c)) base
      (λ a ih b c.
      step (op a b) c ∙ ap₂ (λ (x y : ℕ). x * 2 + y)
      (ap (λ (x : ℕ). op x (c / 2)) (half a b) ∙ ih (b / 2) (c / 2) ∙ ap (op (a / 2)) (sym (half b c)))
      (ap (λ (x : ℕ). f x (c % 2)) (last a b) ∙ bits (a % 2) (b % 2) (c % 2) (two a) (two b) (two c) ∙ ap (f (a % 2)) (sym (last b c)))
      ∙ sym (step a (op b c)))

pub and_assoc : (a b c : ℕ) → bit_and (bit_and a b) c ≡ bit_and a (bit_and b c)
and_assoc = bitwise-assoc bit_and min and_step (λ x y h k. omega arith) (λ x y z h k l. omega arith) (λ b c. rw (and_zero_l b, and_zero_l c, and_zero_l (bit_and b c)))

pub or_assoc : (a b c : ℕ) → bit_or (bit_or a b) c ≡ bit_or a (bit_or b c)
or_assoc = bitwise-assoc bit_or max or_step (λ x y h k. omega arith) (λ x y z h k l. omega arith) (λ b c. rw (or_zero_l b, or_zero_l (bit_or b c)))

differ-bit : (x y : ℕ) → x < 2 → y < 2 → differ x y < 2
differ-bit zero y h k = k
differ-bit (suc zero) zero h k = h
differ-bit (suc zero) (suc zero) h k = lit< tt
differ-bit (suc zero) (suc (suc y)) h k = absurd (omega arith)
differ-bit (suc (suc x)) y h k = absurd (omega arith)

differ-assoc : (x y z : ℕ) → x < 2 → y < 2 → z < 2 → differ (differ x y) z ≡ differ x (differ y z)
differ-assoc zero y z h k l = refl
differ-assoc (suc zero) zero z h k l = refl
differ-assoc (suc zero) (suc zero) zero h k l = refl
differ-assoc (suc zero) (suc zero) (suc zero) h k l = refl
differ-assoc (suc zero) (suc zero) (suc (suc z)) h k l = absurd (omega arith)
differ-assoc (suc zero) (suc (suc y)) z h k l = absurd (omega arith)
differ-assoc (suc (suc x)) y z h k l = absurd (omega arith)

pub xor_assoc : (a b c : ℕ) → bit_xor (bit_xor a b) c ≡ bit_xor a (bit_xor b c)
xor_assoc = bitwise-assoc bit_xor differ xor_step differ-bit differ-assoc (λ b c. rw (xor_zero_l b, xor_zero_l (bit_xor b c)))
