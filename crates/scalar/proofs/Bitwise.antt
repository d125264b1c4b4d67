-- Bitwise operations on slots: they give values of the type, are associative and have their identities. A slot of a signed type holds
-- a value where its bits from the sign on are all clear or all set.
-- Assumes nothing.
use Rattle.std.proofs.Common.{◌≡◌, ℕ, ◌+◌, ◌-◌, ◌*◌, ◌/◌, ◌^◌, ◌<◌, ◌≤◌, Bool, true, false, ◌⊎◌, refl, ◌∙◌, inl, inr, mod-eq_of_lt, div-lt_iff_lt-mul, add-mul, one-mul, div-mul-le_self, arith, lit<, pow_pos, pow_mono}
use native.Mathlib.Nat.{div-eq_of_lt, div-eq_of_lt-le}
use lib.Pow.{high_ones}
use lib.Bits.{bit_and, bit_or, bit_xor, and_shr, or_shr, xor_shr, and_lt, or_lt, xor_lt, and_zero_l, and_zero_r, or_zero_l, or_zero_r, xor_zero_l, xor_zero_r, and_self, or_self, xor_self, and_comm, and_mask}
use Rattle.element.specs.Types.{width_of, signed_of, SlotHolds, lowest_of, highest_of, all_of}
use Rattle.element.specs.declared.ElementType.{ElementType}
use Rattle.element.proofs.Slots.{sized}
use Rattle.element.proofs.Range.{low_value, high_value, value-cases, value-lt, unsigned-range, unsigned-value}
use Rattle.element.proofs.Ends.{ends, zero-value}
use Rattle.scalar.specs.Body.{Reducible}
use Rattle.scalar.proofs.BitAssoc.{and_assoc, or_assoc, xor_assoc}

-- all clear or all set
abbrev Uniform : ℕ → ℕ → Type 0
Uniform j x = (x ≡ 0) ⊎ (x ≡ 2 ^ j - 1)

module _ (t : ElementType) (g : signed_of t ≡ true) where
  -- bits below the sign, and from it on
  abbrev low : ℕ
  low = width_of t - 1

  abbrev top : ℕ
  top = 64 - low

  whole : 2 ^ 64 - 2 ^ low ≡ (2 ^ top - 1) * 2 ^ low
  whole = rw e at (high_ones top low)
    where
      e : top + low ≡ 64
      e = omega (arith, (sized t).most)

  less : 2 ^ low ≤ 2 ^ 64
  less = pow_mono {i = low} {j = 64} (omega (arith, (sized t).most))

  uniform : (s : ℕ) → SlotHolds t s → Uniform top (s / 2 ^ low)
  uniform s v = go (value-cases t v)
    where
      go : (s ≤ highest_of t) ⊎ ((signed_of t ≡ true) × (lowest_of t ≤ s) × (s < 2 ^ 64)) → Uniform top (s / 2 ^ low)
      go (inl h) = let l : s ≤ 2 ^ low - 1 = rw g at h in inl (div-eq_of_lt (omega (arith, pow_pos low)))
      go (inr h) =
          let m : 2 ^ 64 - 2 ^ low ≤ s = rw g at h.1 in
          inr (div-eq_of_lt-le (2 ^ low) (rw whole at m) (rw (add-mul (2 ^ top - 1) 1 (2 ^ low), one-mul (2 ^ low)) (omega (arith, whole, h.2, less))))

  from-uniform : (s : ℕ) → s < 2 ^ 64 → Uniform top (s / 2 ^ low) → SlotHolds t s
  from-uniform s h (inl e) = low_value t (rw g (omega (arith, (div-lt_iff_lt-mul {x = s} {y = 1} (pow_pos low)).0 (rw e (lit< tt)), one-mul (2 ^ low))))
  from-uniform s h (inr e) = high_value t g (rw (g, whole, ← e) (div-mul-le_self s (2 ^ low))) h

-- an operation that goes digit by digit and keeps uniform digits uniform
module _ (op : ℕ → ℕ → ℕ)
    (shr : (a b k : ℕ) → op a b / 2 ^ k ≡ op (a / 2 ^ k) (b / 2 ^ k))
    (lt : (k a b : ℕ) → a < 2 ^ k → b < 2 ^ k → op a b < 2 ^ k)
    (keeps : (j x y : ℕ) → Uniform j x → Uniform j y → Uniform j (op x y)) where
  bitwise-closed : (t : ElementType) (a b : ℕ) → SlotHolds t a → SlotHolds t b → SlotHolds t (op a b)
  bitwise-closed t a b x y = go (signed_of t) refl
    where
      go : (s : Bool) → signed_of t ≡ s → SlotHolds t (op a b)
      go true g =
          from-uniform t g (op a b) (lt 64 a b (value-lt t a x) (value-lt t b y))
          (rw (shr a b (low t g)) (keeps (top t g) (a / 2 ^ low t g) (b / 2 ^ low t g) (uniform t g a x) (uniform t g b y)))
      go false g = unsigned-value t g (lt (width_of t) a b (unsigned-range t a x g) (unsigned-range t b y g))

and_keeps : (j x y : ℕ) → Uniform j x → Uniform j y → Uniform j (bit_and x y)
and_keeps j x y (inl e) v = inl (rw e (and_zero_l y))
and_keeps j x y (inr e) (inl f) = inl (rw f (and_zero_r x))
and_keeps j x y (inr e) (inr f) = inr (rw (e, f) (and_self (2 ^ j - 1)))

or-keeps : (j x y : ℕ) → Uniform j x → Uniform j y → Uniform j (bit_or x y)
or-keeps j x y (inl e) v = rw (e, or_zero_l y) v
or-keeps j x y (inr e) (inl f) = inr (rw (f, or_zero_r x) e)
or-keeps j x y (inr e) (inr f) = inr (rw (e, f) (or_self (2 ^ j - 1)))

xor-keeps : (j x y : ℕ) → Uniform j x → Uniform j y → Uniform j (bit_xor x y)
xor-keeps j x y (inl e) v = rw (e, xor_zero_l y) v
xor-keeps j x y (inr e) (inl f) = inr (rw (f, xor_zero_r x) e)
xor-keeps j x y (inr e) (inr f) = inl (rw (e, f) (xor_self (2 ^ j - 1)))

and-all : (t : ElementType) (a : ℕ) → SlotHolds t a → bit_and a (all_of t) ≡ a
and-all t a x = go (signed_of t) refl
  where
    go : (s : Bool) → signed_of t ≡ s → bit_and a (all_of t) ≡ a
    go true g = rw g (and_mask a 64 ∙ mod-eq_of_lt (value-lt t a x))
    go false g = rw g (and_mask a (width_of t) ∙ mod-eq_of_lt (unsigned-range t a x g))

module _ (t : ElementType) where
  pub or-reducible : Reducible (SlotHolds t) bit_or 0
  or-reducible = record {
    neutral = zero-value t;
    closed = bitwise-closed bit_or or_shr or_lt or-keeps t;
    assoc = λ a b c x y z. or_assoc a b c;
    left = λ a x. or_zero_l a;
    right = λ a x. or_zero_r a;
  }

  pub xor-reducible : Reducible (SlotHolds t) bit_xor 0
  xor-reducible = record {
    neutral = zero-value t;
    closed = bitwise-closed bit_xor xor_shr xor_lt xor-keeps t;
    assoc = λ a b c x y z. xor_assoc a b c;
    left = λ a x. xor_zero_l a;
    right = λ a x. xor_zero_r a;
  }

  pub and-reducible : Reducible (SlotHolds t) bit_and (all_of t)
  and-reducible = record {
    neutral = (ends t).all;
    closed = bitwise-closed bit_and and_shr and_lt and_keeps t;
    assoc = λ a b c x y z. and_assoc a b c;
    left = λ a x. and_comm (all_of t) a ∙ and-all t a x;
    right = and-all t;
  }
