-- Slots that hold a value of their type: an integer taken into the range is one, and taking one into the range leaves it.
-- Assumes nothing.
use mathlib.Core.Path.{◌≡◌, refl, ap, ◌∙◌}
use mathlib.Core.Logic.{◌⊎◌, inl, inr}
use mathlib.Core.Bool.{Bool, true, false, ◌&&◌, ◌||◌}
use Prim.Native.Nat.{ℕ, ◌+◌, ◌-◌, ◌%◌, ◌^◌, ◌≤◌, ◌<◌}
use native.Mathlib.Nat.{mod-eq_of_lt, mod-lt, lt_of_lt_of_le}
use native.Mathlib.Omega.{arith}
use lib.Pow.{pow_pos, pow_mono}
use lib.IntN.{ℤ, pos}
use lib.Signed.{mag}
use lib.Dec.{leb, ltb}
use borrow.Author.Tests.{ltb-true, leb-true, leb-false, lt-ltb, le-leb, lt-leb}
use Rattle.lists.specs.Lists.{pick}
use Rattle.element.specs.Types.{read, wrap, width_of, signed_of, value_of, wrap_to, slot_for, slot_of, is_value, SlotHolds, lowest_of, highest_of}
use Rattle.element.specs.declared.ElementType.{ElementType}
use Rattle.element.proofs.Wrap.{extend, wrap-signed, wrap-unsigned, power}
use Rattle.element.proofs.Slots.{sized, slot-value, wrap_to-is}
use Rattle.element.proofs.Signed.{value-signed, value-unsigned, read_low, read-high}

-- the two parts of a type's values: from 0 on, and the negative ones

or-true : (b : Bool) → (b || true) ≡ true
or-true true = refl
or-true false = refl

module _ (t : ElementType) {s : ℕ} where
  pub low_value : s ≤ highest_of t → SlotHolds t s
  unfolding is_value
  low_value h = rw (le-leb s (highest_of t) h)

  pub high_value : signed_of t ≡ true → lowest_of t ≤ s → s < 2 ^ 64 → SlotHolds t s
  unfolding is_value
  high_value g l h =
      let m : 2 ^ 64 - 2 ^ (width_of t - 1) ≤ s = rw g at l in
      rw (g, le-leb (2 ^ 64 - 2 ^ (width_of t - 1)) s m, lt-ltb s (2 ^ 64) h) (or-true (leb s (2 ^ (width_of t - 1) - 1)))

  pub value-cases : SlotHolds t s → (s ≤ highest_of t) ⊎ ((signed_of t ≡ true) × (lowest_of t ≤ s) × (s < 2 ^ 64))
  unfolding is_value
  value-cases v =
      go (leb s (highest_of t)) (signed_of t) (leb (lowest_of t) s) (ltb s (2 ^ 64)) (leb-true s (highest_of t)) (λ e. e) (leb-true (lowest_of t) s) (ltb-true s (2 ^ 64)) v
    where
      go : (b g p q : Bool) → (b ≡ true → s ≤ highest_of t) → (g ≡ true → signed_of t ≡ true) → (p ≡ true → lowest_of t ≤ s) → (q ≡ true → s < 2 ^ 64)
          → (b || (g && p && q)) ≡ true → (s ≤ highest_of t) ⊎ ((signed_of t ≡ true) × (lowest_of t ≤ s) × (s < 2 ^ 64))
      go true g p q a b c d e = inl (a refl)
      go false true true true a b c d e = inr (b refl, c refl, d refl)
      go false true true false a b c d e = let z : ◌≡◌ {A = ℕ} 0 1 = cc in absurd (omega arith)
      go false true false q a b c d e = let z : ◌≡◌ {A = ℕ} 0 1 = cc in absurd (omega arith)
      go false false p q a b c d e = let z : ◌≡◌ {A = ℕ} 0 1 = cc in absurd (omega arith)

-- every value's slot has 64 bits
pub value-lt : (t : ElementType) (s : ℕ) → SlotHolds t s → s < 2 ^ 64
value-lt t s v = go (signed_of t) refl (value-cases t v)
  where
    go : (b : Bool) → signed_of t ≡ b → (s ≤ highest_of t) ⊎ ((signed_of t ≡ true) × (lowest_of t ≤ s) × (s < 2 ^ 64)) → s < 2 ^ 64
    go b g (inr h) = h.2
    go true g (inl h) = omega (arith, rw g at h, pow_pos (width_of t - 1), pow_mono {i = width_of t - 1} {j = 64} (omega (arith, (sized t).most)))
    go false g (inl h) = omega (arith, rw g at h, pow_pos (width_of t), pow_mono (sized t).most)

module _ (t : ElementType) (s : ℕ) (v : SlotHolds t s) where
  pub unsigned-range : signed_of t ≡ false → s < 2 ^ width_of t
  unsigned-range g = go (value-cases t v)
    where
      go : (s ≤ highest_of t) ⊎ ((signed_of t ≡ true) × (lowest_of t ≤ s) × (s < 2 ^ 64)) → s < 2 ^ width_of t
      go (inl h) = omega (arith, rw g at h, pow_pos (width_of t))
      go (inr h) = let z : ◌≡◌ {A = ℕ} 0 1 = cc h.0 in absurd (omega arith)

  pub signed_range : signed_of t ≡ true → mag (value_of t s) < 2 ^ (width_of t - 1)
  signed_range g = rw (value-signed t s g) (go (value-cases t v))
    where
      p : 2 ^ (width_of t - 1) ≤ 2 ^ 63
      p = pow_mono {i = width_of t - 1} {j = 63} (omega (arith, (sized t).most))

      go : (s ≤ highest_of t) ⊎ ((signed_of t ≡ true) × (lowest_of t ≤ s) × (s < 2 ^ 64)) → mag (read true 64 s) < 2 ^ (width_of t - 1)
      go (inl h) =
          let l : s ≤ 2 ^ (width_of t - 1) - 1 = rw g at h in
          rw (read_low {s = s} (omega (arith, p, pow_pos (width_of t - 1)))) (omega (arith, pow_pos (width_of t - 1)))
      go (inr h) =
          let m : 2 ^ 64 - 2 ^ (width_of t - 1) ≤ s = rw g at h.1 in
          rw (read-high {s = s} (omega (arith, p)) h.2) (omega (arith, p, h.2))

  -- taking a value of the type into the range leaves it
  pub value-fixed : wrap_to t (value_of t s) ≡ s
  unfolding wrap_to slot_for
  value-fixed = go (signed_of t) refl
    where
      go : (b : Bool) → signed_of t ≡ b → slot_of (wrap (signed_of t) (width_of t) (value_of t s)) ≡ s
      go true g = ap (λ (b : Bool). slot_of (wrap b (width_of t) (value_of t s))) g ∙ ap slot_of (wrap-signed (width_of t) (sized t).least (value_of t s) (signed_range g)) ∙ slot-value t (value-lt t s v)
      go false g =
          ap (λ (b : Bool). slot_of (wrap b (width_of t) (value_of t s))) g
          ∙ ap (λ (z : ℤ). slot_of (wrap false (width_of t) z)) (value-unsigned t s g) ∙ ap slot_of (wrap-unsigned (width_of t) s (unsigned-range g)) ∙ mod-eq_of_lt (value-lt t s v)

-- an integer taken into the range is a value of the type
pub wrapped-value : (t : ElementType) (z : ℤ) → SlotHolds t (wrap_to t z)
wrapped-value t z = rw (wrap_to-is t z) (go (signed_of t) refl)
  where
    n : ℕ
    n = width_of t

    r : ℕ
    r = slot_of z % 2 ^ n

    small : r < 2 ^ n
    small = mod-lt (slot_of z) (pow_pos n)

    p : 2 ^ n ≤ 2 ^ 64
    p = pow_mono (sized t).most

    signed : signed_of t ≡ true → (b : Bool) → (b ≡ true → 2 ^ (n - 1) ≤ r) → (b ≡ false → r < 2 ^ (n - 1)) → SlotHolds t (pick b (r + (2 ^ 64 - 2 ^ n)) r)
    signed g true l h = high_value t g (rw g (omega (arith, l refl, p, power n (sized t).least))) (omega (arith, small, p))
    signed g false l h = low_value t (rw g (omega (arith, h refl)))

    go : (b : Bool) → signed_of t ≡ b → SlotHolds t (extend 64 (signed_of t) n (slot_of z))
    go true g = rw g (signed g (leb (2 ^ (n - 1)) r) (leb-true (2 ^ (n - 1)) r) (leb-false (2 ^ (n - 1)) r))
    go false g = rw g (low_value t (rw g (omega (arith, small))))

-- an unsigned or boolean number below 2^n is its own slot
module _ (t : ElementType) (g : signed_of t ≡ false) {s : ℕ} (h : s < 2 ^ width_of t) where
  pub unsigned-value : SlotHolds t s
  unsigned-value = low_value t (rw g (omega arith))

  pub unsigned-fixed : wrap_to t (pos s) ≡ s
  unfolding wrap_to slot_for
  unsigned-fixed = rw g (ap slot_of (wrap-unsigned (width_of t) s h) ∙ mod-eq_of_lt (lt_of_lt_of_le h (pow_mono (sized t).most)))

-- the test `element::is_value` makes

module _ (t : ElementType) {s : ℕ} (h : s < 2 ^ 64) (n : highest_of t < s) where
  pub signed_test : signed_of t ≡ true → leb (lowest_of t) s ≡ is_value t s
  unfolding is_value
  signed_test g =
      let m : 2 ^ (width_of t - 1) - 1 < s = rw g at n in
      rw (g, lt-leb s (2 ^ (width_of t - 1) - 1) m, lt-ltb s (2 ^ 64) h) (and-true (leb (2 ^ 64 - 2 ^ (width_of t - 1)) s))
    where
      and-true : (b : Bool) → b ≡ (b && true)
      and-true true = refl
      and-true false = refl

  pub unsigned-test : signed_of t ≡ false → false ≡ is_value t s
  unfolding is_value
  unsigned-test g =
      let m : 2 ^ width_of t - 1 < s = rw g at n in
      rw (g, lt-leb s (2 ^ width_of t - 1) m)
