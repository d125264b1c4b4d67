-- Slots and signed machine integers. Assumes nothing.
use mathlib.Core.Path.{◌≡◌, refl, sym, ap, ◌∙◌}
use mathlib.Core.Bool.{Bool, true, false, ◌&&◌}
use Prim.Native.Nat.{ℕ, suc, ◌-◌, ◌^◌, ◌≤◌, ◌<◌}
use native.Mathlib.Nat.{mod-eq_of_lt}
use native.Mathlib.Omega.{arith}
use lib.IntN.{ℤ, pos, negsuc}
use lib.Signed.{lt_z}
use lib.Dec.{ltb, leb, leb-suc-zero}
use borrow.Author.Tests.{ltb-true, ltb-false, leb-true, leb-false, le-leb, lt-leb}
use mir.Syntax.{w64}
use mir.Val.{SFits, sel, to_z, of_z}
use Rattle.lists.specs.Lists.{pick}
use Rattle.element.specs.Types.{read, slot_of, value_of, signed_of}
use Rattle.element.specs.declared.ElementType.{ElementType}

-- the value of a slot

pub value-signed : (t : ElementType) (a : ℕ) → signed_of t ≡ true → value_of t a ≡ read true 64 a
unfolding value_of
value-signed t a e = rw e

pub value-unsigned : (t : ElementType) (a : ℕ) → signed_of t ≡ false → value_of t a ≡ pos a
unfolding value_of
value-unsigned t a e = rw e

-- whether it is below 0
pub negative-is : (t : ElementType) (a : ℕ) → lt_z (value_of t a) (pos 0) ≡ (signed_of t && leb (2 ^ 63) a)
unfolding value_of
negative-is t a = go (signed_of t && leb (2 ^ 63) a)
  where
    go : (b : Bool) → lt_z (pick b (negsuc (2 ^ 64 - suc a)) (pos a)) (pos 0) ≡ b
    go true = refl
    go false = leb-suc-zero a

-- only signed types have values below 0
pub negative-signed : (t : ElementType) (a : ℕ) → lt_z (value_of t a) (pos 0) ≡ true → signed_of t ≡ true
negative-signed t a e = go (signed_of t) (sym (negative-is t a) ∙ e)
  where
    go : (s : Bool) → (s && leb (2 ^ 63) a) ≡ true → s ≡ true
    go true q = refl
    go false q = q

-- by its sign

module _ (t : ElementType) (a : ℕ) where
  pub value-plain : lt_z (value_of t a) (pos 0) ≡ false → value_of t a ≡ pos a
  unfolding value_of
  value-plain = go (signed_of t && leb (2 ^ 63) a)
    where
      go : (b : Bool) → lt_z (pick b (negsuc (2 ^ 64 - suc a)) (pos a)) (pos 0) ≡ false → pick b (negsuc (2 ^ 64 - suc a)) (pos a) ≡ pos a
      go true e = let z : ◌≡◌ {A = ℕ} 0 1 = cc in absurd (omega arith)
      go false e = refl

  pub value-negative : lt_z (value_of t a) (pos 0) ≡ true → (value_of t a ≡ negsuc (2 ^ 64 - suc a)) × (2 ^ 63 ≤ a)
  unfolding value_of
  value-negative = go (signed_of t) (leb (2 ^ 63) a) (leb-true (2 ^ 63) a)
    where
      go : (s b : Bool) → (b ≡ true → 2 ^ 63 ≤ a) → lt_z (pick (s && b) (negsuc (2 ^ 64 - suc a)) (pos a)) (pos 0) ≡ true
          → (pick (s && b) (negsuc (2 ^ 64 - suc a)) (pos a) ≡ negsuc (2 ^ 64 - suc a)) × (2 ^ 63 ≤ a)
      go true true l e = (refl, l refl)
      go true false l e = let z : ◌≡◌ {A = Bool} true false = sym e ∙ leb-suc-zero a in let y : ◌≡◌ {A = ℕ} 0 1 = cc in absurd (omega arith)
      go false b l e = let z : ◌≡◌ {A = Bool} true false = sym e ∙ leb-suc-zero a in let y : ◌≡◌ {A = ℕ} 0 1 = cc in absurd (omega arith)

  pub value-small : a < 2 ^ 63 → value_of t a ≡ pos a
  unfolding value_of
  value-small l = rw (lt-leb (2 ^ 63) a l) (go (signed_of t))
    where
      go : (b : Bool) → pick (b && false) (negsuc (2 ^ 64 - suc a)) (pos a) ≡ pos a
      go true = refl
      go false = refl

-- from a slot to an i64, as `cast_signed` gives it

pub signed-is : (s : ℕ) → to_z w64 s ≡ read true 64 s
signed-is s = go (ltb s (2 ^ 63)) (leb (2 ^ 63) s) (ltb-true s (2 ^ 63)) (ltb-false s (2 ^ 63)) (leb-true (2 ^ 63) s) (leb-false (2 ^ 63) s)
  where
    go : (b d : Bool) → (b ≡ true → s < 2 ^ 63) → (b ≡ false → 2 ^ 63 ≤ s) → (d ≡ true → 2 ^ 63 ≤ s) → (d ≡ false → s < 2 ^ 63)
        → sel b (pos s) (negsuc (2 ^ 64 - suc s)) ≡ pick d (negsuc (2 ^ 64 - suc s)) (pos s)
    go true false l g m n = refl
    go false true l g m n = refl
    go true true l g m n = let x : s < 2 ^ 63 = l refl in let y : 2 ^ 63 ≤ s = m refl in absurd (omega arith)
    go false false l g m n = let x : 2 ^ 63 ≤ s = g refl in let y : s < 2 ^ 63 = n refl in absurd (omega arith)

module _ {s : ℕ} (h : s < 2 ^ 63) where
  pub read_low : read true 64 s ≡ pos s
  read_low = simp (lt-leb _ _ h)

module _ {s : ℕ} (h : 2 ^ 63 ≤ s) (k : s < 2 ^ 64) where
  pub read-high : read true 64 s ≡ negsuc (18446744073709551615 - s)
  read-high = simp (le-leb _ _ h) (ap negsuc (omega arith))

-- from an i64 to a slot, as `cast_unsigned` gives it

pub slot-is : {x : ℤ} → SFits w64 x → of_z w64 x ≡ slot_of x
slot-is {x = pos n} f = let l : n < 2 ^ 64 = omega (arith, f.sfits) in sym (mod-eq_of_lt l)
slot-is {x = negsuc n} f = let l : n < 2 ^ 64 = omega (arith, f.sfits) in rw (mod-eq_of_lt l)
