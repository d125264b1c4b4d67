-- What the functions that divide slots of any type cite, and that a quotient or a remainder is a value of its type.
-- Assumes nothing.
use mathlib.Core.Path.{◌≡◌, refl, sym, ap, ap₂, ◌∙◌}
use mathlib.Core.Bool.{Bool, true, false}
use Prim.Native.Nat.{ℕ, ◌/◌, ◌%◌, ◌^◌, ◌<◌}
use native.Mathlib.Nat.{lt_of_le_of_lt, div-le_self, mod-le}
use lib.IntN.{ℤ, pos}
use lib.Signed.{mag, quot_z, rem_z}
use lib.Dec.{eqb}
use mir.Syntax.{w64}
use mir.Val.{to_z, of_z}
use mir.Facts.{to_z-of_z}
use Rattle.lists.specs.Lists.{pick}
use Rattle.element.specs.Types.{wrap, width_of, signed_of, value_of, wrap_to, slot_for, slot_of, SlotHolds}
use Rattle.element.specs.declared.ElementType.{ElementType}
use Rattle.element.proofs.Signed.{signed-is, slot-is, value-signed, value-unsigned}
use Rattle.element.proofs.Wrap.{read-slot}
use Rattle.element.proofs.Ends.{zero-value}
use Rattle.element.proofs.Range.{signed_range, unsigned-range, unsigned-fixed, wrapped-value}
use Rattle.division.specs.Division.{OfType, result_of, division_of}
use Rattle.division.specs.declared.Division.{Division}

-- a signed local is read back from its bits, `to_z w (of_z w a)`, and what a call returns comes with the bound of its magnitude alone
held : {r x : ℤ} → mag r < 2 ^ 63 → r ≡ x → to_z w64 (of_z w64 r) ≡ x
held h e = to_z-of_z {w = w64} (record { sfits = h }) ∙ e

-- a slot of a signed type, cast to a signed number
module _ (t : ElementType) (g : signed_of t ≡ true) where
  cast-value : (s : ℕ) {x : ℤ} → mag x < 2 ^ 63 → x ≡ to_z w64 s → to_z w64 (of_z w64 x) ≡ value_of t s
  cast-value s h e = held h e ∙ signed-is s ∙ sym (value-signed t s g)

  pub cast-fits : (s : ℕ) → SlotHolds t s → {x : ℤ} → mag x < 2 ^ 63 → x ≡ to_z w64 s → OfType t (to_z w64 (of_z w64 x))
  cast-fits s v h e = rw (cast-value s h e) (signed_range t s v g)

  pub cast-not-zero : (s : ℕ) → s < 2 ^ 64 → (s ≡ 0 → ⊥) → {x : ℤ} → mag x < 2 ^ 63 → x ≡ to_z w64 s → to_z w64 (of_z w64 x) ≡ pos 0 → ⊥
  cast-not-zero s f n h e z = n (sym (read-slot true 64 s f) ∙ ap slot_of (sym (signed-is s) ∙ sym (held h e) ∙ z))

  pub divided-slot : (op : Division) (a b : ℕ) {x y r : ℤ} → mag x < 2 ^ 63 → x ≡ to_z w64 a → mag y < 2 ^ 63 → y ≡ to_z w64 b → mag r < 2 ^ 63
      → r ≡ wrap true (width_of t) (result_of op (to_z w64 (of_z w64 x)) (to_z w64 (of_z w64 y))) → of_z w64 (to_z w64 (of_z w64 r)) ≡ wrap_to t (result_of op (value_of t a) (value_of t b))
  unfolding wrap_to slot_for
  divided-slot op a b {r} hx ex hy ey hr er =
      ap (of_z w64) (held {r = r} {x = r} hr refl) ∙ slot-is (record { sfits = hr })
      ∙ ap slot_of (er ∙ ap₂ (λ (u v : ℤ). wrap true (width_of t) (result_of op u v)) (cast-value a hx ex) (cast-value b hy ey)) ∙ rw g

module _ (t : ElementType) (g : signed_of t ≡ false) (a b : ℕ) (v : SlotHolds t a) where
  pub unsigned-quotient : a / b ≡ wrap_to t (quot_z (value_of t a) (value_of t b))
  unsigned-quotient = rw (value-unsigned t a g, value-unsigned t b g) (sym (unsigned-fixed t g (lt_of_le_of_lt (div-le_self a b) (unsigned-range t a v g))))

  pub unsigned-remainder : a % b ≡ wrap_to t (rem_z (value_of t a) (value_of t b))
  unsigned-remainder = rw (value-unsigned t a g, value-unsigned t b g) (sym (unsigned-fixed t g (lt_of_le_of_lt (mod-le a b) (unsigned-range t a v g))))

-- what a division gives is a value of its type
pub division-closed : (op : Division) (t : ElementType) (a b : ℕ) → SlotHolds t (division_of op t a b).1
unfolding division_of
division-closed op t a b = go (eqb b 0)
  where
    go : (z : Bool) → SlotHolds t (pick {A = ℕ × ℕ} z (12, 0) (0, wrap_to t (result_of op (value_of t a) (value_of t b)))).1
    go true = zero-value t
    go false = wrapped-value t (result_of op (value_of t a) (value_of t b))
