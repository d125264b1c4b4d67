-- A number that fits a type is a value of it, and its slot holds that number.
-- Assumes nothing.
use mathlib.Core.Path.{◌≡◌, refl}
use mathlib.Core.Bool.{Bool, true, false, ◌&&◌}
use Prim.Native.Nat.{ℕ}
use native.Mathlib.Omega.{arith}
use lib.IntN.{ℤ, pos, negsuc}
use lib.Dec.{leb}
use borrow.Author.Tests.{leb-true}
use Rattle.element.specs.Types.{signed_of, highest_of, slot_for, value_of, is_value}
use Rattle.element.specs.declared.ElementType.{ElementType}
use Rattle.element.proofs.Held.{Held, held-pos, held-negsuc}
use Rattle.types.specs.Numbers.{in_type}

both : (a b : Bool) → (a && b) ≡ true → (a ≡ true) × (b ≡ true)
both true b e = (refl, e)
both false b e = let z : ◌≡◌ {A = ℕ} 0 1 = cc in absurd (omega arith)

held : (t : ElementType) (z : ℤ) → in_type t z ≡ true → Held t z
unfolding in_type
held t (pos n) e = held-pos t n (leb-true n (highest_of t) e)
held t (negsuc n) e =
    let b = both (signed_of t) (leb n (highest_of t)) e in
    held-negsuc t n (leb-true n (highest_of t) b.1) b.0

pub fits-value : (t : ElementType) (z : ℤ) → in_type t z ≡ true → is_value t (slot_for t z) ≡ true
fits-value t z e = (held t z e).value

pub slot-value : (t : ElementType) (z : ℤ) → in_type t z ≡ true → value_of t (slot_for t z) ≡ z
slot-value t z e = (held t z e).holds
