-- The lowest and the highest value of each type, and other values that every type has.
-- Assumes nothing.
use mathlib.Core.Path.{◌≡◌, refl}
use mathlib.Core.Bool.{Bool, true, false}
use Prim.Native.Nat.{ℕ, ◌-◌, ◌^◌, ◌≤◌, ◌<◌}
use native.Mathlib.Omega.{arith}
use lib.IntN.{ℤ, pos, negsuc}
use lib.Signed.{le_z, mag, ◌≤ℤ◌}
use lib.Dec.{T, le→leb, leb-zero, lit≤}
use Rattle.lists.specs.Lists.{pick}
use Rattle.element.specs.Types.{width_of, signed_of, lowest_of, highest_of, all_of, value_of, is_value, SlotHolds}
use Rattle.element.specs.declared.ElementType.{ElementType}
use Rattle.element.specs.declared.ElementType.TheVariants.{I1, I8, I16, I32, I64, U8, U16, U32, U64}
use Rattle.element.proofs.Signed.{value-unsigned}
use Rattle.element.proofs.Range.{signed_range, unsigned-range}

pub record Ends (t : ElementType) : Type 0 where
  pub lowest : SlotHolds t (lowest_of t)
  pub highest : SlotHolds t (highest_of t)
  pub all : SlotHolds t (all_of t)
  pub one : SlotHolds t 1
  pub width : width_of t ≤ highest_of t
  pub lowest-is : value_of t (lowest_of t) ≡ pick (signed_of t) (negsuc (2 ^ (width_of t - 1) - 1)) (pos 0)
  pub highest-is : value_of t (highest_of t) ≡ pos (highest_of t)

pub ends : (t : ElementType) → Ends t
unfolding value_of is_value
ends I1 = record { lowest = refl; highest = refl; all = refl; one = refl; width = lit≤ tt; lowest-is = refl; highest-is = refl }
ends I8 = record { lowest = refl; highest = refl; all = refl; one = refl; width = lit≤ tt; lowest-is = refl; highest-is = refl }
ends I16 = record { lowest = refl; highest = refl; all = refl; one = refl; width = lit≤ tt; lowest-is = refl; highest-is = refl }
ends I32 = record { lowest = refl; highest = refl; all = refl; one = refl; width = lit≤ tt; lowest-is = refl; highest-is = refl }
ends I64 = record { lowest = refl; highest = refl; all = refl; one = refl; width = lit≤ tt; lowest-is = refl; highest-is = refl }
ends U8 = record { lowest = refl; highest = refl; all = refl; one = refl; width = lit≤ tt; lowest-is = refl; highest-is = refl }
ends U16 = record { lowest = refl; highest = refl; all = refl; one = refl; width = lit≤ tt; lowest-is = refl; highest-is = refl }
ends U32 = record { lowest = refl; highest = refl; all = refl; one = refl; width = lit≤ tt; lowest-is = refl; highest-is = refl }
ends U64 = record { lowest = refl; highest = refl; all = refl; one = refl; width = lit≤ tt; lowest-is = refl; highest-is = refl }

pub zero-value : (t : ElementType) → SlotHolds t 0
unfolding is_value
zero-value t = rw (leb-zero (highest_of t))

signed-between : (h : ℕ) (z : ℤ) → mag z < h → T (le_z (negsuc (h - 1)) z) × T (le_z z (pos (h - 1)))
signed-between h (pos k) l = (tt, le→leb k (h - 1) (omega arith))
signed-between h (negsuc k) l = (le→leb k (h - 1) (omega arith), tt)

-- every value lies from the lowest to the highest
pub between : (t : ElementType) (a : ℕ) → SlotHolds t a → (value_of t (lowest_of t) ≤ℤ value_of t a) × (value_of t a ≤ℤ value_of t (highest_of t))
between t a v = go (signed_of t) refl
  where
    go : (b : Bool) → signed_of t ≡ b → (value_of t (lowest_of t) ≤ℤ value_of t a) × (value_of t a ≤ℤ value_of t (highest_of t))
    go true g =
        let w = signed-between (2 ^ (width_of t - 1)) (value_of t a) (signed_range t a v g) in
        rw ((ends t).lowest-is, (ends t).highest-is, g) (record { le = w.0 }, record { le = w.1 })
    go false g =
        let l : a < 2 ^ width_of t = unsigned-range t a v g in
        rw ((ends t).lowest-is, (ends t).highest-is, g, value-unsigned t a g)
        (record { le = le→leb 0 a (omega arith) }, record { le = le→leb a (2 ^ width_of t - 1) (omega arith) })
