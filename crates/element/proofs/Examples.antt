-- Slots of 01, "The store": "an unsigned or boolean value as itself, a signed one modulo 2^64".
-- Assumes nothing.
use mathlib.Core.Path.{◌≡◌, refl}
use mathlib.Core.Bool.{true, false}
use Prim.Native.Nat.{◌-◌, ◌^◌}
use lib.IntN.{pos, neg_ℤ}
use Rattle.element.specs.Types.{slot_for, value_of, is_value}
use Rattle.element.specs.declared.ElementType.TheVariants.{I1, I8, I64, U8, U64}

slots : (slot_for I8 (neg_ℤ (pos 2)) ≡ 2 ^ 64 - 2) × (slot_for I8 (pos 127) ≡ 127) × (slot_for U8 (pos 254) ≡ 254) × (slot_for I64 (neg_ℤ (pos (2 ^ 63))) ≡ 2 ^ 63)
unfolding slot_for
slots = (refl, refl, refl, refl)

values : (value_of I8 (2 ^ 64 - 2) ≡ neg_ℤ (pos 2)) × (value_of U8 254 ≡ pos 254) × (value_of U64 (2 ^ 64 - 2) ≡ pos (2 ^ 64 - 2))
unfolding value_of
values = (refl, refl, refl)

-- refusal 11: 254 is no `i8`, and 2 no `i1`
foreign : (is_value I8 (2 ^ 64 - 128) ≡ true) × (is_value I8 (2 ^ 64 - 129) ≡ false) × (is_value I8 254 ≡ false) × (is_value I8 128 ≡ false)
    × (is_value U8 254 ≡ true) × (is_value U8 256 ≡ false) × (is_value I1 1 ≡ true) × (is_value I1 2 ≡ false)
unfolding is_value
foreign = (refl, refl, refl, refl, refl, refl, refl, refl)
