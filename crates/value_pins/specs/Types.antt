-- The element types: width, sign, ends and values of each (01, "Element types": "Each type has its width, its lowest and its highest value").
-- Assumes nothing.
use Rattle.std.specs.Prelude.{List, [], ◌∷◌, map, ℤ, pos, negsuc, nat_abs, ℕ}
use Rattle.std.specs.Int.Signed.{lt_z}
use Rattle.element.specs.Types.{width_of, signed_of, bool_of, lowest_of, highest_of, all_of, is_value, slot_for, value_of, wrap_to}
use Rattle.element.specs.declared.ElementType.{ElementType}
use Rattle.element.specs.declared.ElementType.TheVariants.{I1, I8, I16, I32, I64, U8, U16, U32, U64}
use Rattle.value_pins.specs.ValuePin.{ValuePin, value_pin, neg, bits, Pinned}

-- "`i1`, signed 8, 16, 32, 64 bits .. and unsigned `ui8` to `ui64`"
abbrev every_type : List ElementType
every_type = I1 ∷ I8 ∷ I16 ∷ I32 ∷ I64 ∷ U8 ∷ U16 ∷ U32 ∷ U64 ∷ []

-- which of the slots hold a value of the type
abbrev values_pin : ElementType → List ℕ → List ℕ → ValuePin
values_pin t slots are = value_pin (bits (map (is_value t) slots)) are

-- the value that a slot holds: its magnitude, and 1 if it is below 0
abbrev held_pin : ElementType → ℕ → List ℕ → ValuePin
held_pin t s is = value_pin (nat_abs (value_of t s) ∷ bits (lt_z (value_of t s) (pos 0) ∷ [])) is

abbrev pub type_pins : List ValuePin
type_pins =
    -- widths, the signed ones, `i1`
    value_pin (map width_of every_type) (1 ∷ 8 ∷ 16 ∷ 32 ∷ 64 ∷ 8 ∷ 16 ∷ 32 ∷ 64 ∷ [])
    ∷ value_pin (bits (map signed_of every_type)) (0 ∷ 1 ∷ 1 ∷ 1 ∷ 1 ∷ 0 ∷ 0 ∷ 0 ∷ 0 ∷ [])
    ∷ value_pin (bits (map bool_of every_type)) (1 ∷ 0 ∷ 0 ∷ 0 ∷ 0 ∷ 0 ∷ 0 ∷ 0 ∷ 0 ∷ [])
    -- "its lowest and its highest value", and all bits set
    ∷ value_pin (map lowest_of every_type) (0 ∷ neg 128 ∷ neg 32768 ∷ neg 2147483648 ∷ neg 9223372036854775808 ∷ 0 ∷ 0 ∷ 0 ∷ 0 ∷ [])
    ∷ value_pin (map highest_of every_type) (1 ∷ 127 ∷ 32767 ∷ 2147483647 ∷ 9223372036854775807 ∷ 255 ∷ 65535 ∷ 4294967295 ∷ 18446744073709551615 ∷ [])
    ∷ value_pin (map all_of every_type) (1 ∷ neg 1 ∷ neg 1 ∷ neg 1 ∷ neg 1 ∷ 255 ∷ 65535 ∷ 4294967295 ∷ 18446744073709551615 ∷ [])
    -- refusal 11, "input slot not a value of its type": the ends of each type, and the slots beside them that hold none
    ∷ values_pin I1 (0 ∷ 1 ∷ 2 ∷ neg 1 ∷ []) (1 ∷ 1 ∷ 0 ∷ 0 ∷ [])
    ∷ values_pin I8 (0 ∷ 127 ∷ 128 ∷ neg 129 ∷ neg 128 ∷ neg 1 ∷ []) (1 ∷ 1 ∷ 0 ∷ 0 ∷ 1 ∷ 1 ∷ [])
    ∷ values_pin I16 (0 ∷ 32767 ∷ 32768 ∷ neg 32769 ∷ neg 32768 ∷ neg 1 ∷ []) (1 ∷ 1 ∷ 0 ∷ 0 ∷ 1 ∷ 1 ∷ [])
    ∷ values_pin I32 (0 ∷ 2147483647 ∷ 2147483648 ∷ neg 2147483649 ∷ neg 2147483648 ∷ neg 1 ∷ []) (1 ∷ 1 ∷ 0 ∷ 0 ∷ 1 ∷ 1 ∷ [])
    ∷ values_pin I64 (0 ∷ 9223372036854775807 ∷ neg 9223372036854775808 ∷ neg 1 ∷ 18446744073709551616 ∷ []) (1 ∷ 1 ∷ 1 ∷ 1 ∷ 0 ∷ [])
    ∷ values_pin U8 (0 ∷ 255 ∷ 256 ∷ neg 1 ∷ []) (1 ∷ 1 ∷ 0 ∷ 0 ∷ [])
    ∷ values_pin U16 (0 ∷ 65535 ∷ 65536 ∷ neg 1 ∷ []) (1 ∷ 1 ∷ 0 ∷ 0 ∷ [])
    ∷ values_pin U32 (0 ∷ 4294967295 ∷ 4294967296 ∷ neg 1 ∷ []) (1 ∷ 1 ∷ 0 ∷ 0 ∷ [])
    ∷ values_pin U64 (0 ∷ 18446744073709551615 ∷ neg 1 ∷ 18446744073709551616 ∷ []) (1 ∷ 1 ∷ 1 ∷ 0 ∷ [])
    -- "an unsigned or boolean value as itself, a signed one modulo 2^64"
    ∷ value_pin (slot_for I8 (pos 0) ∷ slot_for U8 (pos 255) ∷ slot_for I8 (negsuc 0) ∷ slot_for I64 (negsuc 127) ∷ []) (0 ∷ 255 ∷ 18446744073709551615 ∷ 18446744073709551488 ∷ [])
    ∷ held_pin I8 (neg 1) (1 ∷ 1 ∷ [])
    ∷ held_pin I8 127 (127 ∷ 0 ∷ [])
    ∷ held_pin I64 (neg 9223372036854775808) (9223372036854775808 ∷ 1 ∷ [])
    ∷ held_pin I64 9223372036854775807 (9223372036854775807 ∷ 0 ∷ [])
    ∷ held_pin U8 200 (200 ∷ 0 ∷ [])
    ∷ held_pin U64 (neg 1) (18446744073709551615 ∷ 0 ∷ [])
    ∷ held_pin I1 1 (1 ∷ 0 ∷ [])
    -- "Integer results are taken modulo 2^n into the type's range"
    ∷ value_pin (map (wrap_to I8) (pos 127 ∷ pos 128 ∷ negsuc 127 ∷ negsuc 128 ∷ pos 256 ∷ negsuc 255 ∷ pos 300 ∷ [])) (127 ∷ neg 128 ∷ neg 128 ∷ 127 ∷ 0 ∷ 0 ∷ 44 ∷ [])
    ∷ value_pin (map (wrap_to U8) (pos 255 ∷ pos 256 ∷ negsuc 0 ∷ negsuc 254 ∷ pos 300 ∷ [])) (255 ∷ 0 ∷ 255 ∷ 1 ∷ 44 ∷ [])
    ∷ value_pin (map (wrap_to I32) (pos 2147483648 ∷ negsuc 2147483648 ∷ [])) (neg 2147483648 ∷ 2147483647 ∷ [])
    ∷ value_pin (map (wrap_to I64) (pos 9223372036854775808 ∷ negsuc 9223372036854775808 ∷ [])) (neg 9223372036854775808 ∷ 9223372036854775807 ∷ [])
    ∷ value_pin (map (wrap_to U64) (pos 18446744073709551616 ∷ negsuc 0 ∷ [])) (0 ∷ 18446744073709551615 ∷ [])
    ∷ []

abbrev pub TypePinsHold : Type 0
TypePinsHold = Pinned type_pins
