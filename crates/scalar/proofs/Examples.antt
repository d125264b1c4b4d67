-- Worked examples on single values: those of 000, and the edges. A row has what the definitions give on slots and what they should.
-- Assumes nothing.
use Rattle.std.proofs.Common.{◌≡◌, ℕ, List, [], ◌∷◌, map, pos, neg_ℤ, refl}
use lib.Count.{ones_in, count_leading_zeros}
use Rattle.element.specs.Types.{slot_of, value_of, wrap_to, slot_for}
use Rattle.element.specs.declared.ElementType.TheVariants.{I1, I8, I16, I32, I64, U8, U16, U64}
use Rattle.scalar.specs.Ops.{unary_of, binary_of, compare_of, clamp_of, select_of, convert_of, iota_of, add_of, subtract_of, multiply_of, negate_of, sign_of, lt_of, maximum_of, minimum_of, not_of, count_leading_zeros_of, popcnt_of, shift_left_of, shift_right_arithmetic_of, shift_right_logical_of}
use Rattle.scalar.specs.declared.Unary.TheVariants.{Negate, Sign, Not, CountLeadingZeros, Popcnt}
use Rattle.scalar.specs.declared.Binary.TheVariants.{Subtract, Multiply, Maximum, Minimum, Or, Xor, ShiftLeft, ShiftRightArithmetic, ShiftRightLogical}
use Rattle.scalar.specs.declared.Direction.TheVariants.{Eq, Ne, Ge, Gt, Le, Lt}

record Row : Type 0 where
  gives : List ℕ
  is : List ℕ

-- the slot of -k
abbrev minus : ℕ → ℕ
minus k = slot_of (neg_ℤ (pos k))

abbrev each : (ℕ → ℕ → ℕ) → List ℕ → List ℕ → List ℕ
each f [] ys = []
each f (x ∷ xs) [] = []
each f (x ∷ xs) (y ∷ ys) = f x y ∷ each f xs ys

abbrev rows : List Row
rows =
    -- the examples of 000
    record { gives = map (unary_of CountLeadingZeros I64) (0 ∷ 1 ∷ 128 ∷ minus 1 ∷ []); is = 64 ∷ 63 ∷ 56 ∷ 0 ∷ [] }
    ∷ record { gives = map (unary_of Popcnt I64) (0 ∷ 1 ∷ 2 ∷ 127 ∷ []); is = 0 ∷ 1 ∷ 1 ∷ 7 ∷ [] }
    ∷ record { gives = map (unary_of Not I32) (1 ∷ 2 ∷ 3 ∷ 4 ∷ []); is = minus 2 ∷ minus 3 ∷ minus 4 ∷ minus 5 ∷ [] }
    ∷ record { gives = map (unary_of Not I1) (1 ∷ 0 ∷ []); is = 0 ∷ 1 ∷ [] }
    ∷ record { gives = each (binary_of Or I32) (1 ∷ 2 ∷ 3 ∷ 4 ∷ []) (5 ∷ 6 ∷ 7 ∷ 8 ∷ []); is = 5 ∷ 6 ∷ 7 ∷ 12 ∷ [] }
    ∷ record { gives = each (binary_of Xor I32) (1 ∷ 2 ∷ 3 ∷ 4 ∷ []) (5 ∷ 6 ∷ 7 ∷ 8 ∷ []); is = 4 ∷ 4 ∷ 4 ∷ 12 ∷ [] }
    ∷ record { gives = each (binary_of ShiftLeft I64) (minus 1 ∷ 0 ∷ 1 ∷ []) (1 ∷ 2 ∷ 3 ∷ []); is = minus 2 ∷ 0 ∷ 8 ∷ [] }
    ∷ record { gives = each (binary_of ShiftRightArithmetic I64) (minus 1 ∷ 0 ∷ 8 ∷ []) (1 ∷ 2 ∷ 3 ∷ []); is = minus 1 ∷ 0 ∷ 1 ∷ [] }
    ∷ record { gives = each (binary_of ShiftRightLogical I64) (minus 1 ∷ 0 ∷ 8 ∷ []) (1 ∷ 2 ∷ 3 ∷ []); is = 9223372036854775807 ∷ 0 ∷ 1 ∷ [] }
    ∷ record { gives = clamp_of I32 5 3 10 ∷ clamp_of I32 10 13 15 ∷ clamp_of I32 15 23 20 ∷ []; is = 5 ∷ 13 ∷ 20 ∷ [] }
    -- results that wrap
    ∷ record { gives = unary_of Negate I8 (minus 128) ∷ unary_of Negate U8 1 ∷ binary_of Subtract U16 0 1 ∷ binary_of Multiply I8 64 2 ∷ []; is = minus 128 ∷ 255 ∷ 65535 ∷ minus 128 ∷ [] }
    ∷ record { gives = iota_of I8 200 ∷ iota_of U8 300 ∷ convert_of I8 U16 (minus 1) ∷ convert_of I1 I8 1 ∷ convert_of I32 I1 256 ∷ []; is = minus 56 ∷ 44 ∷ 65535 ∷ 1 ∷ 1 ∷ [] }
    -- on i1 multiply is and, and false is below true
    ∷ record { gives = binary_of Multiply I1 1 0 ∷ binary_of Maximum I1 0 1 ∷ binary_of Minimum I1 0 1 ∷ compare_of Lt I1 0 1 ∷ []; is = 0 ∷ 1 ∷ 0 ∷ 1 ∷ [] }
    -- sign, and the order by value
    ∷ record { gives = map (unary_of Sign I16) (minus 3 ∷ 0 ∷ 3 ∷ []); is = minus 1 ∷ 0 ∷ 1 ∷ [] }
    ∷ record { gives = binary_of Maximum I8 (minus 1) 1 ∷ binary_of Maximum U64 (minus 1) 1 ∷ binary_of Minimum I8 (minus 1) 1 ∷ []; is = 1 ∷ minus 1 ∷ minus 1 ∷ [] }
    ∷ record {
      gives = compare_of Eq I8 3 4 ∷ compare_of Ne I8 3 4 ∷ compare_of Ge I8 3 4 ∷ compare_of Gt I8 3 4 ∷ compare_of Le I8 3 4 ∷ compare_of Lt I8 3 4 ∷ [];
      is = 0 ∷ 1 ∷ 0 ∷ 0 ∷ 1 ∷ 1 ∷ [];
    }
    ∷ record { gives = compare_of Lt I8 (minus 1) 0 ∷ compare_of Lt U64 (minus 1) 0 ∷ select_of 1 7 8 ∷ select_of 0 7 8 ∷ []; is = 1 ∷ 0 ∷ 7 ∷ 8 ∷ [] }
    -- shifts out of the width: an amount of the width itself, one below 0, one of ui8 that is no i8
    ∷ record { gives = binary_of ShiftLeft I8 1 8 ∷ binary_of ShiftLeft I8 1 (minus 1) ∷ binary_of ShiftRightLogical U8 255 200 ∷ binary_of ShiftRightLogical I8 (minus 1) 8 ∷ []; is = 0 ∷ 0 ∷ 0 ∷ 0 ∷ [] }
    ∷ record { gives = binary_of ShiftRightArithmetic U8 128 7 ∷ binary_of ShiftRightArithmetic U8 128 8 ∷ binary_of ShiftRightArithmetic I8 (minus 5) (minus 1) ∷ []; is = 1 ∷ 0 ∷ minus 1 ∷ [] }
    -- counts over the width
    ∷ record { gives = unary_of Popcnt I8 (minus 1) ∷ unary_of CountLeadingZeros I16 300 ∷ unary_of CountLeadingZeros U8 0 ∷ []; is = 8 ∷ 7 ∷ 8 ∷ [] } ∷ []

examples : map (λ (r : Row). r.gives) rows ≡ map (λ (r : Row). r.is) rows
unfolding add_of subtract_of multiply_of negate_of iota_of convert_of sign_of lt_of maximum_of minimum_of compare_of not_of count_leading_zeros_of popcnt_of shift_left_of shift_right_arithmetic_of shift_right_logical_of clamp_of select_of value_of wrap_to slot_for ones_in count_leading_zeros
examples = refl
