-- The operations on single values, each where it differs from its neighbours (01, "Element by element" and "Reductions").
-- Assumes nothing.
use Rattle.std.specs.Prelude.{List, [], ◌∷◌, map, ℕ, Some, None}
use Rattle.element.specs.declared.ElementType.{ElementType}
use Rattle.element.specs.declared.ElementType.TheVariants.{I1, I8, I16, I32, I64, U8, U16, U32, U64}
use Rattle.division.specs.Division.{division_of, divided_numbers}
use Rattle.division.specs.declared.Division.{Division}
use Rattle.division.specs.declared.Division.TheVariants.{Divide, Remainder}
use Rattle.scalar.specs.Ops.{unary_of, binary_of, compare_of, clamp_of, select_of, convert_of, iota_of}
use Rattle.scalar.specs.Body.{body_of, identity_of}
use Rattle.scalar.specs.declared.Unary.{Unary}
use Rattle.scalar.specs.declared.Unary.TheVariants.{Negate, Abs, Sign, Not, CountLeadingZeros, Popcnt}
use Rattle.scalar.specs.declared.Binary.{Binary}
use Rattle.scalar.specs.declared.Binary.TheVariants as binary
use Rattle.scalar.specs.declared.Direction.{Direction}
use Rattle.scalar.specs.declared.Direction.TheVariants.{Eq, Ne, Ge, Gt, Le, Lt}
use Rattle.scalar.specs.declared.Body.{Body}
use Rattle.scalar.specs.declared.Body.TheVariants as body
use Rattle.value_pins.specs.ValuePin.{ValuePin, value_pin, neg, zipped, Pinned}

-- an op of one operand on each slot
abbrev unary_pin : Unary → ElementType → List ℕ → List ℕ → ValuePin
unary_pin op t xs is = value_pin (map (unary_of op t) xs) is

-- an op of two operands on each pair of slots
abbrev binary_pin : Binary → ElementType → List ℕ → List ℕ → List ℕ → ValuePin
binary_pin op t xs ys is = value_pin (zipped (binary_of op t) xs ys) is

-- a comparison of each pair of slots
abbrev compare_pin : Direction → ElementType → List ℕ → List ℕ → List ℕ → ValuePin
compare_pin d t xs ys is = value_pin (zipped (compare_of d t) xs ys) is

-- the refusals, and the values, of a quotient or remainder of each pair of slots
abbrev refusal_pin : Division → ElementType → List ℕ → List ℕ → List ℕ → ValuePin
refusal_pin op t xs ys is = value_pin (zipped (λ a b. (division_of op t a b).0) xs ys) is

abbrev quotient_pin : Division → ElementType → List ℕ → List ℕ → List ℕ → ValuePin
quotient_pin op t xs ys is = value_pin (zipped (λ a b. (division_of op t a b).1) xs ys) is

-- slots of one type converted to another
abbrev convert_pin : ElementType → ElementType → List ℕ → List ℕ → ValuePin
convert_pin from to xs is = value_pin (map (convert_of from to) xs) is

abbrev every_body : List Body
every_body = body.Add ∷ body.Multiply ∷ body.Maximum ∷ body.Minimum ∷ body.And ∷ body.Or ∷ body.Xor ∷ []

abbrev pub scalar_pins : List ValuePin
scalar_pins =
    -- "add, subtract, multiply, negate, iota, convert wrap"
    binary_pin binary.Add I8 (127 ∷ neg 128 ∷ 100 ∷ 2 ∷ []) (1 ∷ neg 1 ∷ neg 1 ∷ 3 ∷ []) (neg 128 ∷ 127 ∷ 99 ∷ 5 ∷ [])
    ∷ binary_pin binary.Add U8 (255 ∷ 200 ∷ 2 ∷ []) (1 ∷ 100 ∷ 3 ∷ []) (0 ∷ 44 ∷ 5 ∷ [])
    ∷ binary_pin binary.Add I64 (9223372036854775807 ∷ []) (1 ∷ []) (neg 9223372036854775808 ∷ [])
    ∷ binary_pin binary.Add U64 (18446744073709551615 ∷ 9223372036854775808 ∷ []) (1 ∷ 9223372036854775807 ∷ []) (0 ∷ 18446744073709551615 ∷ [])
    ∷ binary_pin binary.Subtract I8 (neg 128 ∷ 5 ∷ 3 ∷ 127 ∷ []) (1 ∷ 3 ∷ 5 ∷ neg 1 ∷ []) (127 ∷ 2 ∷ neg 2 ∷ neg 128 ∷ [])
    ∷ binary_pin binary.Subtract U8 (0 ∷ 5 ∷ []) (1 ∷ 3 ∷ []) (255 ∷ 2 ∷ [])
    ∷ binary_pin binary.Subtract U64 (0 ∷ []) (1 ∷ []) (18446744073709551615 ∷ [])
    ∷ binary_pin binary.Multiply I8 (64 ∷ neg 128 ∷ 16 ∷ neg 3 ∷ []) (2 ∷ neg 1 ∷ 17 ∷ 5 ∷ []) (neg 128 ∷ neg 128 ∷ 16 ∷ neg 15 ∷ [])
    ∷ binary_pin binary.Multiply U8 (16 ∷ 255 ∷ []) (17 ∷ 255 ∷ []) (16 ∷ 1 ∷ [])
    ∷ binary_pin binary.Multiply U32 (65536 ∷ 65537 ∷ []) (65536 ∷ 65537 ∷ []) (0 ∷ 131073 ∷ [])
    ∷ unary_pin Negate I8 (neg 128 ∷ neg 1 ∷ 0 ∷ 1 ∷ 127 ∷ []) (neg 128 ∷ 1 ∷ 0 ∷ neg 1 ∷ neg 127 ∷ [])
    ∷ unary_pin Negate U8 (0 ∷ 1 ∷ 255 ∷ []) (0 ∷ 255 ∷ 1 ∷ [])
    ∷ unary_pin Negate I64 (neg 9223372036854775808 ∷ 1 ∷ []) (neg 9223372036854775808 ∷ neg 1 ∷ [])
    ∷ unary_pin Negate U64 (1 ∷ []) (18446744073709551615 ∷ [])
    ∷ value_pin (map (iota_of I8) (127 ∷ 128 ∷ 200 ∷ [])) (127 ∷ neg 128 ∷ neg 56 ∷ [])
    ∷ value_pin (map (iota_of U8) (255 ∷ 256 ∷ [])) (255 ∷ 0 ∷ [])
    ∷ value_pin (iota_of U16 300 ∷ []) (300 ∷ [])
    ∷ convert_pin I32 U8 (300 ∷ []) (44 ∷ [])
    ∷ convert_pin U8 I8 (200 ∷ 127 ∷ []) (neg 56 ∷ 127 ∷ [])
    ∷ convert_pin I8 U8 (neg 1 ∷ neg 128 ∷ []) (255 ∷ 128 ∷ [])
    ∷ convert_pin I8 I32 (neg 1 ∷ 5 ∷ []) (neg 1 ∷ 5 ∷ [])
    ∷ convert_pin I8 U32 (neg 1 ∷ []) (4294967295 ∷ [])
    ∷ convert_pin U8 I32 (255 ∷ []) (255 ∷ [])
    ∷ convert_pin I64 I32 (4294967301 ∷ 2147483648 ∷ []) (5 ∷ neg 2147483648 ∷ [])
    ∷ convert_pin U64 I64 (18446744073709551615 ∷ []) (neg 1 ∷ [])
    ∷ convert_pin I64 U64 (neg 1 ∷ []) (18446744073709551615 ∷ [])
    ∷ convert_pin U32 I64 (4294967295 ∷ []) (4294967295 ∷ [])
    ∷ convert_pin I1 I8 (0 ∷ 1 ∷ []) (0 ∷ 1 ∷ [])
    -- "To `i1`, convert gives false for zero, else true"
    ∷ convert_pin I8 I1 (0 ∷ 1 ∷ 2 ∷ neg 1 ∷ []) (0 ∷ 1 ∷ 1 ∷ 1 ∷ [])
    ∷ convert_pin I32 I1 (256 ∷ 0 ∷ []) (1 ∷ 0 ∷ [])
    ∷ convert_pin I1 I1 (0 ∷ 1 ∷ []) (0 ∷ 1 ∷ [])
    -- "On `i1`, add is or, multiply is and"
    ∷ binary_pin binary.Add I1 (0 ∷ 0 ∷ 1 ∷ 1 ∷ []) (0 ∷ 1 ∷ 0 ∷ 1 ∷ []) (0 ∷ 1 ∷ 1 ∷ 1 ∷ [])
    ∷ binary_pin binary.Multiply I1 (0 ∷ 0 ∷ 1 ∷ 1 ∷ []) (0 ∷ 1 ∷ 0 ∷ 1 ∷ []) (0 ∷ 0 ∷ 0 ∷ 1 ∷ [])
    -- "divide drops the fraction toward zero; remainder has the dividend's sign. Lowest by -1: quotient lowest, remainder 0"
    ∷ quotient_pin Divide I8 (7 ∷ neg 7 ∷ 7 ∷ neg 7 ∷ neg 128 ∷ neg 128 ∷ 0 ∷ 1 ∷ []) (2 ∷ 2 ∷ neg 2 ∷ neg 2 ∷ neg 1 ∷ 1 ∷ 5 ∷ neg 128 ∷ []) (3 ∷ neg 3 ∷ neg 3 ∷ 3 ∷ neg 128 ∷ neg 128 ∷ 0 ∷ 0 ∷ [])
    ∷ quotient_pin Remainder I8 (7 ∷ neg 7 ∷ 7 ∷ neg 7 ∷ neg 128 ∷ neg 128 ∷ 0 ∷ 1 ∷ []) (2 ∷ 2 ∷ neg 2 ∷ neg 2 ∷ neg 1 ∷ 1 ∷ 5 ∷ neg 128 ∷ []) (1 ∷ neg 1 ∷ 1 ∷ neg 1 ∷ 0 ∷ 0 ∷ 0 ∷ 1 ∷ [])
    ∷ quotient_pin Divide I16 (neg 32768 ∷ neg 7 ∷ neg 32768 ∷ 32767 ∷ []) (neg 1 ∷ 2 ∷ 2 ∷ neg 2 ∷ []) (neg 32768 ∷ neg 3 ∷ neg 16384 ∷ neg 16383 ∷ [])
    ∷ quotient_pin Remainder I16 (neg 32768 ∷ neg 7 ∷ neg 32768 ∷ 32767 ∷ []) (neg 1 ∷ 2 ∷ 2 ∷ neg 2 ∷ []) (0 ∷ neg 1 ∷ 0 ∷ 1 ∷ [])
    ∷ quotient_pin Divide I32 (neg 2147483648 ∷ neg 7 ∷ neg 2147483648 ∷ 2147483647 ∷ []) (neg 1 ∷ 2 ∷ 2 ∷ neg 2 ∷ []) (neg 2147483648 ∷ neg 3 ∷ neg 1073741824 ∷ neg 1073741823 ∷ [])
    ∷ quotient_pin Remainder I32 (neg 2147483648 ∷ neg 7 ∷ neg 2147483648 ∷ 2147483647 ∷ []) (neg 1 ∷ 2 ∷ 2 ∷ neg 2 ∷ []) (0 ∷ neg 1 ∷ 0 ∷ 1 ∷ [])
    ∷ quotient_pin Divide I64 (neg 9223372036854775808 ∷ neg 7 ∷ neg 9223372036854775808 ∷ 9223372036854775807 ∷ []) (neg 1 ∷ 2 ∷ 2 ∷ neg 2 ∷ []) (neg 9223372036854775808 ∷ neg 3 ∷ neg 4611686018427387904 ∷ neg 4611686018427387903 ∷ [])
    ∷ quotient_pin Remainder I64 (neg 9223372036854775808 ∷ neg 7 ∷ neg 9223372036854775808 ∷ 9223372036854775807 ∷ []) (neg 1 ∷ 2 ∷ 2 ∷ neg 2 ∷ []) (0 ∷ neg 1 ∷ 0 ∷ 1 ∷ [])
    ∷ quotient_pin Divide U8 (250 ∷ 7 ∷ 255 ∷ []) (7 ∷ 250 ∷ 255 ∷ []) (35 ∷ 0 ∷ 1 ∷ [])
    ∷ quotient_pin Remainder U8 (250 ∷ 7 ∷ 255 ∷ []) (7 ∷ 250 ∷ 255 ∷ []) (5 ∷ 7 ∷ 0 ∷ [])
    ∷ quotient_pin Divide U64 (18446744073709551615 ∷ 18446744073709551615 ∷ []) (2 ∷ 18446744073709551614 ∷ []) (9223372036854775807 ∷ 1 ∷ [])
    ∷ quotient_pin Remainder U64 (18446744073709551615 ∷ 18446744073709551615 ∷ []) (2 ∷ 18446744073709551614 ∷ []) (1 ∷ 1 ∷ [])
    -- "12 | zero divisor"; the value that no one reads is 0
    ∷ refusal_pin Divide I8 (5 ∷ 0 ∷ neg 128 ∷ 5 ∷ []) (0 ∷ 0 ∷ 0 ∷ 1 ∷ []) (12 ∷ 12 ∷ 12 ∷ 0 ∷ [])
    ∷ refusal_pin Remainder I8 (5 ∷ 0 ∷ neg 128 ∷ 5 ∷ []) (0 ∷ 0 ∷ 0 ∷ 1 ∷ []) (12 ∷ 12 ∷ 12 ∷ 0 ∷ [])
    ∷ refusal_pin Divide U64 (18446744073709551615 ∷ 0 ∷ []) (0 ∷ 1 ∷ []) (12 ∷ 0 ∷ [])
    ∷ value_pin ((divided_numbers (Some 5)).0 ∷ (divided_numbers (Some 5)).1 ∷ (divided_numbers None).0 ∷ (divided_numbers None).1 ∷ []) (0 ∷ 5 ∷ 12 ∷ 0 ∷ [])
    -- "abs of the lowest value saturates to the highest"
    ∷ unary_pin Abs I8 (neg 128 ∷ neg 127 ∷ neg 1 ∷ 0 ∷ 1 ∷ 127 ∷ []) (127 ∷ 127 ∷ 1 ∷ 0 ∷ 1 ∷ 127 ∷ [])
    ∷ unary_pin Abs I64 (neg 9223372036854775808 ∷ neg 1 ∷ 1 ∷ []) (9223372036854775807 ∷ 1 ∷ 1 ∷ [])
    -- sign is -1, 0 or 1
    ∷ unary_pin Sign I8 (neg 128 ∷ neg 1 ∷ 0 ∷ 1 ∷ 127 ∷ []) (neg 1 ∷ neg 1 ∷ 0 ∷ 1 ∷ 1 ∷ [])
    -- "maximum, minimum, compare by value"
    ∷ binary_pin binary.Maximum I8 (neg 1 ∷ 1 ∷ neg 128 ∷ 127 ∷ 5 ∷ []) (1 ∷ neg 1 ∷ 127 ∷ neg 128 ∷ 5 ∷ []) (1 ∷ 1 ∷ 127 ∷ 127 ∷ 5 ∷ [])
    ∷ binary_pin binary.Minimum I8 (neg 1 ∷ 1 ∷ neg 128 ∷ 127 ∷ 5 ∷ []) (1 ∷ neg 1 ∷ 127 ∷ neg 128 ∷ 5 ∷ []) (neg 1 ∷ neg 1 ∷ neg 128 ∷ neg 128 ∷ 5 ∷ [])
    ∷ binary_pin binary.Maximum U8 (200 ∷ 100 ∷ 255 ∷ []) (100 ∷ 200 ∷ 0 ∷ []) (200 ∷ 200 ∷ 255 ∷ [])
    ∷ binary_pin binary.Minimum U8 (200 ∷ 100 ∷ 255 ∷ []) (100 ∷ 200 ∷ 0 ∷ []) (100 ∷ 100 ∷ 0 ∷ [])
    ∷ binary_pin binary.Maximum U64 (18446744073709551615 ∷ []) (1 ∷ []) (18446744073709551615 ∷ [])
    ∷ binary_pin binary.Minimum U64 (18446744073709551615 ∷ []) (1 ∷ []) (1 ∷ [])
    ∷ binary_pin binary.Maximum I64 (neg 1 ∷ []) (1 ∷ []) (1 ∷ [])
    ∷ binary_pin binary.Minimum I64 (neg 1 ∷ []) (1 ∷ []) (neg 1 ∷ [])
    -- less, equal, greater; once more with -1, which is the larger slot
    ∷ compare_pin Eq I8 (3 ∷ 4 ∷ 5 ∷ neg 1 ∷ neg 1 ∷ 0 ∷ []) (4 ∷ 4 ∷ 4 ∷ 0 ∷ neg 1 ∷ neg 1 ∷ []) (0 ∷ 1 ∷ 0 ∷ 0 ∷ 1 ∷ 0 ∷ [])
    ∷ compare_pin Ne I8 (3 ∷ 4 ∷ 5 ∷ neg 1 ∷ neg 1 ∷ 0 ∷ []) (4 ∷ 4 ∷ 4 ∷ 0 ∷ neg 1 ∷ neg 1 ∷ []) (1 ∷ 0 ∷ 1 ∷ 1 ∷ 0 ∷ 1 ∷ [])
    ∷ compare_pin Ge I8 (3 ∷ 4 ∷ 5 ∷ neg 1 ∷ neg 1 ∷ 0 ∷ []) (4 ∷ 4 ∷ 4 ∷ 0 ∷ neg 1 ∷ neg 1 ∷ []) (0 ∷ 1 ∷ 1 ∷ 0 ∷ 1 ∷ 1 ∷ [])
    ∷ compare_pin Gt I8 (3 ∷ 4 ∷ 5 ∷ neg 1 ∷ neg 1 ∷ 0 ∷ []) (4 ∷ 4 ∷ 4 ∷ 0 ∷ neg 1 ∷ neg 1 ∷ []) (0 ∷ 0 ∷ 1 ∷ 0 ∷ 0 ∷ 1 ∷ [])
    ∷ compare_pin Le I8 (3 ∷ 4 ∷ 5 ∷ neg 1 ∷ neg 1 ∷ 0 ∷ []) (4 ∷ 4 ∷ 4 ∷ 0 ∷ neg 1 ∷ neg 1 ∷ []) (1 ∷ 1 ∷ 0 ∷ 1 ∷ 1 ∷ 0 ∷ [])
    ∷ compare_pin Lt I8 (3 ∷ 4 ∷ 5 ∷ neg 1 ∷ neg 1 ∷ 0 ∷ []) (4 ∷ 4 ∷ 4 ∷ 0 ∷ neg 1 ∷ neg 1 ∷ []) (1 ∷ 0 ∷ 0 ∷ 1 ∷ 0 ∷ 0 ∷ [])
    -- the same slots as unsigned values
    ∷ compare_pin Eq U64 (0 ∷ 18446744073709551615 ∷ 18446744073709551615 ∷ []) (18446744073709551615 ∷ 18446744073709551615 ∷ 0 ∷ []) (0 ∷ 1 ∷ 0 ∷ [])
    ∷ compare_pin Ne U64 (0 ∷ 18446744073709551615 ∷ 18446744073709551615 ∷ []) (18446744073709551615 ∷ 18446744073709551615 ∷ 0 ∷ []) (1 ∷ 0 ∷ 1 ∷ [])
    ∷ compare_pin Ge U64 (0 ∷ 18446744073709551615 ∷ 18446744073709551615 ∷ []) (18446744073709551615 ∷ 18446744073709551615 ∷ 0 ∷ []) (0 ∷ 1 ∷ 1 ∷ [])
    ∷ compare_pin Gt U64 (0 ∷ 18446744073709551615 ∷ 18446744073709551615 ∷ []) (18446744073709551615 ∷ 18446744073709551615 ∷ 0 ∷ []) (0 ∷ 0 ∷ 1 ∷ [])
    ∷ compare_pin Le U64 (0 ∷ 18446744073709551615 ∷ 18446744073709551615 ∷ []) (18446744073709551615 ∷ 18446744073709551615 ∷ 0 ∷ []) (1 ∷ 1 ∷ 0 ∷ [])
    ∷ compare_pin Lt U64 (0 ∷ 18446744073709551615 ∷ 18446744073709551615 ∷ []) (18446744073709551615 ∷ 18446744073709551615 ∷ 0 ∷ []) (1 ∷ 0 ∷ 0 ∷ [])
    -- "on `i1` false is below true"
    ∷ compare_pin Eq I1 (0 ∷ 1 ∷ 1 ∷ []) (1 ∷ 1 ∷ 0 ∷ []) (0 ∷ 1 ∷ 0 ∷ [])
    ∷ compare_pin Ne I1 (0 ∷ 1 ∷ 1 ∷ []) (1 ∷ 1 ∷ 0 ∷ []) (1 ∷ 0 ∷ 1 ∷ [])
    ∷ compare_pin Ge I1 (0 ∷ 1 ∷ 1 ∷ []) (1 ∷ 1 ∷ 0 ∷ []) (0 ∷ 1 ∷ 1 ∷ [])
    ∷ compare_pin Gt I1 (0 ∷ 1 ∷ 1 ∷ []) (1 ∷ 1 ∷ 0 ∷ []) (0 ∷ 0 ∷ 1 ∷ [])
    ∷ compare_pin Le I1 (0 ∷ 1 ∷ 1 ∷ []) (1 ∷ 1 ∷ 0 ∷ []) (1 ∷ 1 ∷ 0 ∷ [])
    ∷ compare_pin Lt I1 (0 ∷ 1 ∷ 1 ∷ []) (1 ∷ 1 ∷ 0 ∷ []) (1 ∷ 0 ∷ 0 ∷ [])
    ∷ binary_pin binary.Maximum I1 (0 ∷ 0 ∷ 1 ∷ 1 ∷ []) (0 ∷ 1 ∷ 0 ∷ 1 ∷ []) (0 ∷ 1 ∷ 1 ∷ 1 ∷ [])
    ∷ binary_pin binary.Minimum I1 (0 ∷ 0 ∷ 1 ∷ 1 ∷ []) (0 ∷ 1 ∷ 0 ∷ 1 ∷ []) (0 ∷ 0 ∷ 0 ∷ 1 ∷ [])
    -- "and, or, xor, not"
    ∷ binary_pin binary.And I8 (neg 128 ∷ neg 1 ∷ 6 ∷ []) (127 ∷ 5 ∷ 3 ∷ []) (0 ∷ 5 ∷ 2 ∷ [])
    ∷ binary_pin binary.Or I8 (neg 128 ∷ neg 128 ∷ 6 ∷ []) (127 ∷ 5 ∷ 3 ∷ []) (neg 1 ∷ neg 123 ∷ 7 ∷ [])
    ∷ binary_pin binary.Xor I8 (neg 128 ∷ neg 1 ∷ 6 ∷ []) (127 ∷ 5 ∷ 3 ∷ []) (neg 1 ∷ neg 6 ∷ 5 ∷ [])
    ∷ binary_pin binary.And U8 (12 ∷ []) (10 ∷ []) (8 ∷ [])
    ∷ binary_pin binary.Or U8 (12 ∷ []) (10 ∷ []) (14 ∷ [])
    ∷ binary_pin binary.Xor U8 (12 ∷ []) (10 ∷ []) (6 ∷ [])
    ∷ binary_pin binary.And I1 (0 ∷ 0 ∷ 1 ∷ 1 ∷ []) (0 ∷ 1 ∷ 0 ∷ 1 ∷ []) (0 ∷ 0 ∷ 0 ∷ 1 ∷ [])
    ∷ binary_pin binary.Or I1 (0 ∷ 0 ∷ 1 ∷ 1 ∷ []) (0 ∷ 1 ∷ 0 ∷ 1 ∷ []) (0 ∷ 1 ∷ 1 ∷ 1 ∷ [])
    ∷ binary_pin binary.Xor I1 (0 ∷ 0 ∷ 1 ∷ 1 ∷ []) (0 ∷ 1 ∷ 0 ∷ 1 ∷ []) (0 ∷ 1 ∷ 1 ∷ 0 ∷ [])
    ∷ unary_pin Not I8 (neg 128 ∷ neg 1 ∷ 0 ∷ 1 ∷ 127 ∷ []) (127 ∷ 0 ∷ neg 1 ∷ neg 2 ∷ neg 128 ∷ [])
    ∷ unary_pin Not U8 (0 ∷ 1 ∷ 255 ∷ []) (255 ∷ 254 ∷ 0 ∷ [])
    ∷ unary_pin Not I1 (0 ∷ 1 ∷ []) (1 ∷ 0 ∷ [])
    ∷ unary_pin Not U64 (0 ∷ []) (18446744073709551615 ∷ [])
    -- "count_leading_zeros and popcnt over the type's width"
    ∷ unary_pin CountLeadingZeros I8 (neg 128 ∷ neg 1 ∷ 0 ∷ 1 ∷ 64 ∷ 127 ∷ []) (0 ∷ 0 ∷ 8 ∷ 7 ∷ 1 ∷ 1 ∷ [])
    ∷ unary_pin CountLeadingZeros U8 (0 ∷ 1 ∷ 128 ∷ []) (8 ∷ 7 ∷ 0 ∷ [])
    ∷ unary_pin CountLeadingZeros U16 (300 ∷ []) (7 ∷ [])
    ∷ unary_pin CountLeadingZeros I64 (neg 1 ∷ 0 ∷ 1 ∷ []) (0 ∷ 64 ∷ 63 ∷ [])
    ∷ unary_pin Popcnt I8 (neg 128 ∷ neg 1 ∷ neg 3 ∷ 0 ∷ 1 ∷ 127 ∷ []) (1 ∷ 8 ∷ 7 ∷ 0 ∷ 1 ∷ 7 ∷ [])
    ∷ unary_pin Popcnt U8 (255 ∷ 128 ∷ []) (8 ∷ 1 ∷ [])
    ∷ unary_pin Popcnt I64 (neg 1 ∷ 0 ∷ []) (64 ∷ 0 ∷ [])
    -- "an amount below 0 or at least the width gives 0, and -1 for shift_right_arithmetic of a negative": amounts -1, 0, 1, width - 1 and width
    ∷ binary_pin binary.ShiftLeft I8 (neg 3 ∷ neg 3 ∷ neg 3 ∷ neg 3 ∷ neg 3 ∷ []) (neg 1 ∷ 0 ∷ 1 ∷ 7 ∷ 8 ∷ []) (0 ∷ neg 3 ∷ neg 6 ∷ neg 128 ∷ 0 ∷ [])
    ∷ binary_pin binary.ShiftRightArithmetic I8 (neg 3 ∷ neg 3 ∷ neg 3 ∷ neg 3 ∷ neg 3 ∷ []) (neg 1 ∷ 0 ∷ 1 ∷ 7 ∷ 8 ∷ []) (neg 1 ∷ neg 3 ∷ neg 2 ∷ neg 1 ∷ neg 1 ∷ [])
    ∷ binary_pin binary.ShiftRightLogical I8 (neg 3 ∷ neg 3 ∷ neg 3 ∷ neg 3 ∷ neg 3 ∷ []) (neg 1 ∷ 0 ∷ 1 ∷ 7 ∷ 8 ∷ []) (0 ∷ neg 3 ∷ 126 ∷ 1 ∷ 0 ∷ [])
    ∷ binary_pin binary.ShiftLeft I8 (5 ∷ 5 ∷ 5 ∷ 5 ∷ 5 ∷ []) (neg 1 ∷ 0 ∷ 1 ∷ 7 ∷ 8 ∷ []) (0 ∷ 5 ∷ 10 ∷ neg 128 ∷ 0 ∷ [])
    ∷ binary_pin binary.ShiftRightArithmetic I8 (5 ∷ 5 ∷ 5 ∷ 5 ∷ 5 ∷ []) (neg 1 ∷ 0 ∷ 1 ∷ 7 ∷ 8 ∷ []) (0 ∷ 5 ∷ 2 ∷ 0 ∷ 0 ∷ [])
    ∷ binary_pin binary.ShiftRightLogical I8 (5 ∷ 5 ∷ 5 ∷ 5 ∷ 5 ∷ []) (neg 1 ∷ 0 ∷ 1 ∷ 7 ∷ 8 ∷ []) (0 ∷ 5 ∷ 2 ∷ 0 ∷ 0 ∷ [])
    -- "on unsigned types that op fills with zeros"
    ∷ binary_pin binary.ShiftLeft U8 (253 ∷ 253 ∷ 253 ∷ 253 ∷ 253 ∷ []) (255 ∷ 0 ∷ 1 ∷ 7 ∷ 8 ∷ []) (0 ∷ 253 ∷ 250 ∷ 128 ∷ 0 ∷ [])
    ∷ binary_pin binary.ShiftRightArithmetic U8 (253 ∷ 253 ∷ 253 ∷ 253 ∷ 253 ∷ []) (255 ∷ 0 ∷ 1 ∷ 7 ∷ 8 ∷ []) (0 ∷ 253 ∷ 126 ∷ 1 ∷ 0 ∷ [])
    ∷ binary_pin binary.ShiftRightLogical U8 (253 ∷ 253 ∷ 253 ∷ 253 ∷ 253 ∷ []) (255 ∷ 0 ∷ 1 ∷ 7 ∷ 8 ∷ []) (0 ∷ 253 ∷ 126 ∷ 1 ∷ 0 ∷ [])
    ∷ binary_pin binary.ShiftLeft I64 (3 ∷ 3 ∷ 3 ∷ 3 ∷ []) (neg 1 ∷ 1 ∷ 63 ∷ 64 ∷ []) (0 ∷ 6 ∷ neg 9223372036854775808 ∷ 0 ∷ [])
    ∷ binary_pin binary.ShiftRightArithmetic I64 (neg 9223372036854775808 ∷ neg 9223372036854775808 ∷ neg 9223372036854775808 ∷ neg 9223372036854775808 ∷ []) (neg 1 ∷ 1 ∷ 63 ∷ 64 ∷ []) (neg 1 ∷ neg 4611686018427387904 ∷ neg 1 ∷ neg 1 ∷ [])
    ∷ binary_pin binary.ShiftRightLogical I64 (neg 9223372036854775808 ∷ neg 9223372036854775808 ∷ neg 9223372036854775808 ∷ neg 9223372036854775808 ∷ []) (neg 1 ∷ 1 ∷ 63 ∷ 64 ∷ []) (0 ∷ 4611686018427387904 ∷ 1 ∷ 0 ∷ [])
    ∷ binary_pin binary.ShiftRightLogical U64 (18446744073709551615 ∷ 18446744073709551615 ∷ 18446744073709551615 ∷ 18446744073709551615 ∷ []) (18446744073709551615 ∷ 1 ∷ 63 ∷ 64 ∷ []) (0 ∷ 9223372036854775807 ∷ 1 ∷ 0 ∷ [])
    -- "clamp is minimum(maximum(x, min), max), even if min exceeds max": min, x and max
    ∷ value_pin (clamp_of I8 5 3 10 ∷ clamp_of I8 5 7 10 ∷ clamp_of I8 5 12 10 ∷ clamp_of I8 5 4 3 ∷ clamp_of I8 (neg 5) (neg 128) 5 ∷ clamp_of I8 (neg 5) 127 5 ∷ []) (5 ∷ 7 ∷ 10 ∷ 3 ∷ neg 5 ∷ 5 ∷ [])
    ∷ value_pin (clamp_of U8 10 251 200 ∷ clamp_of U8 10 5 200 ∷ clamp_of U64 1 (neg 1) 7 ∷ clamp_of I1 0 1 0 ∷ []) (200 ∷ 10 ∷ 7 ∷ 0 ∷ [])
    -- select: on_true where pred is true
    ∷ value_pin (select_of 1 7 8 ∷ select_of 0 7 8 ∷ []) (7 ∷ 8 ∷ [])
    -- "one op of add, multiply, maximum, minimum, and, or, xor", on 6 and 3
    ∷ value_pin (map (λ b. body_of b I8 6 3) every_body) (9 ∷ 18 ∷ 6 ∷ 3 ∷ 2 ∷ 7 ∷ 5 ∷ [])
    -- "Identities: 0 for add, or, xor; 1 for multiply; lowest for maximum; highest for minimum; all bits set for and; on `i1` by the logical meaning"
    ∷ value_pin (map (λ b. identity_of b I8) every_body) (0 ∷ 1 ∷ neg 128 ∷ 127 ∷ neg 1 ∷ 0 ∷ 0 ∷ [])
    ∷ value_pin (map (λ b. identity_of b U8) every_body) (0 ∷ 1 ∷ 0 ∷ 255 ∷ 255 ∷ 0 ∷ 0 ∷ [])
    ∷ value_pin (map (λ b. identity_of b I1) every_body) (0 ∷ 1 ∷ 0 ∷ 1 ∷ 1 ∷ 0 ∷ 0 ∷ [])
    ∷ value_pin (map (λ b. identity_of b I64) every_body) (0 ∷ 1 ∷ neg 9223372036854775808 ∷ 9223372036854775807 ∷ neg 1 ∷ 0 ∷ 0 ∷ [])
    ∷ value_pin (map (λ b. identity_of b U64) every_body) (0 ∷ 1 ∷ 0 ∷ 18446744073709551615 ∷ 18446744073709551615 ∷ 0 ∷ 0 ∷ [])
    ∷ []

abbrev pub ScalarPinsHold : Type 0
ScalarPinsHold = Pinned scalar_pins
