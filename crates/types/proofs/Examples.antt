-- The definitions on short texts, computed.
-- Assumes nothing.
use mathlib.Core.Path.{◌≡◌, refl}
use mathlib.Core.Bool.{false}
use mathlib.Core.List.{[], ◌∷◌, map}
use Prim.Native.Nat.{◌-◌, ◌^◌}
use Prim.Native.String.{String}
use lib.IntN.{pos, neg_ℤ}
use Rattle.scan.specs.Ascii.{ascii}
use Rattle.scan.specs.Bytes.{is_letter, is_digit, is_sign, in_run, run_from, run_end, starts_with}
use Rattle.scan.specs.TypeText.{byte_end, word_end, digits_end, size_next, shape_end_from, shape_end, complex_end}
use Rattle.scan.specs.Quantized.{sign_end}
use Rattle.scan.specs.TensorText.{element_end, type_close}
use Rattle.text.specs.Names.{word_is}
use Rattle.element.specs.Types.{slot_for}
use Rattle.element.specs.declared.ElementType.{ElementType}
use Rattle.element.specs.declared.ElementType.TheVariants.{I1, I8, I16, I32, I64, U8, U16, U32, U64}
use Rattle.types.specs.Numbers.{digits_from, magnitude_of, decimal_number, in_type, fitting, unfit, number_in, is_attribute_number, pattern_in}
use Rattle.types.specs.Tensors.{width_named, element_named, dimensions_from, byte_count, all_fit, type_size_passed, typed, foreign, type_after, type_of}
use Rattle.types.specs.Tensors.{TypeRead}

type_in : String → TypeRead
type_in s = type_of (ascii s) 0

-- the thirteen spellings, leading zeros, six dimensions (01, "Element types"; OP-06)
known-types : map type_in
    ("tensor<i1>" ∷
    "tensor<i8>" ∷
    "tensor<si8>" ∷
    "tensor<i16>" ∷
    "tensor<si16>" ∷
    "tensor<i32>" ∷
    "tensor<si32>" ∷
    "tensor<i64>" ∷
    "tensor<si64>" ∷
    "tensor<ui8>" ∷
    "tensor<ui16>" ∷
    "tensor<ui32>" ∷
    "tensor<ui64>" ∷
    "tensor<02x0xui8>" ∷
    "tensor<0x10xi8>" ∷
    "tensor<1x2x3x4x5x6xi1>" ∷ [])
    ≡ typed I1 ([]) ∷
    typed I8 ([]) ∷
    typed I8 ([]) ∷
    typed I16 ([]) ∷
    typed I16 ([]) ∷
    typed I32 ([]) ∷
    typed I32 ([]) ∷
    typed I64 ([]) ∷
    typed I64 ([]) ∷
    typed U8 ([]) ∷
    typed U16 ([]) ∷
    typed U32 ([]) ∷
    typed U64 ([]) ∷
    typed U8 (2 ∷ 0 ∷ []) ∷
    typed I8 (0 ∷ 10 ∷ []) ∷
    typed I1 (1 ∷ 2 ∷ 3 ∷ 4 ∷ 5 ∷ 6 ∷ []) ∷ []
unfolding type_in is_letter is_digit is_sign in_run run_from run_end starts_with byte_end word_end digits_end size_next shape_end_from shape_end complex_end element_end type_close word_is width_named element_named dimensions_from byte_count all_fit type_size_passed typed foreign type_after type_of
known-types = refl

-- OP-11, OP-21, OP-23, and `?`
foreign-types : map (λ s. (type_in s).known)
    ("tensor<f32>" ∷ "tensor<i4>" ∷ "tensor<si1>" ∷ "tensor<ui1>" ∷ "tensor<index>" ∷ "tensor<I8>" ∷ "tensor<i>" ∷ "tensor<si>" ∷ "tensor<i08>" ∷ "tensor<i128>" ∷ "tensor<xi32>" ∷ "tensor<4xx>" ∷ "tensor<i32x4>" ∷ "tensor<?xi8>" ∷ "tensor<2x?xi8>" ∷ "tensor<complex<f32>>" ∷ [])
    ≡ false ∷ false ∷ false ∷ false ∷ false ∷ false ∷ false ∷ false ∷ false ∷ false ∷ false ∷ false ∷ false ∷ false ∷ false ∷ false ∷ []
unfolding type_in is_letter is_digit is_sign in_run run_from run_end starts_with byte_end word_end digits_end size_next shape_end_from shape_end complex_end element_end type_close word_is width_named element_named dimensions_from byte_count all_fit type_size_passed typed foreign type_after type_of
foreign-types = refl

-- sizes 1 and 2, at the limit and one beyond
passed-sizes : map (λ s. (type_in s).passed)
    ("tensor<1x1x1x1x1x1xi8>" ∷ "tensor<1x1x1x1x1x1x1xi8>" ∷ "tensor<1x1x1x1x1x1x5000xi8>" ∷ "tensor<4096xi8>" ∷ "tensor<4097xi8>" ∷ "tensor<64x64xi8>" ∷ "tensor<64x65xi8>" ∷ "tensor<4096x0xi8>" ∷ "tensor<4097x0xi8>" ∷ "tensor<4096x0x2xi8>" ∷ "tensor<99999999999999999999999x0xi8>" ∷ [])
    ≡ 0 ∷ 1 ∷ 1 ∷ 0 ∷ 2 ∷ 0 ∷ 2 ∷ 0 ∷ 2 ∷ 2 ∷ 2 ∷ []
unfolding type_in is_letter is_digit is_sign in_run run_from run_end starts_with byte_end word_end digits_end size_next shape_end_from shape_end complex_end element_end type_close word_is width_named element_named dimensions_from byte_count all_fit type_size_passed typed foreign type_after type_of
passed-sizes = refl

record Row : Type 0 where
  type : ElementType
  text : String

row : ElementType → String → Row
row t s = record { type = t; text = s }

-- a number as a slot of its type (OP-37)
numbers : map (λ r. number_in r.type (decimal_number (ascii r.text) 0))
    (row I64 "-9223372036854775808" ∷
    row I64 "9223372036854775807" ∷
    row I64 "9223372036854775808" ∷
    row I64 "-9223372036854775809" ∷
    row I64 "+007," ∷
    row I64 "-0" ∷
    row U8 "-0" ∷
    row U8 "255" ∷
    row U8 "256" ∷
    row U8 "-1" ∷
    row I8 "-128" ∷
    row I8 "128" ∷
    row U64 "18446744073709551615" ∷
    row U64 "18446744073709551616" ∷
    row I8 "-18446744073709551616" ∷ [])
    ≡ fitting (slot_for I64 (neg_ℤ (pos (2 ^ 63)))) ∷ fitting (2 ^ 63 - 1) ∷ unfit ∷ unfit ∷ fitting 7 ∷ fitting 0 ∷ fitting 0 ∷ fitting 255 ∷ unfit ∷ unfit ∷ fitting (slot_for I8 (neg_ℤ (pos 128))) ∷ unfit ∷ fitting (2 ^ 64 - 1) ∷ unfit ∷ unfit ∷ []
unfolding row is_digit is_sign sign_end digits_from magnitude_of decimal_number in_type number_in slot_for
numbers = refl

-- an attribute number as its pattern (size 7; OP-06)
patterns : map (λ s. pattern_in (decimal_number (ascii s) 0))
    ("-9223372036854775808" ∷ "9223372036854775807" ∷ "9223372036854775808" ∷ "-9223372036854775809" ∷ "-1" ∷ "18446744073709551616" ∷ [])
    ≡ fitting (2 ^ 63) ∷ fitting (2 ^ 63 - 1) ∷ unfit ∷ unfit ∷ fitting (2 ^ 64 - 1) ∷ unfit ∷ []
unfolding is_digit is_sign sign_end digits_from magnitude_of decimal_number is_attribute_number pattern_in
patterns = refl
