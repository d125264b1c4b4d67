-- The attributes of short ops, computed: those that fit their row, those that refusal 7 names, and the values that are read.
-- Assumes nothing.
use mathlib.Core.Path.{◌≡◌, refl}
use mathlib.Core.Bool.{Bool, true, false}
use mathlib.Core.List.{List, [], ◌∷◌, ◌++◌, map}
use Prim.Native.Nat.{ℕ}
use lib.ListN.{length, replicate}
use Rattle.lists.specs.Lists.{first_where}
use Rattle.scan.specs.Ascii.{ascii}
use Rattle.scan.specs.Bytes.{is_letter, is_digit, is_space, is_sigil, is_sign, in_run, run_from, run_end, starts_with, in_comment, skip_from, skip_end}
use Rattle.scan.specs.TypeText.{byte_end, word_end, digits_end, size_next, shape_end_from, shape_end, complex_end}
use Rattle.scan.specs.Quantized.{sign_end, integer_end, fraction_end, scientific_end, float_end, colon_end, parameter_end, more_end, parameters_end, storage_end, quantized_end}
use Rattle.scan.specs.TensorText.{element_end, type_close}
use Rattle.shape.specs.Dims.{dims_of}
use Rattle.text.specs.Lex.{mark_token, name_end, name_token, sign_token, quote_token, plain_word, tensor_token, word_token, lexeme, token_at}
use Rattle.text.specs.Names.{word_is}
use Rattle.element.specs.Types.{slot_for}
use Rattle.types.specs.Numbers.{digits_from, magnitude_of, decimal_number, in_type, number_in, is_attribute_number, pattern_in}
use Rattle.types.specs.Tensors.{width_named, element_named, dimensions_from, byte_count as «byte_count_of», all_fit, type_size_passed, typed, foreign, type_after, type_of}
use Rattle.optable.specs.Table.{attributes, choice_kinds, choices, ops, op_names, op_named, attribute_names, choice_kind_names, choice_names, choice_named, row_at, attribute_kind, choice_form, said_at, choice_kind, edge_padding_low, dimension, comparison_direction, value}
use Rattle.optable.specs.Find.{same, name_place, find_attribute, find_choice_kind, find_choice, slot_in}
use Rattle.attribute.specs.Attribute.{token_after, word_form, choice_at, form_at, pattern_at, number_at, none_read, with_number, goes_on, numbers_from, numbers_at, ends_literal, close_from, dense_tokens}
use Rattle.dense.specs.Dense.{boolean_of, literal_of, read_then, mark_at, comma_before, one_at, items_at, dense_at as «lists_at», same_literal, dense_value}
use Rattle.dimrules.specs.Count.{first_failing, everywhere}
use Rattle.dimrules.specs.Dims.{list_of}
use Rattle.program.specs.declared.Parts.{Parts}
use Rattle.places.specs.Places.{count_of, place_of, type_in}
use Rattle.attributes.specs.Attributes.{attributes_of, attribute_of, stands_at, stands, choice_fits, dense_fits, kind_fits, attribute_fits, needed_at, attributes_fit, name_of, numbers_by, attribute_numbers, choice_of, dense_type}

unfoldable sample : List ℕ
sample = ascii "comparison_direction = #stablehlo<comparison_direction LT>, compare_type = #stablehlo<comparison_type SIGNED>, comparison_direction = #stablehlo<comparison_direction GE>, dimension = -2 : i64, compare_type = #stablehlo<comparison_direction LT>, comparison_direction = #stablehlo<comparison_direction SIGNED>, value = dense<[1, -128]> : tensor<2xi8>, value = dense<[1, 2, 3]> : tensor<2xi8>, value = dense<128> : tensor<2xi8>, value = 1 : i64, edge_padding_low = array<i64: 1, 0>"

-- an op whose attributes' names start at these bytes
abbrev op_with : List ℕ → Parts
op_with names = record { count = replicate 5 0 ++ (length names ∷ replicate 5 0); at = replicate 40 0 ++ (names ++ replicate 48 0) }

record Case : Type 0 where
  row : ℕ
  names : List ℕ

abbrev op : ℕ → List ℕ → Case
op row names = record { row = row; names = names }

-- rows of the op table
abbrev compare : ℕ
compare = op_named "compare"

abbrev concatenate : ℕ
concatenate = op_named "concatenate"

abbrev constant : ℕ
constant = op_named "constant"

abbrev fits : Case → Bool
fits c = attributes_fit sample (op_with c.names) (row_at c.row)

examples :
    -- compare with both attributes in either order, and without compare_type; a constant
    (map fits (op compare (0 ∷ 60 ∷ []) ∷ op compare (60 ∷ 0 ∷ []) ∷ op compare (0 ∷ []) ∷ op constant (309 ∷ []) ∷ []) ≡ replicate 4 true)
    -- missing, in two ways; doubled; foreign; a choice of the other kind, by its first word and by its second; a number for a dense value; a dense value of other
    -- sizes and of another range than its type; nine attributes
    × (map fits
    (op compare [] ∷
    op compare (60 ∷ []) ∷
    op compare (0 ∷ 111 ∷ []) ∷
    op compare (0 ∷ 171 ∷ []) ∷
    op compare (0 ∷ 193 ∷ []) ∷
    op compare (245 ∷ []) ∷
    op constant (426 ∷ []) ∷
    op constant (350 ∷ []) ∷
    op constant (391 ∷ []) ∷
    op concatenate (replicate 9 171) ∷ [])
    ≡ replicate 10 false)
    -- the values: a list, a number alone as its 64-bit pattern, none where the attribute does not stand; the choice LT; the sizes of a dense value's type
    × (map (λ k. list_of (attribute_numbers sample (op_with (443 ∷ 171 ∷ [])) k)) (edge_padding_low ∷ dimension ∷ value ∷ []) ≡ (1 ∷ 0 ∷ []) ∷ (18446744073709551614 ∷ []) ∷ [] ∷ [])
    × (choice_of sample (op_with (60 ∷ 0 ∷ [])) comparison_direction ≡ choice_named "LT")
    × (dims_of (dense_type sample (op_with (309 ∷ [])) value).shape ≡ 2 ∷ [])
unfolding sample first_where is_letter is_digit is_space is_sigil is_sign in_run run_from run_end starts_with in_comment skip_from skip_end byte_end word_end digits_end size_next shape_end_from shape_end complex_end sign_end integer_end fraction_end scientific_end float_end colon_end parameter_end more_end parameters_end storage_end quantized_end element_end type_close mark_token name_end name_token sign_token quote_token plain_word tensor_token word_token lexeme token_at word_is digits_from magnitude_of decimal_number in_type number_in is_attribute_number pattern_in slot_for width_named element_named dimensions_from «byte_count_of» all_fit type_size_passed typed foreign type_after type_of attributes choice_kinds choices ops op_names attribute_names choice_kind_names choice_names row_at attribute_kind said_at choice_kind same name_place find_attribute find_choice_kind find_choice slot_in token_after choice_form word_form choice_at form_at pattern_at number_at none_read with_number goes_on numbers_from numbers_at ends_literal close_from dense_tokens boolean_of literal_of read_then mark_at comma_before one_at items_at «lists_at» same_literal dense_value first_failing everywhere count_of place_of type_in attributes_of attribute_of stands_at stands choice_fits dense_fits kind_fits attribute_fits needed_at attributes_fit name_of numbers_by attribute_numbers choice_of dense_type
examples = (refl, refl, refl, refl, refl)
