-- The values of attributes on a short text, computed.
-- Assumes nothing.
use mathlib.Core.Bool.{Bool, true, false}
use mathlib.Core.List.{List, [], ◌∷◌, map}
use Prim.Native.Nat.{ℕ}
use lib.Dec.{T}
use lib.ListN.{take}
use Rattle.lists.specs.Lists.{first_where, pick}
use Rattle.scan.specs.Ascii.{ascii}
use Rattle.scan.specs.Bytes.{is_letter, is_digit, is_space, is_sigil, is_sign, in_run, run_from, run_end, starts_with, in_comment, skip_from, skip_end}
use Rattle.scan.specs.TypeText.{byte_end, word_end, digits_end, size_next, shape_end_from, shape_end, complex_end}
use Rattle.scan.specs.Quantized.{sign_end, integer_end, fraction_end, scientific_end, float_end, colon_end, parameter_end, more_end, parameters_end, storage_end, quantized_end}
use Rattle.scan.specs.TensorText.{element_end, type_close}
use Rattle.text.specs.Lex.{mark_token, name_end, name_token, sign_token, quote_token, plain_word, tensor_token, word_token, lexeme, token_at}
use Rattle.text.specs.Names.{word_is}
use Rattle.types.specs.Numbers.{digits_from, magnitude_of, decimal_number, is_attribute_number, pattern_in}
use Rattle.optable.specs.Table.{choice_kinds, choice_form, choices, choice_kind_names, choice_names}
use Rattle.optable.specs.Find.{same, name_place, find_choice_kind, find_choice}
use Rattle.dimrules.specs.declared.Numbers.{Numbers}
use Rattle.attribute.specs.declared.Constant.{Constant}
use Rattle.attribute.specs.Attribute.{ChoiceRows, token_after, word_form, choice_at, form_at, pattern_at, number_at, none_read, with_number, goes_on, numbers_from, numbers_at, ends_literal, close_from, dense_tokens}

abbrev listed : Numbers → List ℕ
listed ns = take ns.count ns.list

abbrev chosen : ChoiceRows → List ℕ
chosen c = c.kind ∷ c.choice ∷ []

abbrev starts : Constant → List ℕ
starts c = c.literal ∷ c.ty ∷ []

unfoldable sample : List ℕ
sample = ascii "strides = array<i64: 3, -1>, dimensions = array<i64>, iota_dimension = -2 : i64, comparison_direction = #stablehlo<comparison_direction LT>, compare_type = #stablehlo<comparison_type UNSIGNED>, value = dense<[[1, 2], [3, 4]]> : tensor<2x2xi32>, permutation = array<i64: 1, 2, 3, 4, 5, 6, 7>, slice_sizes = \"x.y\""

record Case : Type 0 where
  found : List ℕ
  expected : List ℕ

abbrev case : List ℕ → List ℕ → Case
case f e = record { found = f; expected = e }

abbrev right : List Case → Bool
right [] = true
right (c ∷ cs) = pick (same c.found c.expected) (right cs) false

unfoldable cases : List Case
cases =
    -- the kinds of the values; the last is none of them
    case (map (form_at sample) (0 ∷ 29 ∷ 54 ∷ 81 ∷ 141 ∷ 194 ∷ 245 ∷ 292 ∷ [])) (1 ∷ 1 ∷ 2 ∷ 4 ∷ 5 ∷ 3 ∷ 1 ∷ 0 ∷ []) ∷
    -- `array<i64: 3, -1>`: a negative number is its 64-bit pattern
    case (listed (numbers_at sample 0)) (3 ∷ 18446744073709551615 ∷ []) ∷
    -- `array<i64>`
    case (listed (numbers_at sample 29)) [] ∷
    -- a seventh number is not read: refusal 4, size 6, comes before
    case (listed (numbers_at sample 245)) (1 ∷ 2 ∷ 3 ∷ 4 ∷ 5 ∷ 6 ∷ []) ∷
    -- `-2 : i64`
    case (number_at sample 54 ∷ []) (18446744073709551614 ∷ []) ∷
    -- `Lt` is the choice 5 of the table, of its kind 0
    case (chosen (choice_at sample 81)) (0 ∷ 5 ∷ []) ∷
    -- `UNSIGNED` is the choice 7, of the kind 1
    case (chosen (choice_at sample 141)) (1 ∷ 7 ∷ []) ∷
    -- where the literal and the type of `dense<[[1, 2], [3, 4]]> : tensor<2x2xi32>` start
    case (starts (dense_tokens sample 194)) (208 ∷ 228 ∷ []) ∷
    []

examples : T (right cases)
unfolding cases sample token_after choice_form word_form choice_at form_at pattern_at number_at none_read with_number goes_on numbers_from numbers_at ends_literal close_from dense_tokens digits_from magnitude_of decimal_number is_attribute_number pattern_in choice_kinds choices choice_kind_names choice_names same name_place find_choice_kind find_choice first_where is_letter is_digit is_space is_sigil is_sign in_run run_from run_end starts_with in_comment skip_from skip_end byte_end word_end digits_end size_next shape_end_from shape_end complex_end sign_end integer_end fraction_end scientific_end float_end colon_end parameter_end more_end parameters_end storage_end quantized_end element_end type_close mark_token name_end name_token sign_token quote_token plain_word tensor_token word_token lexeme token_at word_is
examples = tt
