-- Texts and their refusals 1 to 4, as one table under one computed statement. "a byte is its token's first".
-- Assumes nothing.
use mathlib.Core.Path.{◌≡◌, refl}
use mathlib.Core.Bool.{true, false}
use mathlib.Core.List.{List, [], ◌∷◌, map}
use Prim.Native.Nat.{ℕ}
use Prim.Native.String.{String}
use Rattle.lists.specs.Lists.{first_where}
use Rattle.scan.specs.Ascii.{ascii}
use Rattle.scan.specs.Bytes.{is_letter, is_digit, is_space, is_sigil, is_sign, in_run, run_from, run_end, starts_with, in_comment, skip_from, skip_end}
use Rattle.scan.specs.TypeText.{byte_end, word_end, digits_end, size_next, shape_end_from, shape_end, complex_end}
use Rattle.scan.specs.Quantized.{sign_end, integer_end, fraction_end, scientific_end, float_end, colon_end, parameter_end, more_end, parameters_end, storage_end, quantized_end}
use Rattle.scan.specs.TensorText.{element_end, type_close}
use Rattle.text.specs.Lex.{mark_token, name_end, name_token, sign_token, quote_token, plain_word, tensor_token, word_token, lexeme, token_at}
use Rattle.text.specs.Names.{word_is}
use Rattle.types.specs.Tensors.{width_named, element_named, dimensions_from, byte_count, all_fit, type_size_passed, typed, foreign, type_after, type_of}
use Rattle.types.specs.Numbers.{digits_from, magnitude_of, decimal_number, is_attribute_number, pattern_in}
use Rattle.optable.specs.Table.{ops, attributes, choice_kinds, choices, op_names, attribute_names, choice_kind_names, choice_names}
use Rattle.optable.specs.Find.{same, name_place, find_op, find_attribute, find_choice_kind, find_choice}
use Rattle.grammar.specs.Symbols.{OpName, leaf_kinds, matches}
use Rattle.grammar.specs.Grammar.{grammar}
use Rattle.grammar.specs.Machine.{cell, step}
use Rattle.syntax.specs.Kinds.{mark_kind, name_kind, word_kind, quoted_kind, token_kind, kind_of}
use Rattle.syntax.specs.Readings.{readings_from, readings_of, readings}
use Rattle.judge.specs.Refusals.{Refusal}
use Rattle.judge.specs.declared.tally.Tally.{Tally}
use Rattle.judge.specs.Roles.{among_roles}
use Rattle.judge.specs.Tally.{item_number, counts, elements_at, items_after, ops_after, tally_depth, after_token}
use Rattle.judge.specs.Sizes as sizes
use Rattle.judge.specs.Judge.{refuse, unknown, refusal_at, earliest, text_refusal}

record Case : Type 0 where
  text : String
  refusal : Refusal

abbrev case : String → ℕ → ℕ → ℕ → Case
case s n a b = record { text = s; refusal = refuse n a b }

unfoldable cases : List Case
cases =
    -- 01, Table of examples: the evaluating program's text
    case "func.func @main() -> tensor<1xui16> {\n  %t = \"stablehlo.constant\"() {value = dense<[1650, 1675, 1700, 1725]> : tensor<4xui16>} : () -> tensor<4xui16>\n  %i = \"stablehlo.constant\"() {value = dense<255> : tensor<ui8>} : () -> tensor<ui8>\n  %r = \"stablehlo.dynamic_slice\"(%t, %i) {slice_sizes = array<i64: 1>} : (tensor<4xui16>, tensor<ui8>) -> tensor<1xui16>\n  \"func.return\"(%r) : (tensor<1xui16>) -> ()\n}\n" 0 0 0 ∷
    -- 2: the grammar's fault, and at the end the length
    case "func.func @m(%a: i32)" 2 17 0 ∷
    case "func.func @m() {" 2 16 0 ∷
    -- OP-00c: an unknown type stands before the fault
    case "func.func @m(%a: tensor<4xf32>) oops" 3 17 0 ∷
    -- 3: `?`, `token`, an op, an attribute, a choice's kind, a choice
    case "func.func @m(%a: tensor<?xi8>" 3 17 0 ∷
    case "func.func @m(%a: token" 3 17 0 ∷
    case "func.func @m() {\"mhlo.add\"" 3 16 0 ∷
    case "func.func @m() {\"stablehlo.iota\"() {foo" 3 36 0 ∷
    case "func.func @m() {\"stablehlo.compare\"() {compare_type = #stablehlo<precision" 3 65 0 ∷
    case "func.func @m() {\"stablehlo.compare\"() {compare_type = #stablehlo<comparison_type FLOAT" 3 81 0 ∷
    -- OP-32: at one byte 3 stands before 4
    case "func.func @m(%a: tensor<?x1x1x1x1x1x1xf32>" 3 17 0 ∷
    -- size 1: "Rank 6 accepted, 7 refused (4, B 1)"
    case "func.func @m(%a: tensor<1x1x1x1x1x1xi8>" 2 39 0 ∷
    case "func.func @m(%a: tensor<1x1x1x1x1x1x1xi8>" 4 17 1 ∷
    -- size 2: at the limit, a dimension, a product, every 0 counted as 1
    case "func.func @m(%a: tensor<64x64xi8>" 2 33 0 ∷
    case "func.func @m(%a: tensor<4097xi8>" 4 17 2 ∷
    case "func.func @m(%a: tensor<64x65xi8>" 4 17 2 ∷
    case "func.func @m(%a: tensor<0x4097xi8>" 4 17 2 ∷
    -- sizes 1 and 2 at one token: the lower number
    case "func.func @m(%a: tensor<1x1x1x1x1x1x4097xi8>" 4 17 1 ∷
    -- size 3: inputs; an op's result; a body's values and an empty tensor do not count
    case "func.func @m(%a: tensor<4096xi8>, %b: tensor<4096xi8>, %c: tensor<i8>" 4 59 3 ∷
    case "func.func @m(%a: tensor<4096xi8>, %b: tensor<4096xi8>) {\"stablehlo.add\"() : () -> tensor<i8>" 4 82 3 ∷
    case "func.func @m(%a: tensor<4096xi8>, %b: tensor<4096xi8>) {\"stablehlo.add\"() ({^b(%c: tensor<i8>): \"stablehlo.add\"() : () -> tensor<i8>" 2 132 0 ∷
    case "func.func @m(%a: tensor<4096xi8>, %b: tensor<4096xi8>, %c: tensor<0xi8>" 2 71 0 ∷
    -- size 5: nine inputs, eight results and nine
    case "func.func @m(%0: tensor<i8>, %1: tensor<i8>, %2: tensor<i8>, %3: tensor<i8>, %4: tensor<i8>, %5: tensor<i8>, %6: tensor<i8>, %7: tensor<i8>, %8" 4 141 5 ∷
    case "func.func @m() {%0, %1, %2, %3, %4, %5, %6, %7 = \"stablehlo.add\"" 2 64 0 ∷
    case "func.func @m() {%0, %1, %2, %3, %4, %5, %6, %7, %8" 4 48 5 ∷
    -- size 6: six numbers and seven
    case "func.func @m() {\"stablehlo.slice\"() {strides = array<i64: 1, 1, 1, 1, 1, 1>, strides = array<i64: 1" 2 99 0 ∷
    case "func.func @m() {\"stablehlo.slice\"() {strides = array<i64: 1, 1, 1, 1, 1, 1, 1" 4 76 6 ∷
    -- size 7: the lowest number and one beyond the highest
    case "func.func @m() {\"stablehlo.iota\"() {iota_dimension = -9223372036854775808" 2 73 0 ∷
    case "func.func @m() {\"stablehlo.iota\"() {iota_dimension = 9223372036854775808" 4 53 7 ∷
    -- size 8: a sigil and its name of 32 and of 33 characters
    case "func.func @mmmmmmmmmmmmmmmmmmmmmmmmmmmmmmm" 2 42 0 ∷
    case "func.func @mmmmmmmmmmmmmmmmmmmmmmmmmmmmmmmm" 4 10 8 ∷
    -- sizes 5 and 8 at one token: the lower number
    case "func.func @m() {%0, %1, %2, %3, %4, %5, %6, %7, %aaaaaaaaaaaaaaaaaaaaaaaaaaaaaaaa" 4 48 5 ∷
    []

examples : map (λ c. text_refusal (ascii c.text)) cases ≡ map (λ c. c.refusal) cases
unfolding cases text_refusal earliest refusal_at unknown sizes.size_passed sizes.passes sizes.first_passed sizes.type_passed sizes.many_elements sizes.many_ops sizes.many_items sizes.long_list sizes.large_number sizes.long_name item_number counts elements_at items_after ops_after tally_depth after_token among_roles readings readings_of readings_from kind_of token_kind mark_kind name_kind word_kind quoted_kind word_is grammar leaf_kinds matches cell step is_letter is_digit is_space is_sigil is_sign in_run run_from run_end starts_with in_comment skip_from skip_end byte_end word_end digits_end size_next shape_end_from shape_end complex_end sign_end integer_end fraction_end scientific_end float_end colon_end parameter_end more_end parameters_end storage_end quantized_end element_end type_close mark_token name_end name_token sign_token quote_token plain_word tensor_token word_token lexeme token_at width_named element_named dimensions_from byte_count all_fit type_size_passed typed foreign type_after type_of digits_from magnitude_of decimal_number is_attribute_number pattern_in ops attributes choice_kinds choices op_names attribute_names choice_kind_names choice_names same name_place find_op find_attribute find_choice_kind find_choice first_where
examples = refl

-- size 4: an op after 255 others, and after 256
abbrev after : ℕ → Tally
after n = record { more = false; items = 0; elements = 0; ops = n; depth = 0 }

op-count : (sizes.many_ops (after 255) OpName ≡ false) × (sizes.many_ops (after 256) OpName ≡ true)
unfolding sizes.many_ops
op-count = (refl, refl)
