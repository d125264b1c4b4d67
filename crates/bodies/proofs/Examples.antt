-- Bodies of the form, and bodies that are not, computed.
-- Assumes nothing.
use mathlib.Core.Path.{◌≡◌, refl}
use mathlib.Core.Bool.{true, false}
use mathlib.Core.List.{List, [], ◌∷◌, ◌++◌, map}
use Prim.Native.Nat.{ℕ}
use Prim.Native.String.{String}
use Rattle.lists.specs.Lists.{first_where}
use Rattle.scan.specs.Ascii.{ascii}
use Rattle.scan.specs.Bytes.{is_letter, is_digit, is_space, is_sigil, is_sign, in_run, run_from, run_end, starts_with, in_comment, skip_from, skip_end}
use Rattle.scan.specs.TypeText.{byte_end, word_end, digits_end, size_next, shape_end_from, shape_end, complex_end}
use Rattle.scan.specs.Quantized.{sign_end, integer_end, fraction_end, scientific_end, float_end, colon_end, parameter_end, more_end, parameters_end, storage_end, quantized_end}
use Rattle.scan.specs.TensorText.{element_end, type_close}
use Rattle.text.specs.Lex.{mark_token, name_end, name_token, sign_token, quote_token, plain_word, tensor_token, word_token, lexeme, token_at}
use Rattle.text.specs.Names.{word_is, same_bytes, name_bytes, same_name}
use Rattle.types.specs.Tensors.{width_named, element_named, dimensions_from, byte_count as count_of_byte, all_fit, type_size_passed, typed, foreign, type_after, type_of}
use Rattle.grammar.specs.Symbols.{leaf_kinds, matches}
use Rattle.grammar.specs.Grammar.{grammar}
use Rattle.grammar.specs.Machine.{cell, step}
use Rattle.syntax.specs.Kinds.{mark_kind, name_kind, word_kind, quoted_kind, token_kind, kind_of}
use Rattle.syntax.specs.Readings.{readings_from, readings_of}
use Rattle.optable.specs.Table.{ops, op_names, op_named, attributes, attribute_names, row_at}
use Rattle.optable.specs.Find.{same, name_place, find_op}
use Rattle.program.specs.Parts.{part_of, no_parts, added_to, noted, depth_after, parts_from, parts_of, parts_at, op_at, body_at}
use Rattle.scope.specs.Scope.{name_at, same_at}
use Rattle.dimrules.specs.Count.{first_failing, everywhere}
use Rattle.dimrules.specs.Dims.{dim_test}
use Rattle.dimrules.specs.Types.{same_element, same_shape, same_type}
use Rattle.places.specs.Places.{count_of, place_of, type_in, type_of_part}
use Rattle.bodies.specs.Bodies.{inner_op, has_count, body_counted, op_counted, row_named, is_reducer, operand_is, on_both, returns_it, as_first, one_type, formed, body_fits, body_row}

-- a body of two arguments of one type, and its ops
abbrev body : String → List ℕ
body s = ascii "{ ^b(%a: tensor<2xi8>, %b: tensor<2xi8>): " ++ ascii s ++ ascii " }"

unfoldable straight : List ℕ
straight = body "%c = \"stablehlo.add\"(%a, %b) : (tensor<2xi8>, tensor<2xi8>) -> tensor<2xi8> \"stablehlo.return\"(%c) : (tensor<2xi8>) -> ()"

-- "either way round"
unfoldable swapped : List ℕ
swapped = body "%c = \"stablehlo.xor\"(%b, %a) : (tensor<2xi8>, tensor<2xi8>) -> tensor<2xi8> \"stablehlo.return\"(%c) : (tensor<2xi8>) -> ()"

-- an op with one operand and a return with two: the counts of the whole body are those of the form
unfoldable shifted : List ℕ
shifted = body "%c = \"stablehlo.add\"(%a) : (tensor<2xi8>) -> tensor<2xi8> \"stablehlo.return\"(%b, %c) : (tensor<2xi8>, tensor<2xi8>) -> ()"

-- the return of an argument
unfoldable unused : List ℕ
unused = body "%c = \"stablehlo.add\"(%a, %b) : (tensor<2xi8>, tensor<2xi8>) -> tensor<2xi8> \"stablehlo.return\"(%a) : (tensor<2xi8>) -> ()"

-- one argument twice
unfoldable doubled : List ℕ
doubled = body "%c = \"stablehlo.add\"(%a, %a) : (tensor<2xi8>, tensor<2xi8>) -> tensor<2xi8> \"stablehlo.return\"(%c) : (tensor<2xi8>) -> ()"

-- subtract is none of the seven
unfoldable minus : List ℕ
minus = body "%c = \"stablehlo.subtract\"(%a, %b) : (tensor<2xi8>, tensor<2xi8>) -> tensor<2xi8> \"stablehlo.return\"(%c) : (tensor<2xi8>) -> ()"

-- a result of another type
unfoldable wider : List ℕ
wider = body "%c = \"stablehlo.add\"(%a, %b) : (tensor<2xi8>, tensor<2xi8>) -> tensor<2xi16> \"stablehlo.return\"(%c) : (tensor<2xi8>) -> ()"

examples : (map (λ t. body_fits t 0) (straight ∷ swapped ∷ shifted ∷ unused ∷ doubled ∷ minus ∷ wider ∷ []) ≡ true ∷ true ∷ false ∷ false ∷ false ∷ false ∷ false ∷ [])
    × (map (λ t. body_counted (body_at t 0)) (shifted ∷ []) ≡ true ∷ []) × (body_row swapped 0 ≡ op_named "xor")
unfolding straight swapped shifted unused doubled minus wider inner_op has_count body_counted op_counted row_named is_reducer operand_is on_both returns_it as_first one_type formed body_fits body_row count_of place_of type_in type_of_part same_element same_shape same_type dim_test first_failing everywhere first_where name_at same_at same_bytes name_bytes same_name ops op_names attributes attribute_names row_at same name_place find_op width_named element_named dimensions_from count_of_byte all_fit type_size_passed typed foreign type_after type_of part_of no_parts added_to noted depth_after parts_from parts_of parts_at op_at body_at readings_of readings_from kind_of token_kind mark_kind name_kind word_kind quoted_kind word_is grammar leaf_kinds matches cell step is_letter is_digit is_space is_sigil is_sign in_run run_from run_end starts_with in_comment skip_from skip_end byte_end word_end digits_end size_next shape_end_from shape_end complex_end sign_end integer_end fraction_end scientific_end float_end colon_end parameter_end more_end parameters_end storage_end quantized_end element_end type_close mark_token name_end name_token sign_token quote_token plain_word tensor_token word_token lexeme token_at
examples = (refl, refl, refl)
