-- Bodies on two values, computed from their texts: by names, whether or not they are of the form.
-- Assumes nothing.
use mathlib.Core.Path.{◌≡◌, refl}
use mathlib.Core.List.{List, [], ◌∷◌, ◌++◌, map}
use Prim.Native.Nat.{ℕ}
use Prim.Native.String.{String}
use lib.IntN.{pos, neg_ℤ}
use Rattle.lists.specs.Lists.{first_where}
use Rattle.element.specs.declared.ElementType.TheVariants.{I8}
use Rattle.element.specs.Types.{wrap_to, slot_for, value_of}
use Rattle.scalar.specs.Ops.{add_of, subtract_of}
use Rattle.scan.specs.Ascii.{ascii}
use Rattle.scan.specs.Bytes.{is_letter, is_digit, is_space, is_sigil, is_sign, in_run, run_from, run_end, starts_with, in_comment, skip_from, skip_end}
use Rattle.scan.specs.TypeText.{byte_end, word_end, digits_end, size_next, shape_end_from, shape_end, complex_end}
use Rattle.scan.specs.Quantized.{sign_end, integer_end, fraction_end, scientific_end, float_end, colon_end, parameter_end, more_end, parameters_end, storage_end, quantized_end}
use Rattle.scan.specs.TensorText.{element_end, type_close}
use Rattle.text.specs.Lex.{mark_token, name_end, name_token, sign_token, quote_token, plain_word, tensor_token, word_token, lexeme, token_at}
use Rattle.text.specs.Names.{word_is, same_bytes, name_bytes, same_name}
use Rattle.grammar.specs.Symbols.{leaf_kinds, matches}
use Rattle.grammar.specs.Grammar.{grammar}
use Rattle.grammar.specs.Machine.{cell, step}
use Rattle.syntax.specs.Kinds.{mark_kind, name_kind, word_kind, quoted_kind, token_kind, kind_of}
use Rattle.syntax.specs.Readings.{readings_from, readings_of}
use Rattle.optable.specs.Table.{ops, op_names, attributes, attribute_names, row_at}
use Rattle.optable.specs.Find.{same, name_place, find_op}
use Rattle.program.specs.Parts.{part_of, no_parts, added_to, noted, depth_after, parts_from, parts_of, parts_at, body_at}
use Rattle.scope.specs.Scope.{name_at, same_at}
use Rattle.places.specs.Places.{place_of}
use Rattle.bodies.specs.Bodies.{row_named, body_row}
use Rattle.body_meaning.specs.BodyValue.{named_value, body_value}

-- a body by its op with the operands, and by what it returns
unfoldable body : String → String → List ℕ
body op returned =
    ascii "{ ^b(%a: tensor<i8>, %b: tensor<i8>): %c = \"stablehlo." ++ ascii op ++ ascii " : (tensor<i8>, tensor<i8>) -> tensor<i8> \"stablehlo.return\"(" ++ ascii returned ++
    ascii ") : (tensor<i8>) -> () }"

-- on 5 and 7: `add` either way round, `subtract` one way and the other way round, one argument twice, an argument returned
examples :
    map (λ t. body_value t 0 I8 5 7)
    (body "add\"(%a, %b)" "%c" ∷ body "add\"(%b, %a)" "%c" ∷ body "subtract\"(%a, %b)" "%c" ∷ body "subtract\"(%b, %a)" "%c" ∷ body "add\"(%a, %a)" "%c" ∷ body "add\"(%a, %b)" "%a" ∷ [])
    ≡ 12 ∷ 12 ∷ slot_for I8 (neg_ℤ (pos 2)) ∷ 2 ∷ 10 ∷ 5 ∷ []
unfolding body named_value body_value add_of subtract_of wrap_to slot_for value_of row_named body_row place_of first_where name_at same_at same_bytes name_bytes same_name ops op_names attributes attribute_names row_at same name_place find_op part_of no_parts added_to noted depth_after parts_from parts_of parts_at body_at readings_of readings_from kind_of token_kind mark_kind name_kind word_kind quoted_kind word_is grammar leaf_kinds matches cell step is_letter is_digit is_space is_sigil is_sign in_run run_from run_end starts_with in_comment skip_from skip_end byte_end word_end digits_end size_next shape_end_from shape_end complex_end sign_end integer_end fraction_end scientific_end float_end colon_end parameter_end more_end parameters_end storage_end quantized_end element_end type_close mark_token name_end name_token sign_token quote_token plain_word tensor_token word_token lexeme token_at
examples = refl
