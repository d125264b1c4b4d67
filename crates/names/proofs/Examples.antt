-- Names of single ops, one for each part of the sentence of 01: "Names are checked in each op as operands, body, result; the first fault answers; body names are
-- forgotten at its closing brace". Known names are given by their first bytes, the last one first.
-- Assumes nothing.
use mathlib.Core.Bool.{Bool, true}
use mathlib.Core.List.{List, [], ◌∷◌}
use Prim.Native.Nat.{ℕ}
use lib.Dec.{T, eqb}
use Rattle.grammar.specs.Symbols.{leaf_kinds, matches, Op}
use Rattle.text.specs.Names.{word_is, same_bytes, name_bytes, same_name}
use Rattle.syntax.specs.Readings.{readings_from, readings_of}
use Rattle.scan.specs.Ascii.{ascii}
use Rattle.scan.specs.Bytes.{is_letter, is_digit, is_space, is_sigil, is_sign, in_run, run_from, run_end, starts_with, in_comment, skip_from, skip_end}
use Rattle.scan.specs.TypeText.{byte_end, word_end, digits_end, size_next, shape_end_from, shape_end, complex_end}
use Rattle.scan.specs.Quantized.{sign_end, integer_end, fraction_end, scientific_end, float_end, colon_end, parameter_end, more_end, parameters_end, storage_end, quantized_end}
use Rattle.scan.specs.TensorText.{element_end, type_close}
use Rattle.text.specs.Lex.{mark_token, name_end, name_token, sign_token, quote_token, plain_word, tensor_token, word_token, lexeme, token_at}
use Rattle.grammar.specs.Grammar.{grammar}
use Rattle.grammar.specs.Machine.{cell, step}
use Rattle.grammar.proofs.TableTest.{both}
use Rattle.syntax.specs.Kinds.{mark_kind, name_kind, word_kind, quoted_kind, token_kind, kind_of}
use Rattle.program.specs.Parts.{depth_after}
use Rattle.scope.specs.Faults.{NameFault}
use Rattle.scope.specs.Scope.{name_at, same_at, begins, ends}
use Rattle.names.specs.Names.{checked_fault, defines_name, is_visible, use_name, define_name, settled, forgotten, on_token, token_checked, names_read, op_names_read, op_names_fault, names_defined, input_names_fault}
use Rattle.names.specs.InOrder.{own_places, body_readings, names_used, operands_body_result}

record Case : Type 0 where
  found : NameFault
  refusal : ℕ
  a : ℕ

abbrev case : NameFault → ℕ → ℕ → Case
case f n a = record { found = f; refusal = n; a = a }

abbrev right : List Case → Bool
right [] = true
right (c ∷ cs) = both (both (eqb c.found.refusal c.refusal) (eqb c.found.a c.a)) (right cs)

-- `%a` at byte 3 is defined before. Three faults: an operand that is not defined at byte 25, a body's argument that is defined, two results with one name
abbrev three_faults : List ℕ
three_faults = ascii "   %a %c, %c = \"a.b\"(%a, %d) ({ ^b(%a: tensor<i8>): \"stablehlo.return\"() : () -> () }) : () -> ()"

-- the same without that operand
abbrev two_faults : List ℕ
two_faults = ascii "   %a %c, %c = \"a.b\"(%a) ({ ^b(%a: tensor<i8>): \"stablehlo.return\"() : () -> () }) : () -> ()"

-- and with another name for the body's argument
abbrev one_fault : List ℕ
one_fault = ascii "   %a %c, %c = \"a.b\"(%a) ({ ^b(%c: tensor<i8>): \"stablehlo.return\"(%c) : () -> () }) : () -> ()"

unfoldable cases : List Case
cases =
    -- operands, then body, then result
    case (op_names_fault three_faults 6 (3 ∷ [])) 5 25 ∷
    case (op_names_fault two_faults 6 (3 ∷ [])) 6 31 ∷
    case (op_names_fault one_fault 6 (3 ∷ [])) 6 10 ∷
    -- the op's own result is not defined before it: for an operand, and in its body
    case (op_names_fault (ascii "%r = \"a.b\"(%r) : () -> ()") 0 []) 5 11 ∷
    case (op_names_fault (ascii "%r = \"a.b\"() ({ ^b(%a: tensor<i8>): \"stablehlo.return\"(%r) : () -> () }) : () -> ()") 0 []) 5 55 ∷
    -- names of a body are forgotten at its closing brace: not defined in the next one, and the op's result may repeat one
    case (op_names_fault (ascii "\"a.b\"() ({ ^b(%a: tensor<i8>): \"stablehlo.return\"(%a) : () -> () }, { ^b(%c: tensor<i8>): \"stablehlo.return\"(%a) : () -> () }) : () -> ()") 0 []) 5 109 ∷
    case (op_names_fault (ascii "%a = \"a.b\"() ({ ^b(%a: tensor<i8>): \"stablehlo.return\"(%a) : () -> () }) : () -> ()") 0 []) 0 0 ∷
    -- duplicate input names, at the second
    case (input_names_fault (ascii "%a %b %a") (0 ∷ 3 ∷ 6 ∷ [])) 6 6 ∷
    case (input_names_fault (ascii "%a %b %aa") (0 ∷ 3 ∷ 6 ∷ [])) 0 0 ∷
    -- the same three by operands, body, result
    case (checked_fault (operands_body_result three_faults (readings_of Op three_faults 6) (3 ∷ []))) 5 25 ∷
    case (checked_fault (operands_body_result two_faults (readings_of Op two_faults 6) (3 ∷ []))) 6 31 ∷
    case (checked_fault (operands_body_result one_fault (readings_of Op one_fault 6) (3 ∷ []))) 6 10 ∷
    []

examples : T (right cases)
unfolding cases checked_fault defines_name is_visible use_name define_name settled forgotten on_token token_checked names_read op_names_read op_names_fault names_defined input_names_fault own_places body_readings names_used operands_body_result depth_after name_at same_at begins ends same_bytes name_bytes same_name readings_of readings_from kind_of token_kind mark_kind name_kind word_kind quoted_kind word_is grammar leaf_kinds matches cell step is_letter is_digit is_space is_sigil is_sign in_run run_from run_end starts_with in_comment skip_from skip_end byte_end word_end digits_end size_next shape_end_from shape_end complex_end sign_end integer_end fraction_end scientific_end float_end colon_end parameter_end more_end parameters_end storage_end quantized_end element_end type_close mark_token name_end name_token sign_token quote_token plain_word tensor_token word_token lexeme token_at
examples = tt
