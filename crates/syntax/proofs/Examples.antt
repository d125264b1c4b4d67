-- Texts and their faults, as one table under one computed statement. Short ops stand for any: names are left open.
-- Assumes nothing.
use mathlib.Core.Bool.{Bool, true}
use mathlib.Core.List.{List, [], ◌∷◌, ◌++◌, map}
use Prim.Native.Nat.{ℕ, ◌+◌}
use Prim.Native.String.{String}
use lib.Dec.{T, eqb}
use Rattle.scan.specs.Ascii.{ascii}
use Rattle.scan.specs.Bytes.{is_letter, is_digit, is_space, is_sigil, is_sign, in_run, run_from, run_end, starts_with, in_comment, skip_from, skip_end}
use Rattle.scan.specs.TypeText.{byte_end, word_end, digits_end, size_next, shape_end_from, shape_end, complex_end}
use Rattle.scan.specs.Quantized.{sign_end, integer_end, fraction_end, scientific_end, float_end, colon_end, parameter_end, more_end, parameters_end, storage_end, quantized_end}
use Rattle.scan.specs.TensorText.{element_end, type_close}
use Rattle.text.specs.Lex.{mark_token, name_end, name_token, sign_token, quote_token, plain_word, tensor_token, word_token, lexeme, token_at}
use Rattle.text.specs.Names.{word_is}
use Rattle.grammar.specs.Symbols.{Op, FunctionName, End, func, lparen, rparen, lbrace, rbrace, leaf_kinds, matches}
use Rattle.grammar.specs.Grammar.{grammar}
use Rattle.grammar.proofs.TableTest.{both}
use Rattle.grammar.proofs.TableRight.{same_list}
use Rattle.grammar.specs.Machine.{cell, step}
use Rattle.syntax.specs.Kinds.{mark_kind, name_kind, word_kind, quoted_kind, token_kind, kind_of}
use Rattle.syntax.specs.Readings.{Reading, readings_from, readings_of, readings, Fault, no_fault, fault_at, fault_in, grammar_fault}

record Case : Type 0 where
  text : String
  fault : Fault

abbrev case : String → Fault → Case
case s f = record { text = s; fault = f }

unfoldable cases : List Case
cases =
    -- 01, Table of examples: the evaluating program's text
    case "func.func @main() -> tensor<1xui16> {\n  %t = \"stablehlo.constant\"() {value = dense<[1650, 1675, 1700, 1725]> : tensor<4xui16>} : () -> tensor<4xui16>\n  %i = \"stablehlo.constant\"() {value = dense<255> : tensor<ui8>} : () -> tensor<ui8>\n  %r = \"stablehlo.dynamic_slice\"(%t, %i) {slice_sizes = array<i64: 1>} : (tensor<4xui16>, tensor<ui8>) -> tensor<1xui16>\n  \"func.return\"(%r) : (tensor<1xui16>) -> ()\n}\n" no_fault ∷
    -- 000, Operations: a body after attributes in `<{ }>`
    case "func.func @m() -> tensor<i8> {\n%r = \"stablehlo.reduce\"(%x, %s) <{dimensions = array<i64: 0>}> ({\n^bb0(%a: tensor<i8>, %b: tensor<i8>):\n  %c = \"stablehlo.add\"(%a, %b) : (tensor<i8>, tensor<i8>) -> tensor<i8>\n  \"stablehlo.return\"(%c) : (tensor<i8>) -> ()\n}) : (tensor<4xi8>, tensor<i8>) -> tensor<i8>\n\"func.return\"(%r) : (tensor<i8>) -> () }" no_fault ∷
    -- OP-12: tokens may touch
    case "func.func@m(){\"func.return\"():()->()}" no_fault ∷
    -- OP-17: an empty text: A is its length
    case "" (fault_at 0) ∷
    -- at the end A is the length, white space and a comment before it
    case "func.func @m() { // no op\n  " (fault_at 28) ∷
    -- OP-00c: the grammar's fault alone
    case "func.func @m(%a: tensor<4xf32>) oops" (fault_at 32) ∷
    -- OP-14
    case "func.func @m() -> (tensor<i8>) {" (fault_at 18) ∷
    -- OP-20b
    case "module {" (fault_at 0) ∷
    -- OP-10: `tensor` and a space is a word
    case "func.func @m(%a: tensor <4xi32>)" (fault_at 17) ∷
    -- OP-22: `token` and `tuple` are types, and what follows `tuple` is read as after a type
    case "func.func @m(%a: token, %b: tuple<" (fault_at 33) ∷
    -- OP-22: any other word
    case "func.func @m(%a: i32)" (fault_at 17) ∷
    -- OP-05: `0x10` is the tokens `0` and `x10`
    case "func.func @m() {\"a.b\"() {value = dense<0x10>" (fault_at 40) ∷
    -- OP-34
    case "func.func @m() {\"a.b\"() {value = dense<>" (fault_at 39) ∷
    -- OP-41
    case "func.func @m() {%x = \"stablehlo.return\"" (fault_at 21) ∷
    -- OP-42c
    case "func.func @m() {\"a.b\"() {a = array<i64:>" (fault_at 39) ∷
    []

abbrev number : Fault → ℕ
number no_fault = 0
number (fault_at a) = a + 1

abbrev right : List Case → Bool
right [] = true
right (c ∷ cs) = both (eqb (number (grammar_fault (ascii c.text))) (number c.fault)) (right cs)

examples : T (right cases)
unfolding cases grammar_fault readings readings_of readings_from fault_in kind_of token_kind mark_kind name_kind word_kind quoted_kind word_is grammar leaf_kinds matches cell step is_letter is_digit is_space is_sigil is_sign in_run run_from run_end starts_with in_comment skip_from skip_end byte_end word_end digits_end size_next shape_end_from shape_end complex_end sign_end integer_end fraction_end scientific_end float_end colon_end parameter_end more_end parameters_end storage_end quantized_end element_end type_close mark_token name_end name_token sign_token quote_token plain_word tensor_token word_token lexeme token_at
examples = tt

-- an op read by itself, from its first byte, has the roles that it has in the whole text: here an op with a body, and the return
roles : List Reading → List ℕ
roles = map (λ r. r.role)

abbrev with_body : String
with_body = "func.func @m() {%x = \"a.b\"() ({^b(): \"stablehlo.return\"():()->()}) : () -> () \"func.return\"():()->()}"

op-alone : T (same_list (roles (readings (ascii with_body)))
    ((func ∷ FunctionName ∷ lparen ∷ rparen ∷ lbrace ∷ []) ++ roles (readings_of Op (ascii with_body) 16) ++ roles (readings_of Op (ascii with_body) 78) ++ (rbrace ∷ End ∷ [])))
unfolding same_list roles grammar_fault readings readings_of readings_from fault_in kind_of token_kind mark_kind name_kind word_kind quoted_kind word_is grammar leaf_kinds matches cell step is_letter is_digit is_space is_sigil is_sign in_run run_from run_end starts_with in_comment skip_from skip_end byte_end word_end digits_end size_next shape_end_from shape_end complex_end sign_end integer_end fraction_end scientific_end float_end colon_end parameter_end more_end parameters_end storage_end quantized_end element_end type_close mark_token name_end name_token sign_token quote_token plain_word tensor_token word_token lexeme token_at
op-alone = tt
