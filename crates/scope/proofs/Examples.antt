-- Names in scope of single ops, one for each reading of the names paragraph of 01. The entries are the first bytes of names, the last one first.
-- Assumes nothing.
use mathlib.Core.Bool.{Bool, true, false}
use mathlib.Core.List.{List, [], ◌∷◌}
use mathlib.Core.Path.{◌≡◌}
use Prim.Native.Nat.{ℕ, ◌<◌, ◌≤◌}
use native.Mathlib.Omega.{arith}
use lib.Dec.{T, eqb}
use Rattle.grammar.specs.Symbols.{leaf_kinds, matches}
use Rattle.text.specs.Names.{word_is, same_bytes, name_bytes, same_name}
use Rattle.syntax.specs.Readings.{readings_from, readings_of}
use Rattle.scan.specs.Ascii.{ascii}
use Rattle.scan.specs.Bytes.{is_letter, is_digit, is_space, is_sigil, is_sign, in_run, run_from, run_end, starts_with, in_comment, skip_from, skip_end}
use Rattle.scan.specs.TypeText.{byte_end, word_end, digits_end, size_next, shape_end_from, shape_end, complex_end}
use Rattle.scan.specs.Quantized.{sign_end, integer_end, fraction_end, scientific_end, float_end, colon_end, parameter_end, more_end, parameters_end, storage_end, quantized_end}
use Rattle.scan.specs.TensorText.{element_end, type_close}
use Rattle.text.specs.Lex.{mark_token, name_end, name_token, sign_token, quote_token, plain_word, tensor_token, word_token, lexeme, token_at}
use Rattle.grammar.specs.Grammar.{grammar}
use Rattle.grammar.specs.Machine.{cell, step}
use Rattle.grammar.proofs.TableTest.{both}
use Rattle.syntax.specs.Kinds.{mark_kind, name_kind, word_kind, quoted_kind, token_kind, kind_of}
use Rattle.scope.specs.Scope.{Scope, scope, fault, body, waiting, waiting_name, name_at, same_at, defines, visible, define, look, settle, forget, begins, ends, placed, turned, names_from, names_of, inputs_from}

abbrev same : List ℕ → List ℕ → Bool
same [] [] = true
same [] (y ∷ ys) = false
same (x ∷ xs) [] = false
same (x ∷ xs) (y ∷ ys) = both (eqb x y) (same xs ys)

abbrev same_scope : Scope → Scope → Bool
same_scope (scope xs) (scope ys) = same xs ys
same_scope (scope xs) (fault n a) = false
same_scope (fault n a) (scope ys) = false
same_scope (fault n a) (fault m b) = both (eqb n m) (eqb a b)

record Case : Type 0 where
  found : Scope
  expected : Scope

abbrev case : Scope → Scope → Case
case f e = record { found = f; expected = e }

abbrev right : List Case → Bool
right [] = true
right (c ∷ cs) = both (same_scope c.found c.expected) (right cs)

unfoldable cases : List Case
cases =
    -- OP-54: `%0` and `%00` are two names
    case (names_of (ascii "%0 \"a.b\"(%00) : () -> ()") 3 (0 ∷ [])) (fault 5 9) ∷
    -- the operand is defined before, the result after it
    case (names_of (ascii "%0 %r = \"a.b\"(%0) : () -> ()") 3 (0 ∷ [])) (scope (3 ∷ 0 ∷ [])) ∷
    -- operands before results: the result is not defined yet
    case (names_of (ascii "%r = \"a.b\"(%r) : () -> ()") 0 []) (fault 5 11) ∷
    -- OP-55: a value from outside is defined before
    case (names_of (ascii "%x \"a.b\"() ({ ^b(%a: tensor<i8>): \"stablehlo.return\"(%x) : () -> () }) : () -> ()") 3 (0 ∷ [])) (scope (0 ∷ [])) ∷
    -- OP-56: an argument named like an outer value
    case (names_of (ascii "%x \"a.b\"() ({ ^b(%x: tensor<i8>): \"stablehlo.return\"(%x) : () -> () }) : () -> ()") 3 (0 ∷ [])) (fault 6 17) ∷
    -- OP-56: a result of a body named like an outer value
    case (names_of (ascii "%x \"a.b\"() ({ ^b(%a: tensor<i8>): %x = \"a.d\"(%a) : () -> () \"stablehlo.return\"(%a) : () -> () }) : () -> ()") 3 (0 ∷ [])) (fault 6 34) ∷
    -- OP-57, OP-58: two bodies may share names, and the op's result may repeat one
    case (names_of (ascii "%a = \"a.b\"() ({ ^b(%a: tensor<i8>): \"stablehlo.return\"(%a) : () -> () }, { ^b(%a: tensor<i8>): \"stablehlo.return\"(%a) : () -> () }) : () -> ()") 0 []) (scope (0 ∷ [])) ∷
    -- OP-57: names are forgotten at the first brace
    case (names_of (ascii "\"a.b\"() ({ ^b(%a: tensor<i8>): \"stablehlo.return\"(%a) : () -> () }, { ^b(%c: tensor<i8>): \"stablehlo.return\"(%a) : () -> () }) : () -> ()") 0 []) (fault 5 109) ∷
    -- OP-57: the op's own result inside its body
    case (names_of (ascii "%r = \"a.b\"() ({ ^b(%a: tensor<i8>): \"stablehlo.return\"(%r) : () -> () }) : () -> ()") 0 []) (fault 5 55) ∷
    -- OP-59: op by op, then the return
    case (names_of (ascii "\"a.b\"() ({ ^b(%a: tensor<i8>): %c = \"a.d\"(%a) : () -> () \"stablehlo.return\"(%c) : () -> () }) : () -> ()") 0 []) (scope []) ∷
    -- OP-59: operands before results in a body
    case (names_of (ascii "\"a.b\"() ({ ^b(%a: tensor<i8>): %c = \"a.d\"(%c) : () -> () \"stablehlo.return\"(%c) : () -> () }) : () -> ()") 0 []) (fault 5 42) ∷
    -- a body in a body: its names are forgotten, the outer ones stay
    case (names_of (ascii "\"a.b\"() ({ ^b(%a: tensor<i8>): %c = \"a.d\"() ({ ^b(%e: tensor<i8>): \"stablehlo.return\"(%a) : () -> () }) : () -> () \"stablehlo.return\"(%e) : () -> () }) : () -> ()") 0 []) (fault 5 134) ∷
    -- OP-60: at the second
    case (names_of (ascii "%a, %a = \"a.b\"() : () -> ()") 0 []) (fault 6 4) ∷
    -- the first result first
    case (names_of (ascii "%x %y %y, %x = \"a.b\"() : () -> ()") 6 (3 ∷ 0 ∷ [])) (fault 6 6) ∷
    -- OP-60: a return's result name is checked too
    case (names_of (ascii "%x %x = \"func.return\"() : () -> ()") 3 (0 ∷ [])) (fault 6 3) ∷
    -- OP-18: duplicate input names, at the second
    case (inputs_from (ascii "%a %b %a") [] (0 ∷ 3 ∷ 6 ∷ [])) (fault 6 6) ∷
    -- three inputs
    case (inputs_from (ascii "%a %b %aa") [] (0 ∷ 3 ∷ 6 ∷ [])) (scope (6 ∷ 3 ∷ 0 ∷ [])) ∷
    []

examples : T (right cases)
unfolding cases name_at same_at defines visible define look settle forget begins ends placed turned names_from names_of inputs_from same_bytes name_bytes same_name readings_of readings_from kind_of token_kind mark_kind name_kind word_kind quoted_kind word_is grammar leaf_kinds matches cell step is_letter is_digit is_space is_sigil is_sign in_run run_from run_end starts_with in_comment skip_from skip_end byte_end word_end digits_end size_next shape_end_from shape_end complex_end sign_end integer_end fraction_end scientific_end float_end colon_end parameter_end more_end parameters_end storage_end quantized_end element_end type_close mark_token name_end name_token sign_token quote_token plain_word tensor_token word_token lexeme token_at
examples = tt

-- in a text of at most 65,536 bytes the three kinds of entries are apart
kinds-apart : (a : ℕ) → a ≤ 65536 → (a < body) × (body < waiting a) × (waiting_name (waiting a) ≡ a)
kinds-apart a h = (omega arith, omega arith, omega arith)
