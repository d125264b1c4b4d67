-- The parts of a program with a constant and a reduce, whose body adds, by their places; the places were found by a search for the words.
-- Assumes nothing.
use mathlib.Core.Bool.{Bool, true, false}
use mathlib.Core.List.{List, [], ◌∷◌}
use Prim.Native.Nat.{ℕ, ◌*◌}
use lib.Dec.{T, eqb}
use lib.ListN.{get_or, take, drop}
use Rattle.lists.specs.Lists.{tab}
use Rattle.scan.specs.Ascii.{ascii}
use Rattle.scan.specs.Bytes.{is_letter, is_digit, is_space, is_sigil, is_sign, in_run, run_from, run_end, starts_with, in_comment, skip_from, skip_end}
use Rattle.scan.specs.TypeText.{byte_end, word_end, digits_end, size_next, shape_end_from, shape_end, complex_end}
use Rattle.scan.specs.Quantized.{sign_end, integer_end, fraction_end, scientific_end, float_end, colon_end, parameter_end, more_end, parameters_end, storage_end, quantized_end}
use Rattle.scan.specs.TensorText.{element_end, type_close}
use Rattle.text.specs.Lex.{mark_token, name_end, name_token, sign_token, quote_token, plain_word, tensor_token, word_token, lexeme, token_at}
use Rattle.text.specs.Names.{word_is}
use Rattle.grammar.specs.Symbols.{leaf_kinds, matches}
use Rattle.grammar.specs.Grammar.{grammar}
use Rattle.grammar.specs.Machine.{cell, step}
use Rattle.grammar.proofs.TableTest.{both}
use Rattle.syntax.specs.Kinds.{mark_kind, name_kind, word_kind, quoted_kind, token_kind, kind_of}
use Rattle.syntax.specs.Readings.{readings_from, readings_of, readings}
use Rattle.program.specs.declared.Parts.{Parts}
use Rattle.program.specs.declared.Program.{Program}
use Rattle.program.specs.Parts.{part_of, no_parts, added_to, noted, depth_after, parts_from, parts_of, parts_at, op_at, body_at}
use Rattle.program.specs.Program.{no_program, begun, in_header, names_op, begins_op, naming_after, outlined, program_from, program_of}

-- the places of each part, at most eight
abbrev part_places : Parts → List (List ℕ)
part_places p = tab 11 (λ k. take (get_or p.count k 0) (take 8 (drop (8 * k) p.at)))

abbrev op_places : Program → List ℕ
op_places p = take p.count p.ops

unfoldable sample : List ℕ
sample = ascii "func.func @m(%x: tensor<4xi8>) -> tensor<i8> {\n  %s = \"stablehlo.constant\"() {value = dense<0> : tensor<i8>} : () -> tensor<i8>\n  %r = \"stablehlo.reduce\"(%x, %s) <{dimensions = array<i64: 0>}> ({\n    ^bb0(%a: tensor<i8>, %b: tensor<i8>):\n      %c = \"stablehlo.add\"(%a, %b) : (tensor<i8>, tensor<i8>) -> tensor<i8>\n      \"stablehlo.return\"(%c) : (tensor<i8>) -> ()\n  }) : (tensor<4xi8>, tensor<i8>) -> tensor<i8>\n  \"func.return\"(%r) : (tensor<i8>) -> ()\n}\n"

-- two results, and more operands than a part holds; it breaks off after the return's name
unfoldable broken : List ℕ
broken = ascii "func.func @m() -> tensor<i8> { %a, %b = \"x.y\"() : () -> (tensor<i8>, tensor<i8>) \"x.z\"(%a, %a, %a, %a, %a, %a, %a, %a, %b) : () -> () \"func.return\""

abbrev same : List ℕ → List ℕ → Bool
same [] [] = true
same [] (y ∷ ys) = false
same (x ∷ xs) [] = false
same (x ∷ xs) (y ∷ ys) = both (eqb x y) (same xs ys)

abbrev same_parts : List (List ℕ) → List (List ℕ) → Bool
same_parts [] [] = true
same_parts [] (y ∷ ys) = false
same_parts (x ∷ xs) [] = false
same_parts (x ∷ xs) (y ∷ ys) = both (same x y) (same_parts xs ys)

record Case : Type 0 where
  found : List (List ℕ)
  expected : List (List ℕ)

abbrev case : List (List ℕ) → List (List ℕ) → Case
case f e = record { found = f; expected = e }

abbrev right : List Case → Bool
right [] = true
right (c ∷ cs) = both (same_parts c.found c.expected) (right cs)

unfoldable cases : List Case
cases =
    -- the header
    case (part_places (program_of sample).header) ([] ∷ [] ∷ [] ∷ [] ∷ [] ∷ [] ∷ [] ∷ (13 ∷ []) ∷ (17 ∷ []) ∷ (34 ∷ []) ∷ (10 ∷ []) ∷ []) ∷
    -- where the ops and the return begin
    case (op_places (program_of sample) ∷ []) ((49 ∷ 130 ∷ 414 ∷ []) ∷ []) ∷
    -- the constant
    case (part_places (op_at sample 49)) ((54 ∷ []) ∷ (49 ∷ []) ∷ [] ∷ [] ∷ (117 ∷ []) ∷ (78 ∷ []) ∷ [] ∷ [] ∷ [] ∷ [] ∷ [] ∷ []) ∷
    -- the reduce: the tokens of its body are left out
    case (part_places (op_at sample 130)) ((135 ∷ []) ∷ (130 ∷ []) ∷ (154 ∷ 158 ∷ []) ∷ (372 ∷ 386 ∷ []) ∷ (401 ∷ []) ∷ (164 ∷ []) ∷ (194 ∷ []) ∷ [] ∷ [] ∷ [] ∷ [] ∷ []) ∷
    -- its body
    case (part_places (body_at sample 194)) ((249 ∷ 320 ∷ []) ∷ (244 ∷ []) ∷ (265 ∷ 269 ∷ 339 ∷ []) ∷ (276 ∷ 288 ∷ 346 ∷ []) ∷ (303 ∷ []) ∷ [] ∷ [] ∷ (205 ∷ 221 ∷ []) ∷ (209 ∷ 225 ∷ []) ∷ [] ∷ (200 ∷ []) ∷ []) ∷
    -- the op of the body, by its place
    case (part_places (op_at sample 244)) ((249 ∷ []) ∷ (244 ∷ []) ∷ (265 ∷ 269 ∷ []) ∷ (276 ∷ 288 ∷ []) ∷ (303 ∷ []) ∷ [] ∷ [] ∷ [] ∷ [] ∷ [] ∷ [] ∷ []) ∷
    -- the return
    case (part_places (op_at sample 414)) ((414 ∷ []) ∷ [] ∷ (428 ∷ []) ∷ (435 ∷ []) ∷ [] ∷ [] ∷ [] ∷ [] ∷ [] ∷ [] ∷ [] ∷ []) ∷
    -- an op begins at the first of its result names; where the text breaks off, what stands before counts
    case (op_places (program_of broken) ∷ []) ((31 ∷ 81 ∷ 134 ∷ []) ∷ []) ∷
    -- nine operands: the count says 9, and the first eight have places
    case (take 3 (op_at broken 81).count ∷ get_or (part_places (op_at broken 81)) 2 [] ∷ []) ((1 ∷ 0 ∷ 9 ∷ []) ∷ (87 ∷ 91 ∷ 95 ∷ 99 ∷ 103 ∷ 107 ∷ 111 ∷ 115 ∷ []) ∷ []) ∷
    []

examples : T (right cases)
unfolding cases sample broken part_of no_parts added_to noted depth_after parts_from parts_of parts_at op_at body_at no_program begun in_header names_op begins_op naming_after outlined program_from program_of readings readings_of readings_from kind_of token_kind mark_kind name_kind word_kind quoted_kind word_is grammar leaf_kinds matches cell step is_letter is_digit is_space is_sigil is_sign in_run run_from run_end starts_with in_comment skip_from skip_end byte_end word_end digits_end size_next shape_end_from shape_end complex_end sign_end integer_end fraction_end scientific_end float_end colon_end parameter_end more_end parameters_end storage_end quantized_end element_end type_close mark_token name_end name_token sign_token quote_token plain_word tensor_token word_token lexeme token_at
examples = tt
