-- The definitions on short texts, computed: how they settle what the papers leave open.
-- Assumes nothing.
use mathlib.Core.Path.{◌≡◌, refl}
use mathlib.Core.List.{List, [], ◌∷◌}
use Prim.Native.Nat.{ℕ, zero, suc}
use Prim.Native.String.{String}
use Rattle.scan.specs.Ascii.{ascii}
use Rattle.scan.specs.Bytes.{is_letter, is_digit, is_space, is_sigil, is_sign, in_run, run_from, run_end, starts_with, in_comment, skip_from, skip_end}
use Rattle.scan.specs.TypeText.{byte_end, word_end, digits_end, size_next, shape_end_from, shape_end, complex_end}
use Rattle.scan.specs.Quantized.{sign_end, integer_end, fraction_end, scientific_end, float_end, colon_end, parameter_end, more_end, parameters_end, storage_end, quantized_end}
use Rattle.scan.specs.TensorText.{element_end, type_close}
use Rattle.text.specs.Lex.{tok, mark_token, name_end, name_token, sign_token, quote_token, plain_word, tensor_token, word_token, lexeme, token_at}
use Rattle.text.specs.declared.Token.{Token}

-- the first n tokens of a text, from a place on
tokens_from : ℕ → List ℕ → ℕ → List Token
tokens_from zero text at = []
tokens_from (suc n) text at = let t = token_at text at in t ∷ tokens_from n text t.end

-- a text and its first tokens
record Row : Type 0 where
  text : List ℕ
  tokens : List Token

row : String → List Token → Row
row s ts = record { text = ascii s; tokens = ts }

count : List Token → ℕ
count [] = 0
count (t ∷ ts) = suc (count ts)

read : List Row → List (List Token)
read [] = []
read (r ∷ rs) = tokens_from (count r.tokens) r.text 0 ∷ read rs

stated : List Row → List (List Token)
stated [] = []
stated (r ∷ rs) = r.tokens ∷ stated rs

rows : List Row
rows =
    -- OP-01: a name is digits, or a letter and letters or digits; `@` takes no digits
    row "%0a" (tok 3 0 2 ∷ tok 1 2 3 ∷ []) ∷
    row "^0a" (tok 3 0 2 ∷ tok 1 2 3 ∷ []) ∷
    row "@0 %t1" (tok 64 0 1 ∷ tok 2 1 2 ∷ tok 3 3 6 ∷ []) ∷
    -- OP-02: a word has letters and digits only
    row "mhlo.sharding" (tok 1 0 4 ∷ tok 46 4 5 ∷ tok 1 5 13 ∷ []) ∷
    -- OP-03: `func.func` and `#stablehlo` need no word's end
    row "func.funcx" (tok 4 0 9 ∷ tok 1 9 10 ∷ []) ∷
    row "#stablehlox" (tok 5 0 10 ∷ tok 1 10 11 ∷ []) ∷
    row "func . func" (tok 1 0 4 ∷ tok 46 5 6 ∷ tok 1 7 11 ∷ []) ∷
    -- OP-04: a comment ends at the LF, not at the CR
    row "//a\rb\nc" (tok 1 6 7 ∷ tok 0 7 7 ∷ []) ∷
    -- OP-05: no hexadecimal numbers
    row "0x10" (tok 2 0 1 ∷ tok 1 1 4 ∷ []) ∷
    -- OP-06: signs and leading zeros
    row "+5 007 -0" (tok 2 0 2 ∷ tok 2 3 6 ∷ tok 2 7 9 ∷ []) ∷
    -- OP-07: a sign alone is a mark
    row "- 5+" (tok 45 0 1 ∷ tok 2 2 3 ∷ tok 43 3 4 ∷ []) ∷
    -- OP-09: a quoted name is one token, else the quote is a mark
    row "\"a.b1\"" (tok 6 0 6 ∷ []) ∷
    row "\"a.b.c\"" (tok 34 0 1 ∷ tok 1 1 2 ∷ []) ∷
    row "\"add\"" (tok 34 0 1 ∷ tok 1 1 4 ∷ []) ∷
    row "\"a b\"" (tok 34 0 1 ∷ []) ∷
    row "\"1.b\"" (tok 34 0 1 ∷ []) ∷
    row "\"a.b" (tok 34 0 1 ∷ []) ∷
    -- OP-10: no white space inside a tensor type or an arrow
    row "tensor<4 x i32>" (tok 1 0 6 ∷ tok 60 6 7 ∷ tok 2 7 8 ∷ []) ∷
    row "tensor <4xi32>" (tok 1 0 6 ∷ tok 60 7 8 ∷ []) ∷
    row "- >" (tok 45 0 1 ∷ tok 62 2 3 ∷ []) ∷
    -- OP-11: after the dimensions stands a word
    row "tensor<xi32>" (tok 7 0 12 ∷ []) ∷
    row "tensor<4xx>" (tok 7 0 11 ∷ []) ∷
    row "tensor<i32x4>" (tok 7 0 13 ∷ []) ∷
    row "tensor<4x4>" (tok 1 0 6 ∷ tok 60 6 7 ∷ []) ∷
    row "tensor<4i8>" (tok 1 0 6 ∷ tok 60 6 7 ∷ []) ∷
    row "tensor<>" (tok 1 0 6 ∷ tok 60 6 7 ∷ []) ∷
    row "tensor<-1xi8>" (tok 1 0 6 ∷ tok 60 6 7 ∷ []) ∷
    row "tensor<*xi8>" (tok 1 0 6 ∷ tok 60 6 7 ∷ []) ∷
    row "tensor<4?xi8>" (tok 1 0 6 ∷ tok 60 6 7 ∷ []) ∷
    row "tensor<0x10x?xi8>" (tok 7 0 17 ∷ []) ∷
    -- OP-12: tokens may touch
    row "func.func@m(){->" (tok 4 0 9 ∷ tok 3 9 11 ∷ tok 40 11 12 ∷ tok 41 12 13 ∷ tok 123 13 14 ∷ tok 8 14 16 ∷ []) ∷
    -- OP-21: complex and quantized elements
    row "tensor<complex<f32>>" (tok 7 0 20 ∷ []) ∷
    row "tensor<complex>" (tok 7 0 15 ∷ []) ∷
    row "tensor<complex<>>" (tok 1 0 6 ∷ []) ∷
    row "tensor<2x!quant.uniform<i8<-128:127>:f32:1,{0.1:-30,1.e-3}>>" (tok 7 0 60 ∷ []) ∷
    row "tensor<!quant.uniform<i8:f32,1>>" (tok 7 0 32 ∷ []) ∷
    row "tensor<!quant.uniform<i8:f32>>" (tok 1 0 6 ∷ []) ∷
    -- OP-08: form feed, vertical tab, NUL and bytes above 127 are no white space and no marks
    record { text = 12 ∷ 11 ∷ 0 ∷ 200 ∷ []; tokens = tok 9 0 1 ∷ tok 9 1 2 ∷ tok 9 2 3 ∷ tok 9 3 4 ∷ [] } ∷
    []

texts-read : read rows ≡ stated rows
unfolding read stated rows row count tokens_from is_letter is_digit is_space is_sigil is_sign in_run run_from run_end starts_with in_comment skip_from skip_end byte_end word_end digits_end size_next shape_end_from shape_end complex_end sign_end integer_end fraction_end scientific_end float_end colon_end parameter_end more_end parameters_end storage_end quantized_end element_end type_close mark_token name_end name_token sign_token quote_token plain_word tensor_token word_token lexeme token_at
texts-read = refl
