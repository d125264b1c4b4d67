-- The first token of short texts: each kind at its end, "as long as they can be", and white space before it (01, "The text").
-- Assumes nothing.
use Rattle.std.specs.Prelude.{◌≡◌, List, [], ◌∷◌, map, ℕ}
use Prim.Native.String.{String}
use Rattle.scan.specs.Ascii.{ascii}
use Rattle.text.specs.Lex.{tok, token_at}
use Rattle.text.specs.declared.Token.{Token}

-- a text and its first token
pub record FirstToken : Type 0 where
  pub text : List ℕ
  pub token : Token

-- its kind, its first byte and the place after its last
abbrev first : String → ℕ → ℕ → ℕ → FirstToken
first text kind start end = record { text = ascii text; token = tok kind start end }

-- the kinds of tokens; the kind of a mark is its own byte
abbrev end_kind : ℕ
end_kind = 0

abbrev word_token_kind : ℕ
word_token_kind = 1

abbrev number_kind : ℕ
number_kind = 2

abbrev name_token_kind : ℕ
name_token_kind = 3

abbrev function_kind : ℕ
function_kind = 4

abbrev dialect_kind : ℕ
dialect_kind = 5

abbrev quoted_token_kind : ℕ
quoted_token_kind = 6

abbrev tensor_kind : ℕ
tensor_kind = 7

abbrev arrow_kind : ℕ
arrow_kind = 8

abbrev other_kind : ℕ
other_kind = 9

abbrev pub first_tokens : List FirstToken
first_tokens =
    -- the end of the text
    first "" end_kind 0 0
    ∷ first "  \n" end_kind 3 3
    -- "a word": letter {letter | digit}
    ∷ first "abc(" word_token_kind 0 3
    ∷ first "a1_b c" word_token_kind 0 4
    ∷ first "_x-" word_token_kind 0 2
    ∷ first "A.b" word_token_kind 0 1
    ∷ first "x<" word_token_kind 0 1
    -- "a number with its sign"
    ∷ first "42x" number_kind 0 2
    ∷ first "-5-" number_kind 0 2
    ∷ first "+5 " number_kind 0 2
    ∷ first "007" number_kind 0 3
    ∷ first "1.5" number_kind 0 1
    -- a sign without a digit is a mark
    ∷ first "-x" 45 0 1
    ∷ first "- 5" 45 0 1
    ∷ first "+" 43 0 1
    ∷ first "--5" 45 0 1
    -- `->`
    ∷ first "->" arrow_kind 0 2
    ∷ first "->5" arrow_kind 0 2
    ∷ first "- >" 45 0 1
    ∷ first "+>" 43 0 1
    -- "a name with its sigil"; 000: a value is numbered or named, a function is named
    ∷ first "%a0," name_token_kind 0 3
    ∷ first "%0a" name_token_kind 0 2
    ∷ first "%12:" name_token_kind 0 3
    ∷ first "%_" name_token_kind 0 2
    ∷ first "@main(" name_token_kind 0 5
    ∷ first "@1" 64 0 1
    ∷ first "@m1" name_token_kind 0 3
    ∷ first "^bb0(" name_token_kind 0 4
    ∷ first "^0:" name_token_kind 0 2
    ∷ first "%" 37 0 1
    ∷ first "% a" 37 0 1
    ∷ first "%-1" 37 0 1
    -- `func.func`, `#stablehlo`
    ∷ first "func.func" function_kind 0 9
    ∷ first "func.func1" function_kind 0 9
    ∷ first "func.fun" word_token_kind 0 4
    ∷ first "funcs.func" word_token_kind 0 5
    ∷ first "func .func" word_token_kind 0 4
    ∷ first "#stablehlo<" dialect_kind 0 10
    ∷ first "#stablehlo1" dialect_kind 0 10
    ∷ first "#stable" 35 0 1
    ∷ first "stablehlo" word_token_kind 0 9
    -- `"word.word"`
    ∷ first "\"a.b\"" quoted_token_kind 0 5
    ∷ first "\"a1._b2\"(" quoted_token_kind 0 8
    ∷ first "\"a.b" 34 0 1
    ∷ first "\"a\"" 34 0 1
    ∷ first "\"a.b.c\"" 34 0 1
    ∷ first "\"1.b\"" 34 0 1
    ∷ first "\"a .b\"" 34 0 1
    ∷ first "\".b\"" 34 0 1
    ∷ first "\"a.\"" 34 0 1
    -- "a tensor type"
    ∷ first "tensor<2x3xi8>" tensor_kind 0 14
    ∷ first "tensor<i8>>" tensor_kind 0 10
    ∷ first "tensor<?x2xui16>" tensor_kind 0 16
    ∷ first "tensor<0xf32>" tensor_kind 0 13
    ∷ first "tensor" word_token_kind 0 6
    ∷ first "tensor<2xi8" word_token_kind 0 6
    ∷ first "tensors<i8>" word_token_kind 0 7
    ∷ first "tensor<2x>" word_token_kind 0 6
    ∷ first "tensor< i8>" word_token_kind 0 6
    ∷ first "tensor<12x?x3xi8>" tensor_kind 0 17
    ∷ first "tensor<?2xi8>" word_token_kind 0 6
    ∷ first "tensor<2?xi8>" word_token_kind 0 6
    ∷ first "tensor<2x3>" word_token_kind 0 6
    ∷ first "tensor<2 xi8>" word_token_kind 0 6
    -- 000, Types: complex and quantized elements are well formed, so that refusal 3 names them
    ∷ first "tensor<2xcomplex<f32>>" tensor_kind 0 22
    ∷ first "tensor<complex<f32>" word_token_kind 0 6
    ∷ first "tensor<complex<2>>" word_token_kind 0 6
    ∷ first "tensor<!quant.uniform<i8:f32,1E+5>>" tensor_kind 0 35
    ∷ first "tensor<!quant.uniform<i8:f32,1e5>>" tensor_kind 0 34
    ∷ first "tensor<!quant.uniform<i8:f32,-0.5:7>>" tensor_kind 0 37
    ∷ first "tensor<!quant.uniform<i8:f32,+2.:-1>>" tensor_kind 0 37
    ∷ first "tensor<!quant.uniform<i8<0:10>:f32,2.0>>" tensor_kind 0 40
    ∷ first "tensor<!quant.uniform<i8<-8:+7>:f32:1,2.0>>" tensor_kind 0 43
    ∷ first "tensor<!quant.uniform<i8:f32:0,{1.0,2.0:3}>>" tensor_kind 0 44
    ∷ first "tensor<!quant.uniform<i8:f32,{1}>>" tensor_kind 0 34
    ∷ first "tensor<!quant.uniform<i8<0>:f32,2.0>>" word_token_kind 0 6
    ∷ first "tensor<!quant.uniform<i8<0:10:f32,2.0>>" word_token_kind 0 6
    ∷ first "tensor<!quant.uniform<i8:f32>>" word_token_kind 0 6
    ∷ first "tensor<!quant.uniform<i8:f32,>>" word_token_kind 0 6
    ∷ first "tensor<!quant.uniform<i8:f32,{}>>" word_token_kind 0 6
    ∷ first "tensor<!quant.uniform<i8:f32,{1,}>>" word_token_kind 0 6
    ∷ first "tensor<!quant.uniform<i8:f32,1,2>>" word_token_kind 0 6
    ∷ first "tensor<!quant.uniform<i8:f32,e5>>" word_token_kind 0 6
    ∷ first "tensor<!quant.uniform<i8:f32,1e>>" word_token_kind 0 6
    ∷ first "tensor<!quant.uniform<i8:f32,.5>>" word_token_kind 0 6
    ∷ first "tensor<!quant.uniform<i8:f32:x,1>>" word_token_kind 0 6
    ∷ first "tensor<!quant.uniform<8:f32,1>>" word_token_kind 0 6
    ∷ first "tensor<!quant.uniform<i8,1>>" word_token_kind 0 6
    -- "a single mark"
    ∷ first "(" 40 0 1
    ∷ first "}" 125 0 1
    ∷ first "!quant" 33 0 1
    ∷ first "~" 126 0 1
    ∷ first "/" 47 0 1
    ∷ first "::" 58 0 1
    -- "White space is space, tab, CR, LF, and `//` to the line's end"
    ∷ first " \t\r\n a" word_token_kind 5 6
    ∷ first "//c\na" word_token_kind 4 5
    ∷ first "//c" end_kind 3 3
    ∷ first "// a // b\n//\n\n x" word_token_kind 15 16
    ∷ first "//\r a\nb" word_token_kind 6 7
    ∷ first "/ /\n" 47 0 1
    ∷ first "/a" 47 0 1
    ∷ first "///\n%a" name_token_kind 4 6
    -- tokens are bytes of visible ASCII: DEL, NUL, form feed, a byte above 127
    ∷ record { text = 127 ∷ []; token = tok other_kind 0 1 }
    ∷ record { text = 32 ∷ 0 ∷ []; token = tok other_kind 1 2 }
    ∷ record { text = 12 ∷ 97 ∷ []; token = tok other_kind 0 1 }
    ∷ record { text = 195 ∷ 164 ∷ []; token = tok other_kind 0 1 }
    ∷ []

abbrev pub TokenPinsHold : Type 0
TokenPinsHold = map (λ (f : FirstToken). token_at f.text 0) first_tokens ≡ map (λ (f : FirstToken). f.token) first_tokens
