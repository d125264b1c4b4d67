-- 000's QuantizedTensorElementType, by the ends of its productions (TypeText), without white space; the names of its types are any words.
-- Assumes nothing.
use Rattle.std.specs.Prelude.{ℕ, zero, suc, ◌+◌, List, false, length, eqb}
use Rattle.lists.specs.Lists.{pick}
use Rattle.scan.specs.Ascii.{ascii}
use Rattle.scan.specs.Bytes.{byte_at, is_sign, among, run_end}
use Rattle.scan.specs.TypeText.{byte_end, word_end, digits_end}

-- SignPart ::= ['-' | '+']
unfoldable pub sign_end : List ℕ → ℕ → ℕ
sign_end text at = pick (is_sign (byte_at text at)) (at + 1) at

-- IntegerLiteral ::= ['-' | '+'] DecimalDigits
unfoldable pub integer_end : List ℕ → ℕ → ℕ
integer_end text at = digits_end text (sign_end text at)

-- FractionalPart ::= ['.' [DecimalDigits]]
unfoldable pub fraction_end : List ℕ → ℕ → ℕ
fraction_end text at = pick (eqb (byte_at text at) 46) (run_end false text (at + 1)) at

-- ScientificPart ::= [('e' | 'E') ['-' | '+'] DecimalDigits]
unfoldable pub scientific_end : List ℕ → ℕ → ℕ
scientific_end text at = pick (among (ascii "eE") (byte_at text at)) (integer_end text (at + 1)) at

-- FloatLiteral ::= SignPart IntegerPart FractionalPart ScientificPart
unfoldable pub float_end : List ℕ → ℕ → ℕ
float_end text at = scientific_end text (fraction_end text (integer_end text at))

-- [':' IntegerLiteral], the form of [':' QuantizationDimension] and [':' QuantizationZeroPoint]
unfoldable pub colon_end : List ℕ → ℕ → ℕ
colon_end text at = pick (eqb (byte_at text at) 58) (integer_end text (at + 1)) at

-- QuantizationParameter ::= QuantizationScale [':' QuantizationZeroPoint]
unfoldable pub parameter_end : List ℕ → ℕ → ℕ
parameter_end text at = colon_end text (float_end text at)

-- {',' QuantizationParameter}, at most n of them
unfoldable pub more_end : ℕ → List ℕ → ℕ → ℕ
more_end zero text at = at
more_end (suc n) text at = pick (eqb (byte_at text at) 44) (more_end n text (parameter_end text (at + 1))) at

-- QuantizationParameters ::= QuantizationParameter | '{' QuantizationParameter {',' QuantizationParameter} '}'
unfoldable pub parameters_end : List ℕ → ℕ → ℕ
parameters_end text at =
    pick (eqb (byte_at text at) 123) (byte_end 125 text (more_end (length text) text (parameter_end text (at + 1)))) (parameter_end text at)

-- ['<' QuantizationStorageMin ':' QuantizationStorageMax '>']
unfoldable pub storage_end : List ℕ → ℕ → ℕ
storage_end text at =
    pick (eqb (byte_at text at) 60) (byte_end 62 text (integer_end text (byte_end 58 text (integer_end text (at + 1))))) at

-- QuantizationStorageType ['<' .. '>'] ':' QuantizationExpressedType [':' QuantizationDimension] ',' QuantizationParameters '>', after '!quant.uniform<'
unfoldable pub quantized_end : List ℕ → ℕ → ℕ
quantized_end text at =
    byte_end 62 text (parameters_end text (byte_end 44 text (colon_end text (word_end text (byte_end 58 text (storage_end text (word_end text at)))))))
