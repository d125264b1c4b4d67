-- A tensor type's shape and element (000, Types).
-- Assumes nothing.
use Rattle.std.specs.Prelude.{ℕ, ◌+◌, List, Bool, true, false, drop}
use Rattle.scan.specs.Ascii.{ascii}
use Rattle.scan.specs.Bytes.{starts_with}
use Rattle.scan.specs.TypeText.{word_end, shape_end, complex_end}
use Rattle.scan.specs.Quantized.{quantized_end}

-- the end of a tensor type's element: a word, or a complex or quantized type of 000, which are told by how they open
abbrev pub element_by : Bool → Bool → List ℕ → ℕ → ℕ
element_by true quantized text at = complex_end text (at + 8)
element_by false true text at = quantized_end text (at + 15)
element_by false false text at = word_end text at

unfoldable pub element_end : List ℕ → ℕ → ℕ
element_end text at = element_by (starts_with (ascii "complex<") (drop at text)) (starts_with (ascii "!quant.uniform<") (drop at text)) text at

-- TensorType ::= 'tensor' '<' Shape TensorElementType '>': the place of its '>', after `tensor<`
unfoldable pub type_close : List ℕ → ℕ → ℕ
type_close text at = element_end text (shape_end text at)
