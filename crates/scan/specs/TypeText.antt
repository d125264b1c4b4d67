-- A tensor type as one token, by 000's productions. Each is known by its end, the place after its last byte. Where a production does not stand here,
-- its end is the end of the text: nothing stands there, so that nothing after it is found, and a tensor type, which ends in '>', is not found.
-- Assumes nothing.
use Rattle.std.specs.Prelude.{ℕ, suc, ◌+◌, List, [], ◌∷◌, true, false, length, drop, ltb, leb, eqb, Some, None}
use Rattle.std.specs.Prelude.{Option}
use Rattle.lists.specs.Lists.{pick}
use Rattle.scan.specs.Bytes.{byte_at, is_letter, is_digit, run_end}
use Rattle.scan.specs.declared.typetext.Dimension.{Dimension}
use Rattle.scan.specs.declared.typetext.Dimension.TheVariants.{Whole, Digits, Unknown}

-- one byte
unfoldable pub byte_end : ℕ → List ℕ → ℕ → ℕ
byte_end b text at = pick (leb (length text) at) (length text) (pick (eqb (byte_at text at) b) (at + 1) (length text))

-- letter {letter | digit}
unfoldable pub word_end : List ℕ → ℕ → ℕ
word_end text at = pick (is_letter (byte_at text at)) (run_end true text at) (length text)

-- digit {digit}
unfoldable pub digits_end : List ℕ → ℕ → ℕ
digits_end text at = pick (is_digit (byte_at text at)) (run_end false text at) (length text)

-- Shape ::= {DimensionSize 'x'}, DimensionSize ::= digit {digit} | '?'. What has been read of a dimension, after one byte more:
-- 0 nothing, or all of it with its 'x'; 1 digits; 2 a '?'; 3 the byte does not go on with it
unfoldable pub size_next : ℕ → ℕ → ℕ
size_next size b =
    pick (is_digit b) (pick (ltb size 2) 1 3)
    (pick (eqb size 0) (pick (eqb b 63) 2 3)
    (pick (eqb b 120) 0 3))

-- the same as the code holds it
abbrev pub size_number : Option Dimension → ℕ
size_number (Some Whole) = 0
size_number (Some Digits) = 1
size_number (Some Unknown) = 2
size_number None = 3

-- the end of the last whole dimension, where end is that of the one before
unfoldable pub shape_end_from : ℕ → ℕ → ℕ → List ℕ → ℕ
shape_end_from end size at [] = end
shape_end_from end size at (b ∷ bs) =
    let next = size_next size b in
    let rest = shape_end_from (pick (eqb next 0) (suc at) end) next (suc at) bs in
    pick (eqb next 3) end rest

unfoldable pub shape_end : List ℕ → ℕ → ℕ
shape_end text at = shape_end_from at 0 at (drop at text)

-- ComplexType ::= 'complex' '<' ComplexElementType '>', after '<'; the element's name is any word
unfoldable pub complex_end : List ℕ → ℕ → ℕ
complex_end text at = byte_end 62 text (word_end text at)
