-- Dense values read from short texts, computed: how the definitions settle what the papers leave open.
-- Assumes nothing.
use mathlib.Core.Path.{◌≡◌, refl}
use mathlib.Core.Bool.{Bool, true, false}
use mathlib.Core.List.{List, [], ◌∷◌, map}
use Prim.Native.Nat.{ℕ}
use Prim.Native.String.{String}
use lib.IntN.{pos, neg_ℤ}
use Rattle.scan.specs.Ascii.{ascii}
use Rattle.scan.specs.Bytes.{is_letter, is_digit, is_space, is_sigil, is_sign, in_run, run_from, run_end, starts_with, in_comment, skip_from, skip_end}
use Rattle.scan.specs.Quantized.{sign_end}
use Rattle.text.specs.Lex.{mark_token, sign_token, plain_word, word_token, lexeme, token_at}
use Rattle.text.specs.Names.{word_is}
use Rattle.element.specs.Types.{slot_for}
use Rattle.element.specs.declared.ElementType.{ElementType}
use Rattle.element.specs.declared.ElementType.TheVariants.{I1, I8, I32, U8}
use Rattle.types.specs.Numbers.{digits_from, magnitude_of, decimal_number, in_type, number_in}
use Rattle.dense.specs.Dense.{boolean_of, literal_of, read_then, mark_at, comma_before, one_at, items_at, dense_at, same_literal, dense_value}

record Case : Type 0 where
  element : ElementType
  dims : List ℕ
  text : String

abbrev value : ElementType → List ℕ → String → Case
value e ds s = record { element = e; dims = ds; text = s }

abbrev elements_of : Case → List ℕ
elements_of c = (dense_value c.element c.dims (ascii c.text) 0).elements

abbrev fits : Case → Bool
fits c = (dense_value c.element c.dims (ascii c.text) 0).ok

-- lists, one literal for every element, the ends of i8, booleans, white space between tokens
read : map elements_of
    (value I32 (2 ∷ 2 ∷ []) "[[1, 2], [3, 0]]>" ∷
    value U8 (3 ∷ []) " 255>" ∷
    value I8 (2 ∷ []) "[-128,127]>" ∷
    value I1 (1 ∷ 2 ∷ []) "[[true, // the second\n false]]>" ∷
    value I32 [] "+7>" ∷ [])
    ≡ (1 ∷ 2 ∷ 3 ∷ 0 ∷ []) ∷
    (255 ∷ 255 ∷ 255 ∷ []) ∷
    (slot_for I8 (neg_ℤ (pos 128)) ∷ 127 ∷ []) ∷
    (1 ∷ 0 ∷ []) ∷
    (7 ∷ []) ∷ []
unfolding is_letter is_digit is_space is_sigil is_sign in_run run_from run_end starts_with in_comment skip_from skip_end sign_end mark_token sign_token plain_word word_token lexeme token_at word_is digits_from magnitude_of decimal_number in_type number_in boolean_of literal_of read_then mark_at comma_before one_at items_at dense_at same_literal dense_value slot_for
read = refl

-- "(`[[], []]` for 2x0, `[]` for 0x2)", one literal where there is no element
allowed : map fits
    (value I8 (2 ∷ 0 ∷ []) "[[], []]>" ∷
    value I8 (0 ∷ 2 ∷ []) "[]>" ∷
    value I8 (0 ∷ []) "5>" ∷ [])
    ≡ true ∷ true ∷ true ∷ []
unfolding is_letter is_digit is_space is_sigil is_sign in_run run_from run_end starts_with in_comment skip_from skip_end sign_end mark_token sign_token plain_word word_token lexeme token_at word_is digits_from magnitude_of decimal_number in_type number_in boolean_of literal_of read_then mark_at comma_before one_at items_at dense_at same_literal dense_value
allowed = refl

-- other sizes: the empty lists the other way round, one item too many or too few, a list for an element, a bracket for rank 0;
-- other kinds: a number for a boolean, a boolean for a number; other ranges: a number never wraps, also where there is no element
refused : map fits
    (value I8 (2 ∷ 0 ∷ []) "[]>" ∷
    value I8 (0 ∷ 2 ∷ []) "[[], []]>" ∷
    value I8 (2 ∷ []) "[1, 2, 3]>" ∷
    value I8 (2 ∷ []) "[1]>" ∷
    value I8 (2 ∷ []) "[1, [2]]>" ∷
    value I8 [] "[1]>" ∷
    value I1 [] "1>" ∷
    value I8 [] "true>" ∷
    value I8 [] "255>" ∷
    value U8 [] "-1>" ∷
    value I8 (0 ∷ []) "300>" ∷
    value I8 (0 ∷ []) "true>" ∷ [])
    ≡ false ∷ false ∷ false ∷ false ∷ false ∷ false ∷ false ∷ false ∷ false ∷ false ∷ false ∷ false ∷ []
unfolding is_letter is_digit is_space is_sigil is_sign in_run run_from run_end starts_with in_comment skip_from skip_end sign_end mark_token sign_token plain_word word_token lexeme token_at word_is digits_from magnitude_of decimal_number in_type number_in boolean_of literal_of read_then mark_at comma_before one_at items_at dense_at same_literal dense_value
refused = refl
