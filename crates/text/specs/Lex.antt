-- Tokens of the text (01, The text: "Tokens, as long as they can be, are ..").
-- Assumes nothing.
use Rattle.std.specs.Prelude.{ℕ, ◌+◌, List, Bool, true, false, ◌&&◌, length, drop, leb, eqb}
use Rattle.lists.specs.Lists.{pick}
use Rattle.scan.specs.Ascii.{ascii}
use Rattle.scan.specs.Bytes.{byte_at, between, is_letter, is_digit, is_sigil, is_sign, run_end, starts_with, skip_end}
use Rattle.scan.specs.TypeText.{word_end}
use Rattle.scan.specs.TensorText.{type_close}
use Rattle.text.specs.declared.Token.{Token}

-- a token's kind, its first byte and the place after its last. Kinds: 0 the end of the text, 1 word, 2 number with its sign, 3 name with its sigil,
-- 4 `func.func`, 5 `#stablehlo`, 6 `"word.word"`, 7 tensor type, 8 `->`, 9 a byte that is no mark; the kind of a mark is the mark's own byte
abbrev pub tok : ℕ → ℕ → ℕ → Token
tok k s e = record { kind = k; start = s; end = e }

-- "a single mark": any visible ASCII character
unfoldable pub mark_token : List ℕ → ℕ → Token
mark_token text at = pick (between 33 126 (byte_at text at)) (tok (byte_at text at) at (at + 1)) (tok 9 at (at + 1))

-- where the name ends whose sigil is before at: letter {letter | digit}, or, except after '@', digit {digit}
unfoldable pub name_end : ℕ → List ℕ → ℕ → ℕ
name_end sigil text at =
    pick (is_letter (byte_at text at)) (run_end true text at)
    (pick (eqb sigil 64) at (run_end false text at))

-- "a name with its sigil"
unfoldable pub name_token : List ℕ → ℕ → Token
name_token text at =
    let end = name_end (byte_at text at) text (at + 1) in
    pick (eqb end (at + 1)) (mark_token text at) (tok 3 at end)

-- at a sign: "a number with its sign", `->`, or a mark
unfoldable pub sign_token : List ℕ → ℕ → Token
sign_token text at =
    pick (is_digit (byte_at text (at + 1))) (tok 2 at (run_end false text (at + 1)))
    (pick (starts_with (ascii "->") (drop at text)) (tok 8 at (at + 2)) (mark_token text at))

-- at a double quote: `"word.word"`, or a mark; dot and close are the ends of the two words
unfoldable pub quote_token : List ℕ → ℕ → Token
quote_token text at =
    let dot = word_end text (at + 1) in
    let close = word_end text (dot + 1) in
    pick (eqb (byte_at text dot) 46 && eqb (byte_at text close) 34) (tok 6 at (close + 1)) (mark_token text at)

-- "a word"
unfoldable pub plain_word : List ℕ → ℕ → Token
plain_word text at = tok 1 at (run_end true text at)

-- at `tensor<`: "a tensor type", or the word `tensor`
unfoldable pub tensor_token : List ℕ → ℕ → Token
tensor_token text at =
    let close = type_close text (at + 7) in
    pick (eqb (byte_at text close) 62) (tok 7 at (close + 1)) (plain_word text at)

abbrev pub tensor_by : Bool → List ℕ → ℕ → Token
tensor_by true text at = tensor_token text at
tensor_by false text at = plain_word text at

-- at a letter: `func.func`, "a tensor type", or "a word"
unfoldable pub word_token : List ℕ → ℕ → Token
word_token text at =
    pick (starts_with (ascii "func.func") (drop at text)) (tok 4 at (at + 9))
    (tensor_by (starts_with (ascii "tensor<") (drop at text)) text at)

-- the token whose first byte is at
unfoldable pub lexeme : List ℕ → ℕ → Token
lexeme text at =
    let b = byte_at text at in
    pick (leb (length text) at) (tok 0 at at)
    (pick (is_letter b) (word_token text at)
    (pick (is_digit b) (tok 2 at (run_end false text at))
    (pick (is_sigil b) (name_token text at)
    (pick (is_sign b) (sign_token text at)
    (pick (eqb b 34) (quote_token text at)
    (pick (starts_with (ascii "#stablehlo") (drop at text)) (tok 5 at (at + 10)) (mark_token text at)))))))

-- the first token at or after a place; white space may stand before it
unfoldable pub token_at : List ℕ → ℕ → Token
token_at text at = lexeme text (skip_end text at)
