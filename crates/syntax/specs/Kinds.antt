-- The kind of a token, for the grammar. Names are left open: of a name the kind says its sigil, of a quoted name whether it is one of the two returns.
-- Assumes nothing.
use Rattle.std.specs.Prelude.{ℕ, List, eqb}
use Rattle.lists.specs.Lists.{pick}
use Rattle.scan.specs.Ascii.{ascii}
use Rattle.scan.specs.Bytes.{byte_at}
use Rattle.text.specs.Names.{word_is}
use Rattle.text.specs.declared.Token.{Token}
use Rattle.grammar.specs.Symbols.{END, WORD, NUMBER, VALUE, FUNC, DIALECT, QUOTED, TYPE, ARROW, OTHER, FUNCTION, LABEL, FUNCRETURN, BODYRETURN, ARRAY, DENSE, BOOLEAN, I64, TOKEN, TUPLE, LPAREN, RPAREN, LBRACE, RBRACE, LANGLE, RANGLE, LBRACKET, RBRACKET, COMMA, COLON, EQUALS}

-- a number, `func.func`, `#stablehlo`, a tensor type, `->`, or a mark by its byte
unfoldable pub mark_kind : ℕ → ℕ
mark_kind b =
    pick (eqb b 2) NUMBER
    (pick (eqb b 4) FUNC
    (pick (eqb b 5) DIALECT
    (pick (eqb b 7) TYPE
    (pick (eqb b 8) ARROW
    (pick (eqb b 40) LPAREN
    (pick (eqb b 41) RPAREN
    (pick (eqb b 123) LBRACE
    (pick (eqb b 125) RBRACE
    (pick (eqb b 60) LANGLE
    (pick (eqb b 62) RANGLE
    (pick (eqb b 91) LBRACKET
    (pick (eqb b 93) RBRACKET
    (pick (eqb b 44) COMMA
    (pick (eqb b 58) COLON
    (pick (eqb b 61) EQUALS OTHER)))))))))))))))

-- `%`, `@`, `^`
unfoldable pub name_kind : ℕ → ℕ
name_kind sigil = pick (eqb sigil 37) VALUE (pick (eqb sigil 64) FUNCTION LABEL)

-- the words that the grammar knows
unfoldable pub word_kind : List ℕ → ℕ → ℕ → ℕ
word_kind text start end =
    pick (word_is (ascii "array") text start end) ARRAY
    (pick (word_is (ascii "dense") text start end) DENSE
    (pick (word_is (ascii "true") text start end) BOOLEAN
    (pick (word_is (ascii "false") text start end) BOOLEAN
    (pick (word_is (ascii "i64") text start end) I64
    (pick (word_is (ascii "token") text start end) TOKEN
    (pick (word_is (ascii "tuple") text start end) TUPLE WORD))))))

unfoldable pub quoted_kind : List ℕ → ℕ → ℕ → ℕ
quoted_kind text start end =
    pick (word_is (ascii "\"func.return\"") text start end) FUNCRETURN
    (pick (word_is (ascii "\"stablehlo.return\"") text start end) BODYRETURN QUOTED)

-- a token before the end: a word, a name with its sigil, a quoted name, or another
unfoldable pub token_kind : List ℕ → Token → ℕ
token_kind text t =
    pick (eqb t.kind 1) (word_kind text t.start t.end)
    (pick (eqb t.kind 3) (name_kind (byte_at text t.start))
    (pick (eqb t.kind 6) (quoted_kind text t.start t.end) (mark_kind t.kind)))

unfoldable pub kind_of : List ℕ → Token → ℕ
kind_of text t = pick (eqb t.kind 0) END (token_kind text t)
