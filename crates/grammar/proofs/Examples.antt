-- The open points (OP) that the grammar decides, as one table under one computed statement: how many tokens of a list of kinds the symbols take.
-- A number below the list's length is the place of the first failing token.
-- Assumes nothing.
use mathlib.Core.Bool.{Bool, true}
use mathlib.Core.List.{List, [], ◌∷◌}
use Prim.Native.Nat.{ℕ, suc}
use lib.Dec.{T, eqb}
use Rattle.grammar.specs.Symbols.{ARRAY, ARROW, BODYRETURN, BOOLEAN, COLON, COMMA, DENSE, DIALECT, END, EQUALS, FUNC, FUNCRETURN, FUNCTION, I64, LABEL, LANGLE, LBRACE, LBRACKET, LPAREN, NUMBER, QUOTED, RANGLE, RBRACE, RBRACKET, RPAREN, TOKEN, TUPLE, TYPE, VALUE, WORD, Attributes, AttributesAfter, BodyOps, Dense, Inputs, Middle, MoreAttributes, Op, Ops, Program, ResultTypes, Value, colon, rbrace, rparen, leaf_kinds, matches}
use Rattle.grammar.specs.Grammar.{grammar}
use Rattle.grammar.specs.Machine.{Cell, fails, skips, takes, cell, step}
use Rattle.grammar.proofs.TableTest.{both}

abbrev counted : Cell → (List ℕ → ℕ) → ℕ
counted fails more = 0
counted skips more = 0
counted (takes r rest) more = suc (more rest)

unfoldable taken : List ℕ → List ℕ → ℕ
taken ss [] = 0
taken ss (k ∷ ks) = counted (step ss k) (λ rest. taken rest ks)

record Case : Type 0 where
  symbols : List ℕ
  kinds : List ℕ
  number : ℕ

abbrev case : List ℕ → List ℕ → ℕ → Case
case ss ks n = record { symbols = ss; kinds = ks; number = n }

abbrev right : List Case → Bool
right [] = true
right (c ∷ cs) = both (eqb (taken c.symbols c.kinds) c.number) (right cs)

unfoldable cases : List Case
cases =
    -- OP-13: `func.func @m() {`: a function without `->`
    case (Program ∷ []) (FUNC ∷ FUNCTION ∷ LPAREN ∷ RPAREN ∷ LBRACE ∷ []) 5 ∷
    -- OP-14: `func.func @m() -> (`: 2 at `(`
    case (Program ∷ []) (FUNC ∷ FUNCTION ∷ LPAREN ∷ RPAREN ∷ ARROW ∷ LPAREN ∷ []) 5 ∷
    -- OP-17: an empty text: 2 at its end
    case (Program ∷ []) (END ∷ []) 0 ∷
    -- the least text: `func.func @m() {"func.return"() : () -> ()}`
    case (Program ∷ []) (FUNC ∷ FUNCTION ∷ LPAREN ∷ RPAREN ∷ LBRACE ∷ FUNCRETURN ∷ LPAREN ∷ RPAREN ∷ COLON ∷ LPAREN ∷ RPAREN ∷ ARROW ∷ LPAREN ∷ RPAREN ∷ RBRACE ∷ END ∷ []) 16 ∷
    -- OP-17: a second function: 2 at its first token
    case (Program ∷ []) (FUNC ∷ FUNCTION ∷ LPAREN ∷ RPAREN ∷ LBRACE ∷ FUNCRETURN ∷ LPAREN ∷ RPAREN ∷ COLON ∷ LPAREN ∷ RPAREN ∷ ARROW ∷ LPAREN ∷ RPAREN ∷ RBRACE ∷ FUNC ∷ []) 15 ∷
    -- OP-20: `%a: tensor<i8> {`: 2 at `{`
    case (Inputs ∷ rparen ∷ []) (VALUE ∷ COLON ∷ TYPE ∷ LBRACE ∷ []) 3 ∷
    -- OP-22: `%a: token, %b: tuple`: types of 000
    case (Inputs ∷ []) (VALUE ∷ COLON ∷ TOKEN ∷ COMMA ∷ VALUE ∷ COLON ∷ TUPLE ∷ []) 7 ∷
    -- OP-22: another word where a type stands: 2 at it
    case (ResultTypes ∷ []) (WORD ∷ []) 0 ∷
    -- OP-22: `dense<1> : token`: 2 at the word
    case (Value ∷ []) (DENSE ∷ LANGLE ∷ NUMBER ∷ RANGLE ∷ COLON ∷ TOKEN ∷ []) 5 ∷
    -- OP-22: `token = #stablehlo<tuple token>`: words as names and choices
    case (Attributes ∷ []) (TOKEN ∷ EQUALS ∷ DIALECT ∷ LANGLE ∷ TUPLE ∷ TOKEN ∷ RANGLE ∷ []) 7 ∷
    -- OP-29: `{}`: 2 at `}`
    case (Middle ∷ []) (LBRACE ∷ RBRACE ∷ []) 1 ∷
    -- OP-29: `<{}>`: 2 at `}`
    case (Middle ∷ []) (LANGLE ∷ LBRACE ∷ RBRACE ∷ []) 2 ∷
    -- OP-30: `true` as an attribute's value: 2 at it
    case (Attributes ∷ []) (WORD ∷ EQUALS ∷ BOOLEAN ∷ []) 2 ∷
    -- OP-34: `dense<>`: 2 at `>`
    case (Value ∷ []) (DENSE ∷ LANGLE ∷ RANGLE ∷ []) 2 ∷
    -- OP-35: `dense<1, 2>`: 2 at the comma
    case (Value ∷ []) (DENSE ∷ LANGLE ∷ NUMBER ∷ COMMA ∷ []) 3 ∷
    -- OP-35: `dense<[,]>`: 2 at the comma
    case (Value ∷ []) (DENSE ∷ LANGLE ∷ LBRACKET ∷ COMMA ∷ []) 3 ∷
    -- OP-35: `dense<[1, ]>`: 2 at `]`
    case (Value ∷ []) (DENSE ∷ LANGLE ∷ LBRACKET ∷ NUMBER ∷ COMMA ∷ RBRACKET ∷ []) 5 ∷
    -- OP-36: `dense<[1, [2]]> : tensor<..>`: in the grammar
    case (Value ∷ []) (DENSE ∷ LANGLE ∷ LBRACKET ∷ NUMBER ∷ COMMA ∷ LBRACKET ∷ NUMBER ∷ RBRACKET ∷ RBRACKET ∷ RANGLE ∷ COLON ∷ TYPE ∷ []) 12 ∷
    -- `[[], []]`
    case (Dense ∷ []) (LBRACKET ∷ LBRACKET ∷ RBRACKET ∷ COMMA ∷ LBRACKET ∷ RBRACKET ∷ RBRACKET ∷ []) 7 ∷
    -- `dense<true> : tensor<i1>`
    case (Value ∷ []) (DENSE ∷ LANGLE ∷ BOOLEAN ∷ RANGLE ∷ COLON ∷ TYPE ∷ []) 6 ∷
    -- OP-38: `({^a(): "stablehlo.return"() : () -> ()}, {`: a list of bodies
    case (Middle ∷ []) (LPAREN ∷ LBRACE ∷ LABEL ∷ LPAREN ∷ RPAREN ∷ COLON ∷ BODYRETURN ∷ LPAREN ∷ RPAREN ∷ COLON ∷ LPAREN ∷ RPAREN ∷ ARROW ∷ LPAREN ∷ RPAREN ∷ RBRACE ∷ COMMA ∷ LBRACE ∷ []) 18 ∷
    -- OP-38: `()` in the body's place: 2 at `)`
    case (Middle ∷ []) (LPAREN ∷ RPAREN ∷ []) 1 ∷
    -- OP-40: `({ "stablehlo.return"`: 2 at the name
    case (Middle ∷ []) (LPAREN ∷ LBRACE ∷ BODYRETURN ∷ []) 2 ∷
    -- OP-40: `({ ^bb0:`: 2 at `:`
    case (Middle ∷ []) (LPAREN ∷ LBRACE ∷ LABEL ∷ COLON ∷ []) 3 ∷
    -- OP-41: `%x = "stablehlo.return"` outside a body: 2 at the quoted name
    case (Ops ∷ []) (VALUE ∷ EQUALS ∷ BODYRETURN ∷ []) 2 ∷
    -- OP-41: `"func.return"` in a body: 2 at it
    case (BodyOps ∷ []) (FUNCRETURN ∷ []) 0 ∷
    -- OP-41: `}` before any return: 2 at `}`
    case (Ops ∷ rbrace ∷ []) (RBRACE ∷ []) 0 ∷
    -- OP-41: an op after the return: 2 at its first token
    case (Ops ∷ rbrace ∷ []) (FUNCRETURN ∷ LPAREN ∷ RPAREN ∷ COLON ∷ LPAREN ∷ RPAREN ∷ ARROW ∷ LPAREN ∷ RPAREN ∷ VALUE ∷ []) 9 ∷
    -- OP-42: `%x = "func.return"() : () -> tensor<i8>`: in the grammar
    case (Op ∷ []) (VALUE ∷ EQUALS ∷ FUNCRETURN ∷ LPAREN ∷ RPAREN ∷ COLON ∷ LPAREN ∷ RPAREN ∷ ARROW ∷ TYPE ∷ []) 10 ∷
    -- OP-42: an op without result names: in the grammar
    case (Op ∷ []) (QUOTED ∷ LPAREN ∷ RPAREN ∷ COLON ∷ LPAREN ∷ RPAREN ∷ ARROW ∷ TYPE ∷ []) 8 ∷
    -- OP-42b: `%r:2 =`: 2 at `:`
    case (Ops ∷ []) (VALUE ∷ COLON ∷ []) 1 ∷
    -- OP-42b: `-> t, t`: 2 at the comma
    case (Op ∷ []) (QUOTED ∷ LPAREN ∷ RPAREN ∷ COLON ∷ LPAREN ∷ RPAREN ∷ ARROW ∷ TYPE ∷ COMMA ∷ []) 8 ∷
    -- OP-42b: `{..}` before a body: 2 at the body's `(`
    case (Middle ∷ colon ∷ []) (LBRACE ∷ WORD ∷ EQUALS ∷ NUMBER ∷ COLON ∷ I64 ∷ RBRACE ∷ LPAREN ∷ []) 7 ∷
    -- OP-42b: `<{` after a body: 2 at `<`
    case (AttributesAfter ∷ colon ∷ []) (LANGLE ∷ []) 0 ∷
    -- OP-42b: `<{..}> {`: 2 at the second `{`
    case (Middle ∷ colon ∷ []) (LANGLE ∷ LBRACE ∷ WORD ∷ EQUALS ∷ NUMBER ∷ COLON ∷ I64 ∷ RBRACE ∷ RANGLE ∷ LBRACE ∷ []) 9 ∷
    -- OP-42c: `array<i64:>`: 2 at `>`
    case (Value ∷ []) (ARRAY ∷ LANGLE ∷ I64 ∷ COLON ∷ RANGLE ∷ []) 4 ∷
    -- `array<i64>`: the empty list
    case (Value ∷ []) (ARRAY ∷ LANGLE ∷ I64 ∷ RANGLE ∷ []) 4 ∷
    -- OP-42c: `array<i32: 1>`: 2 at the type word
    case (Value ∷ []) (ARRAY ∷ LANGLE ∷ WORD ∷ []) 2 ∷
    -- OP-42c: `0 : si64`: 2 at the type word
    case (Value ∷ []) (NUMBER ∷ COLON ∷ WORD ∷ []) 2 ∷
    -- OP-42c: `0` without `: i64`: 2 at the next token
    case (Value ∷ MoreAttributes ∷ rbrace ∷ []) (NUMBER ∷ RBRACE ∷ []) 1 ∷
    []

examples : T (right cases)
unfolding cases taken step cell matches leaf_kinds grammar
examples = tt
