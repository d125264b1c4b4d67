-- The tokens of a text in byte order, the end last, and their kinds. No grammar.
-- Assumes nothing.
use Rattle.std.specs.Prelude.{ℕ, zero, suc, ◌+◌, List, [], ◌∷◌, map, length, eqb}
use Rattle.lists.specs.Lists.{pick}
use Rattle.text.specs.Lex.{token_at}
use Rattle.text.specs.declared.Token.{Token}
use Rattle.syntax.specs.Kinds.{kind_of}

-- at most n tokens from byte at on, up to the end
unfoldable pub tokens_from : ℕ → List ℕ → ℕ → List Token
tokens_from zero text at = []
tokens_from (suc n) text at =
    let t = token_at text at in
    t ∷ pick (eqb t.kind 0) [] (tokens_from n text t.end)

-- a text has at most one token for each byte, and the end
unfoldable pub tokens : List ℕ → List Token
tokens text = tokens_from (length text + 1) text 0

abbrev pub kinds_of : List ℕ → List Token → List ℕ
kinds_of text ts = map (kind_of text) ts
