-- What the theorems say of a text, by the derivations of the grammar. No machine.
-- Assumes nothing.
use Rattle.std.specs.Prelude.{ℕ, ◌≡◌, List, [], ◌∷◌, ◌++◌, length}
use Rattle.text.specs.declared.Token.{Token}
use Rattle.grammar.specs.Symbols.{Program}
use Rattle.grammar.specs.Derivation.{Sentence, Begins, NoneBegins}
use Rattle.syntax.specs.Kinds.{kind_of}
use Rattle.syntax.specs.Tokens.{tokens, kinds_of}

-- the text is a text of the grammar
abbrev pub InGrammar : List ℕ → Type 0
InGrammar text = Sentence (kinds_of text (tokens text))

-- byte a is the first byte of a token at which the grammar fails, the length where that is the end: the tokens before it begin a text of the grammar,
-- and with it none does
pub record FailsAt (text : List ℕ) (a : ℕ) : Type 0 where
  pub before : List Token
  pub failing : Token
  pub after : List Token
  pub whole : tokens text ≡ before ++ (failing ∷ after)
  pub byte : failing.start ≡ a
  pub end : failing.kind ≡ 0 → a ≡ length text
  pub begins : Begins Program (kinds_of text before)
  pub none : NoneBegins Program (kinds_of text before ++ (kind_of text failing ∷ []))
