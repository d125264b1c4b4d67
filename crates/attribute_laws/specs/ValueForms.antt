-- The four forms of an attribute's value. 01, "The text": "Number lists are `array<i64: ..>` (empty: `array<i64>`), single numbers `0 : i64`, choices
-- `#stablehlo<comparison_direction LT>`, constants `dense<..> : type`". The tokens are counted from the one that starts at or after a byte, 0 being `=`.
-- Assumes nothing.
use Rattle.std.specs.Prelude.{ℕ, ◌≡◌, true, List, [], ◌∷◌, length}
use Rattle.text.specs.Lex.{token_at}
use Rattle.grammar.specs.Symbols.{NUMBER, ARRAY, DENSE, DIALECT, RANGLE, COMMA, COLON, among_symbols}
use Rattle.syntax.specs.Kinds.{kind_of}
use Rattle.attribute.specs.Attribute.{token_after, close_from}
use Rattle.source.specs.Source.{AttributeText}

-- an attribute without its name, by its form
abbrev pub single_text : ℕ → AttributeText
single_text number = record { names = []; single = number ∷ []; listed = []; kinds = []; choices = []; literals = []; types = [] }

abbrev pub listed_text : List ℕ → AttributeText
listed_text numbers = record { names = []; single = []; listed = numbers; kinds = []; choices = []; literals = []; types = [] }

abbrev pub dense_text : List ℕ → ℕ → AttributeText
dense_text literals type = record { names = []; single = []; listed = []; kinds = []; choices = []; literals = literals; types = type ∷ [] }

abbrev pub choice_text : ℕ → ℕ → AttributeText
choice_text kind choice = record { names = []; single = []; listed = []; kinds = kind ∷ []; choices = choice ∷ []; literals = []; types = [] }

-- from a byte on `>`, or `:` or `,`, a number, and so on: where the numbers start
pub data Marked (text : List ℕ) : ℕ → List ℕ → Type 0 where
  closed : {at : ℕ} → kind_of text (token_at text at) ≡ RANGLE → Marked text at []
  number : {at : ℕ} {starts : List ℕ} → among_symbols (COLON ∷ COMMA ∷ []) (kind_of text (token_at text at)) ≡ true → Marked text (token_at text (token_at text at).end).end starts →
      Marked text at ((token_at text (token_at text at).end).start ∷ starts)

-- where the type of a dense value starts
abbrev pub dense_type_at : List ℕ → ℕ → ℕ
dense_type_at text literal = (token_after 1 text (close_from (length text) text literal)).start

-- `= value` from a byte on
pub data ValueForm (text : List ℕ) (at : ℕ) : AttributeText → Type 0 where
  number : kind_of text (token_after 1 text at) ≡ NUMBER → ValueForm text at (single_text (token_after 1 text at).start)
  list : {starts : List ℕ} → kind_of text (token_after 1 text at) ≡ ARRAY → Marked text (token_after 3 text at).end starts → ValueForm text at (listed_text starts)
  dense : {literals : List ℕ} → kind_of text (token_after 1 text at) ≡ DENSE →
      ValueForm text at (dense_text ((token_after 3 text at).start ∷ literals) (dense_type_at text (token_after 3 text at).start))
  choice : kind_of text (token_after 1 text at) ≡ DIALECT → ValueForm text at (choice_text (token_after 3 text at).start (token_after 4 text at).start)

-- `name = value`, the name at a byte
pub record FormedAttribute (text : List ℕ) (name : ℕ) (a : AttributeText) : Type 0 where
  pub value : AttributeText
  pub form : ValueForm text (token_at text name).end value
  pub whole : a ≡
      record { names = name ∷ []; single = value.single; listed = value.listed; kinds = value.kinds; choices = value.choices; literals = value.literals; types = value.types }
