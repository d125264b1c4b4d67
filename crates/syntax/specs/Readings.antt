-- A text as the list of its readings: each token with its role in the grammar, up to the first token that the grammar does not take.
-- Assumes nothing.
use Rattle.std.specs.Prelude.{ℕ, zero, suc, ◌+◌, List, [], ◌∷◌, Bool, true, false, length}
use Rattle.lists.specs.Lists.{pick}
use Rattle.text.specs.Lex.{token_at}
use Rattle.text.specs.declared.Token.{Token}
use Rattle.grammar.specs.Symbols.{Program}
use Rattle.grammar.specs.Machine.{Cell, fails, skips, takes, step}
use Rattle.syntax.specs.Kinds.{kind_of}

-- a token, whether the grammar takes it, and its role (0 where it does not)
pub record Reading : Type 0 where
  pub fits : Bool
  pub role : ℕ
  pub token : Token

abbrev pub reading : Bool → ℕ → Token → Reading
reading f r t = record { fits = f; role = r; token = t }

-- a token by what the expected symbols make of it, and what is read after it
abbrev pub labelled : Token → Cell → (List ℕ → List Reading) → List Reading
labelled t fails more = reading false 0 t ∷ []
labelled t skips more = reading false 0 t ∷ []
labelled t (takes r rest) more = reading true r t ∷ more rest

-- at most n tokens from byte at on, until nothing is expected any more
unfoldable pub readings_from : ℕ → List ℕ → List ℕ → ℕ → List Reading
readings_from zero expected text at = []
readings_from (suc n) [] text at = []
readings_from (suc n) (s ∷ expected) text at =
    let t = token_at text at in
    labelled t (step (s ∷ expected) (kind_of text t)) (λ rest. readings_from n rest text t.end)

-- what the symbol derives, read from byte at on; a text has at most one token for each byte, and the end
unfoldable pub readings_of : ℕ → List ℕ → ℕ → List Reading
readings_of s text at = readings_from (length text + 1) (s ∷ []) text at

-- the whole text
unfoldable pub readings : List ℕ → List Reading
readings text = readings_of Program text 0

-- where the grammar fails: nowhere, or at the token that starts at a byte
pub data Fault : Type 0 where
  no_fault : Fault
  fault_at : ℕ → Fault

-- "start of the first token at which the grammar, names left open, fails; the length at the end"
unfoldable pub fault_in : List Reading → Fault
fault_in [] = no_fault
fault_in (x ∷ xs) = pick x.fits (fault_in xs) (fault_at x.token.start)

-- that of a text of any length
unfoldable pub grammar_fault : List ℕ → Fault
grammar_fault text = fault_in (readings text)

-- 01's numbers of it, where the text is not too long and has no refusal before it: `0 0 0`, or `2 A 0`
abbrev pub fault_numbers : Fault → ℕ × ℕ × ℕ
fault_numbers no_fault = (0, 0, 0)
fault_numbers (fault_at a) = (2, a, 0)
