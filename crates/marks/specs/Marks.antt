-- What is read of a text as it is handed on: for each byte the role of the token that begins there, 0 where none does.
-- Assumes nothing.
use Rattle.std.specs.Prelude.{ℕ, suc, ◌-◌, ◌≤◌, ◌≡◌, List, [], ◌∷◌, map, eqb, ltb, length, take, drop}
use Rattle.lists.specs.Lists.{pick}
use Rattle.syntax.specs.Readings.{Reading, readings, no_fault, grammar_fault}

-- a token's role and its first byte
pub record Mark : Type 0 where
  pub role : ℕ
  pub at : ℕ

abbrev pub mark_of : Reading → Mark
mark_of x = record { role = x.role; at = x.token.start }

-- the tokens that a list of roles marks, its first role standing at byte b
unfoldable pub marked : ℕ → List ℕ → List Mark
marked b [] = []
marked b (r ∷ rs) = let more = marked (suc b) rs in pick (eqb r 0) more (record { role = r; at = b } ∷ more)

-- those that begin from one byte on before another
abbrev pub marked_in : List ℕ → ℕ → ℕ → List Mark
marked_in roles from to = marked from (take (to - from) (drop from roles))

-- the tokens that begin before the end of the text
unfoldable pub before_end : ℕ → List Reading → List Reading
before_end n [] = []
before_end n (x ∷ xs) = let more = before_end n xs in pick (ltb x.token.start n) (x ∷ more) more

-- the roles of a text of the grammar: one for each of its bytes, of every token that begins before its end
pub record Marks (text roles : List ℕ) : Type 0 where
  pub short : length text ≤ 65536
  pub sound : grammar_fault text ≡ no_fault
  pub size : length roles ≡ length text
  pub all : marked 0 roles ≡ map mark_of (before_end (length text) (readings text))
