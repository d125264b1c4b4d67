-- The grammar as the code's tables hold it: a cell is one letter.
-- Assumes nothing.
use Rattle.std.specs.Prelude.{ℕ, ◌-◌, ◌<◌, ◌≤◌, List, [], ◌∷◌, get_or, leb, eqb}
use Rattle.lists.specs.Lists.{pick}
use Rattle.grammar.specs.Grammar.{◌⟶◌, grammar}
use Rattle.grammar.specs.Machine.{Cell, fails, skips, takes}

-- the right side of the production that a letter names: the letter is 48 more than its number
unfoldable pub right_of : ℕ → List ℕ
right_of letter = (get_or grammar (letter - 48) (0 ⟶ [])).right

-- the letters of the 74 productions
abbrev pub IsRule : ℕ → Type 0
IsRule letter = (48 ≤ letter) × (letter < 122)

abbrev pub head_of : List ℕ → ℕ
head_of [] = 0
head_of (x ∷ xs) = x

abbrev pub tail_of : List ℕ → List ℕ
tail_of [] = []
tail_of (x ∷ xs) = xs

-- the cell of a symbol by its letter: a production, `+` (43) the leaf itself, `-` (45) derives nothing, `.` (46) fails
unfoldable pub lettered : ℕ → ℕ → Cell
lettered s letter =
    pick (leb 48 letter) (takes (head_of (right_of letter)) (tail_of (right_of letter)))
    (pick (eqb letter 43) (takes s [])
    (pick (eqb letter 45) skips fails))
