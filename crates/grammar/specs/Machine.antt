-- The machine that runs the grammar: it holds the symbols that are still expected, the next one first.
-- One token is one step; there is no recursion that follows the text's nesting.
-- Assumes nothing.
use Rattle.std.specs.Prelude.{ℕ, List, [], ◌∷◌, ◌++◌, ltb, eqb}
use Rattle.lists.specs.Lists.{pick}
use Rattle.grammar.specs.Symbols.{kind_count, leaf_count, symbol_count, matches}
use Rattle.grammar.specs.Grammar.{Production, grammar}

-- what an expected symbol makes of a token's kind: it fails, it derives nothing here, or the token is its first leaf, and this is what is left of it
pub data Cell : Type 0 where
  fails : Cell
  skips : Cell
  takes : ℕ → List ℕ → Cell

-- an alternative, or else the others
abbrev pub or_else : List ℕ → ℕ → Cell → Cell
or_else [] kind others = skips
or_else (leaf ∷ rest) kind others = pick (matches leaf kind) (takes leaf rest) others

-- the alternatives of a symbol
abbrev pub choose : List Production → ℕ → ℕ → Cell
choose [] s kind = fails
choose (p ∷ ps) s kind = pick (eqb p.left s) (or_else p.right kind (choose ps s kind)) (choose ps s kind)

-- a leaf takes a kind that it allows; another symbol goes by its alternatives; a number that is no symbol or no kind fails
unfoldable pub cell : ℕ → ℕ → Cell
cell s kind =
    pick (ltb s symbol_count)
    (pick (ltb kind kind_count)
    (pick (ltb s leaf_count) (pick (matches s kind) (takes s []) fails) (choose grammar s kind))
    fails) fails

-- the token by the first expected symbol; where that derives nothing here, by those after it
abbrev pub on_cell : Cell → List ℕ → Cell → Cell
on_cell fails rest more = fails
on_cell skips rest more = more
on_cell (takes leaf tail) rest more = takes leaf (tail ++ rest)

-- what the expected symbols make of a token: it fails, or takes a role, and this is then expected
unfoldable pub step : List ℕ → ℕ → Cell
step [] kind = fails
step (s ∷ expected) kind = on_cell (cell s kind) expected (step expected kind)
