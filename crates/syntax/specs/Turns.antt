-- What one turn of a reader's loop does: it reads a token, and the machine takes one step.
-- Assumes nothing.
use Rattle.std.specs.Prelude.{ℕ, ◌≡◌, List, length}
use Rattle.text.specs.Lex.{token_at}
use Rattle.grammar.specs.Advance.{step_of, Advanced}
use Rattle.syntax.specs.declared.Turn.{Turn}
use Rattle.syntax.specs.Kinds.{kind_of}

-- the contract of a turn from byte at, with the expected symbols in the array from top on
pub record Turned (text : List ℕ) (at : ℕ) (before : List ℕ) (top : ℕ) (r : Turn) (after : List ℕ) : Type 0 where
  pub token : r.token ≡ token_at text at
  pub step : Advanced before top (kind_of text (token_at text at)) (step_of (length before) r.taken) after
