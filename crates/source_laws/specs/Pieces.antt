-- The pieces into which the ops cut a text that reading passes.
-- Assumes nothing.
use Rattle.std.specs.Prelude.{ℕ, ◌+◌, ◌-◌, ◌<◌, ◌≡◌, List, [], ◌∷◌, ◌++◌, length, get_or}
use Rattle.grammar.specs.Symbols.{rbrace, End, Op}
use Rattle.syntax.specs.Readings.{Reading, readings, readings_of}
use Rattle.syntax.specs.Roles.{roles_of}
use Rattle.scope.specs.Scope.{begins}
use Rattle.program.specs.Program.{program_of}
use Rattle.source.specs.Source.{cut_from}

-- the pieces of a text
abbrev pub op_pieces : List ℕ → List (List Reading)
op_pieces text = (cut_from begins 0 0 0 (readings text)).pieces

-- where op k of the program begins
abbrev pub op_place : List ℕ → ℕ → ℕ
op_place text k = get_or (program_of text).ops k 0

-- one piece for each op, and it is what is read from its first byte on; the return, the last, is followed by the closing brace and the end
pub record PiecesAreOps (text : List ℕ) : Type 0 where
  pub closing : List Reading
  pub close : roles_of closing ≡ rbrace ∷ End ∷ []
  pub count : length (op_pieces text) ≡ (program_of text).count
  pub each : (k : ℕ) → k + 1 < (program_of text).count → get_or (op_pieces text) k [] ≡ readings_of Op text (op_place text k)
  pub last : get_or (op_pieces text) ((program_of text).count - 1) [] ≡ readings_of Op text (op_place text ((program_of text).count - 1)) ++ closing
