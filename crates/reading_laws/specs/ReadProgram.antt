-- The program of a text that reading passes (01, "Sizes", 4, and the grammar: "ops .., and `"func.return"` last").
-- Assumes nothing.
use Rattle.std.specs.Prelude.{ℕ, ◌+◌, ◌-◌, ◌<◌, ◌≤◌, List, get_or}
use Rattle.grammar.specs.Symbols.{OpName, FuncReturn}
use Rattle.syntax.specs.OpsAlone.{OpAlone}
use Rattle.program.specs.Program.{program_of}

-- "at most 256 ops, its return and body ops not counted", and the return: each is read from its place on, the return last
pub record ReadProgram (text : List ℕ) : Type 0 where
  pub least : 0 < (program_of text).count
  pub most : (program_of text).count ≤ 257
  pub each : (k : ℕ) → k + 1 < (program_of text).count → OpAlone text OpName (get_or (program_of text).ops k 0)
  pub last : OpAlone text FuncReturn (get_or (program_of text).ops ((program_of text).count - 1) 0)
