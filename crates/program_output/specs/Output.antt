-- What the evaluating program prints for a text: it "lends a store of 8,192 slots, reads a text without inputs on standard input (inputs that have elements: refusal 10)
-- and prints one line per result, `, ` between items, or `refused` and the three numbers, single spaces" (01, "Table of examples").
-- Assumes nothing.
use Rattle.std.specs.Prelude.{List, [], ℕ, eqb, replicate}
use Rattle.lists.specs.Lists.{pick}
use Rattle.evaluation.specs.Evaluated.{Evaluated, evaluated}
use Rattle.verdict_lines.specs.Lines.{refused_line}
use Rattle.result_lines.specs.ResultLines.{result_lines}

-- the answer without inputs over "a store of 8,192 slots"
abbrev pub alone : List ℕ → Evaluated
alone text = evaluated text [] (replicate 8192 0)

-- the whole output
unfoldable pub output_of : List ℕ → List ℕ
output_of text = let e = alone text in pick (eqb e.refusal.number 0) (result_lines text e.store) (refused_line e.refusal)
