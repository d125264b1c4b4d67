-- The lines of an accepted text's results: the evaluating program "prints one line per result" (01, "Table of examples").
-- Assumes nothing.
use Rattle.std.specs.Prelude.{List, ℕ, get_or}
use Rattle.program.specs.declared.Parts.{Parts}
use Rattle.program.specs.Parts.{op_at}
use Rattle.program.specs.Program.{program_of}
use Rattle.values.specs.Values.{ops_of, values_in}
use Rattle.results.specs.Results.{lines_of}

-- the return, "`"func.return"` last"
abbrev pub return_of : List ℕ → Parts
return_of text = let p = program_of text in op_at text (get_or p.ops (ops_of p) 0)

-- a line for each value that the return names, by the values in the store
unfoldable pub result_lines : List ℕ → List ℕ → List ℕ
result_lines text store = let vs = values_in text (program_of text) in lines_of text (return_of text) vs vs.count store
