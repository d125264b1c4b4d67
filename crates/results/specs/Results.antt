-- What the evaluating program prints for an accepted text: it "prints one line per result, `, ` between items" (01, "Table of examples").
-- Assumes nothing.
use Rattle.std.specs.Prelude.{ℕ, List, [], ◌∷◌, ◌++◌, get_or}
use Rattle.lists.specs.Lists.{tab, concat}
use Rattle.shape.specs.Dims.{dims_of}
use Rattle.printed.specs.Printed.{printed}
use Rattle.program.specs.declared.Parts.{Parts}
use Rattle.places.specs.Places.{operand_name, place_of}
use Rattle.values.specs.declared.Values.{Values}
use Rattle.values.specs.Values.{no_value}
use Rattle.operands.specs.Operands.{value_named, arity_of}
use Rattle.layout.specs.Layout.{value_in}

-- "Results are what the return names" (01, "Free runs"): the number of the value that it names at place j, where n values are defined before it
unfoldable pub line_at : List ℕ → Parts → Values → ℕ → ℕ → ℕ
line_at text op vs n j = value_named text vs.list n (place_of op operand_name j)

-- value i as a dense value with its type: `dense<[1725]> : tensor<1xui16>`
abbrev pub dense_of : Values → List ℕ → ℕ → List ℕ
dense_of vs slots i = let t = (get_or vs.list i no_value).ty in printed t.element (dims_of t.shape) (value_in vs slots i)

-- its line: that "and a line end", byte 10
unfoldable pub line_of : Values → List ℕ → ℕ → List ℕ
line_of vs slots i = dense_of vs slots i ++ (10 ∷ [])

-- the lines of the first j results
abbrev pub first_lines : List ℕ → Parts → Values → ℕ → List ℕ → ℕ → List ℕ
first_lines text op vs n slots j = concat (tab j (λ k. line_of vs slots (line_at text op vs n k)))

-- "prints one line per result"
unfoldable pub lines_of : List ℕ → Parts → Values → ℕ → List ℕ → List ℕ
lines_of text op vs n slots = first_lines text op vs n slots (arity_of op)
