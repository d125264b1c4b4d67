-- The program of a text: the parts of its header, and where each op and the return begin.
-- Assumes nothing.
use Rattle.std.specs.Prelude.{ℕ, ◌+◌, List, [], ◌∷◌, Bool, true, false, not, ◌&&◌, ◌||◌, length, set, replicate, ltb, eqb}
use Rattle.lists.specs.Lists.{pick}
use Rattle.scan.specs.Bytes.{among}
use Rattle.grammar.specs.Symbols.{FunctionName, InputName, InputType, OutputType, ResultName, OpName, FuncReturn}
use Rattle.syntax.specs.Readings.{Reading, readings}
use Rattle.program.specs.Parts.{no_parts, noted, depth_after}
use Rattle.program.specs.declared.Program.{Program}

-- a program of which nothing has been read
unfoldable pub no_program : Program
no_program = record { header = no_parts; count = 0; ops = replicate 257 0 }

-- one op more, at a place; 258 stands for more than "256 ops, its return and body ops not counted" (01, Sizes, 4) and the return
unfoldable pub begun : Program → ℕ → Program
begun p place =
    pick (ltb p.count 257)
    (record { header = p.header; count = p.count + 1; ops = set p.ops p.count place })
    (record { header = p.header; count = 258; ops = p.ops })

-- a token of the header ("header `func.func`, inputs, outputs after `->`"): the function's name, an input's name, an input's type or an output's type
unfoldable pub in_header : ℕ → Bool
in_header role = among (FunctionName ∷ InputName ∷ InputType ∷ OutputType ∷ []) role

-- the quoted name of an op or of the return
unfoldable pub names_op : ℕ → Bool
names_op role = among (OpName ∷ FuncReturn ∷ []) role

-- an op begins at its first result name, or at its quoted name where it has none; naming says that result names of an op have been read and its
-- quoted name not yet
unfoldable pub begins_op : Bool → ℕ → Bool
begins_op naming role = not naming && (eqb role ResultName || names_op role)

unfoldable pub naming_after : Bool → ℕ → Bool
naming_after naming role = pick (eqb role ResultName) true (pick (names_op role) false naming)

-- one token of the function itself: of its header, or the beginning of an op
unfoldable pub outlined : Program → Bool → ℕ → ℕ → Program
outlined p naming role place =
    pick (in_header role)
    (record { header = noted p.header role place; count = p.count; ops = p.ops })
    (pick (begins_op naming role) (begun p place) p)

-- the tokens in turn; those inside bodies are passed over
unfoldable pub program_from : Program → Bool → ℕ → List Reading → Program
program_from p naming depth [] = p
program_from p naming depth (x ∷ xs) =
    let own = eqb depth 0 in
    program_from (pick own (outlined p naming x.role x.token.start) p) (pick own (naming_after naming x.role) naming) (depth_after depth x.role) xs

-- "Text up to 65,536 bytes": of a longer one nothing is read, refusal 1 answers it
unfoldable pub program_of : List ℕ → Program
program_of text = pick (ltb 65536 (length text)) no_program (program_from no_program false 0 (readings text))
