-- The parts of a header, of an op or of a body, as places in the text: the first bytes of their tokens, in text order
-- (01, The twelve refusals: "a byte is its token's first").
-- Assumes nothing.
use Rattle.std.specs.Prelude.{ℕ, ◌+◌, ◌-◌, ◌*◌, List, [], ◌∷◌, length, get_or, set, replicate, ltb, eqb}
use Rattle.lists.specs.Lists.{pick}
use Rattle.scan.specs.Bytes.{among}
use Rattle.grammar.specs.Symbols.{FunctionName, InputName, InputType, OutputType, ResultName, OpName, FuncReturn, OperandName, OperandType, ResultType, BodyOpen, BodyLabel, ArgumentName, ArgumentType, BodyOpName, BodyReturn, BodyClose, AttributeName, Op, Body}
use Rattle.syntax.specs.Readings.{Reading, readings_of}
use Rattle.program.specs.declared.Parts.{Parts}

-- the part to which a token of this role belongs, by number; 11 where it belongs to none
unfoldable pub part_of : ℕ → ℕ
part_of role =
    pick (among (OpName ∷ FuncReturn ∷ BodyOpName ∷ BodyReturn ∷ []) role) 0
    (pick (eqb role ResultName) 1
    (pick (eqb role OperandName) 2
    (pick (eqb role OperandType) 3
    (pick (eqb role ResultType) 4
    (pick (eqb role AttributeName) 5
    (pick (eqb role BodyOpen) 6
    (pick (among (InputName ∷ ArgumentName ∷ []) role) 7
    (pick (among (InputType ∷ ArgumentType ∷ []) role) 8
    (pick (eqb role OutputType) 9
    (pick (among (FunctionName ∷ BodyLabel ∷ []) role) 10 11))))))))))

-- no token yet
unfoldable pub no_parts : Parts
no_parts = record { count = replicate 11 0; at = replicate 88 0 }

-- Part k has count[k] tokens, 9 standing for more than eight (01, Sizes, 5); the first eight start at the bytes at[8k] to at[8k + 7].
-- One token more of part k, at a place.
unfoldable pub added_to : Parts → ℕ → ℕ → Parts
added_to p k place =
    let n = get_or p.count k 0 in
    pick (ltb n 8)
    (record { count = set p.count k (n + 1); at = set p.at (8 * k + n) place })
    (record { count = set p.count k 9; at = p.at })

-- one token more, in the part of its role
unfoldable pub noted : Parts → ℕ → ℕ → Parts
noted p role place = pick (ltb (part_of role) 11) (added_to p (part_of role) place) p

-- "a body in `({ })`": how many bodies are open after a token of this role
unfoldable pub depth_after : ℕ → ℕ → ℕ
depth_after depth role = pick (eqb role BodyOpen) (depth + 1) (pick (eqb role BodyClose) (depth - 1) depth)

-- the parts among the tokens that stand inside so many bodies
unfoldable pub parts_from : ℕ → Parts → ℕ → List Reading → Parts
parts_from level p depth [] = p
parts_from level p depth (x ∷ xs) = parts_from level (pick (eqb depth level) (noted p x.role x.token.start) p) (depth_after depth x.role) xs

-- the parts of what the symbol derives, read from a byte on
unfoldable pub parts_of : ℕ → ℕ → List ℕ → ℕ → Parts
parts_of symbol level text at = parts_from level no_parts 0 (readings_of symbol text at)

-- "Text up to 65,536 bytes": of a longer one nothing is read, refusal 1 answers it
unfoldable pub parts_at : ℕ → ℕ → List ℕ → ℕ → Parts
parts_at symbol level text at = pick (ltb 65536 (length text)) no_parts (parts_of symbol level text at)

-- the op whose first token is at or after a byte: its own parts, those of its bodies left out
unfoldable pub op_at : List ℕ → ℕ → Parts
op_at text at = parts_at Op 0 text at

-- the body whose brace is at or after a byte: its arguments and the parts of its ops and its return, those of bodies within it left out
unfoldable pub body_at : List ℕ → ℕ → Parts
body_at text at = parts_at Body 1 text at
