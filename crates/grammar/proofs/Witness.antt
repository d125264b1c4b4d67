-- For each symbol a list of kinds that it derives, and the kinds that can follow it; written by tools/tables.py.
-- Assumes nothing.
use Prim.Native.Nat.{ℕ}
use mathlib.Core.List.{List, [], ◌∷◌}

unfoldable pub shortest : List (List ℕ)
shortest =
    [] ∷
    (0 ∷ []) ∷  -- End
    (10 ∷ []) ∷  -- FunctionName
    (3 ∷ []) ∷  -- InputName
    (7 ∷ []) ∷  -- InputType
    (7 ∷ []) ∷  -- OutputType
    (3 ∷ []) ∷  -- ResultName
    (6 ∷ []) ∷  -- OpName
    (12 ∷ []) ∷  -- FuncReturn
    (3 ∷ []) ∷  -- OperandName
    (7 ∷ []) ∷  -- OperandType
    (7 ∷ []) ∷  -- ResultType
    (22 ∷ []) ∷  -- BodyOpen
    (11 ∷ []) ∷  -- BodyLabel
    (3 ∷ []) ∷  -- ArgumentName
    (7 ∷ []) ∷  -- ArgumentType
    (6 ∷ []) ∷  -- BodyOpName
    (13 ∷ []) ∷  -- BodyReturn
    (23 ∷ []) ∷  -- BodyClose
    (1 ∷ []) ∷  -- AttributeName
    (2 ∷ []) ∷  -- SingleNumber
    (2 ∷ []) ∷  -- ListNumber
    (1 ∷ []) ∷  -- ChoiceKind
    (1 ∷ []) ∷  -- Choice
    (2 ∷ []) ∷  -- ElementLiteral
    (26 ∷ []) ∷  -- DenseOpen
    (27 ∷ []) ∷  -- DenseClose
    (7 ∷ []) ∷  -- DenseType
    (4 ∷ []) ∷  -- func
    (20 ∷ []) ∷  -- lparen
    (21 ∷ []) ∷  -- rparen
    (22 ∷ []) ∷  -- lbrace
    (23 ∷ []) ∷  -- rbrace
    (24 ∷ []) ∷  -- langle
    (25 ∷ []) ∷  -- rangle
    (28 ∷ []) ∷  -- comma
    (29 ∷ []) ∷  -- colon
    (30 ∷ []) ∷  -- equals
    (8 ∷ []) ∷  -- arrow
    (5 ∷ []) ∷  -- dialect
    (14 ∷ []) ∷  -- array
    (15 ∷ []) ∷  -- dense
    (17 ∷ []) ∷  -- i64
    (4 ∷ 10 ∷ 20 ∷ 21 ∷ 22 ∷ 12 ∷ 20 ∷ 21 ∷ 29 ∷ 20 ∷ 21 ∷ 8 ∷ 7 ∷ 23 ∷ 0 ∷ []) ∷  -- Program
    ([]) ∷  -- Inputs
    ([]) ∷  -- MoreInputs
    ([]) ∷  -- Outputs
    ([]) ∷  -- MoreOutputs
    (12 ∷ 20 ∷ 21 ∷ 29 ∷ 20 ∷ 21 ∷ 8 ∷ 7 ∷ []) ∷  -- Ops
    (12 ∷ 20 ∷ 21 ∷ 29 ∷ 20 ∷ 21 ∷ 8 ∷ 7 ∷ []) ∷  -- NamedOps
    ([]) ∷  -- MoreResults
    (20 ∷ 21 ∷ 29 ∷ 20 ∷ 21 ∷ 8 ∷ 7 ∷ []) ∷  -- OpRest
    ([]) ∷  -- Operands
    ([]) ∷  -- MoreOperands
    ([]) ∷  -- Middle
    ([]) ∷  -- BodiesAfter
    ([]) ∷  -- AttributesAfter
    (22 ∷ 11 ∷ 20 ∷ 21 ∷ 29 ∷ 13 ∷ 20 ∷ 21 ∷ 29 ∷ 20 ∷ 21 ∷ 8 ∷ 7 ∷ 23 ∷ []) ∷  -- Body
    ([]) ∷  -- MoreBodies
    ([]) ∷  -- Arguments
    ([]) ∷  -- MoreArguments
    (13 ∷ 20 ∷ 21 ∷ 29 ∷ 20 ∷ 21 ∷ 8 ∷ 7 ∷ []) ∷  -- BodyOps
    (13 ∷ 20 ∷ 21 ∷ 29 ∷ 20 ∷ 21 ∷ 8 ∷ 7 ∷ []) ∷  -- NamedBodyOps
    ([]) ∷  -- OperandTypes
    ([]) ∷  -- MoreOperandTypes
    (7 ∷ []) ∷  -- ResultTypes
    ([]) ∷  -- ResultTypeList
    ([]) ∷  -- MoreResultTypes
    (1 ∷ 30 ∷ 2 ∷ 29 ∷ 17 ∷ []) ∷  -- Attributes
    ([]) ∷  -- MoreAttributes
    (2 ∷ 29 ∷ 17 ∷ []) ∷  -- Value
    ([]) ∷  -- Numbers
    ([]) ∷  -- MoreNumbers
    (2 ∷ []) ∷  -- Dense
    ([]) ∷  -- DenseItems
    ([]) ∷  -- MoreItems
    (6 ∷ 20 ∷ 21 ∷ 29 ∷ 20 ∷ 21 ∷ 8 ∷ 7 ∷ []) ∷  -- Op
    (6 ∷ 20 ∷ 21 ∷ 29 ∷ 20 ∷ 21 ∷ 8 ∷ 7 ∷ []) ∷  -- NamedOp
    []

unfoldable pub follows : List (List ℕ)
follows =
    [] ∷
    ([]) ∷  -- End
    (20 ∷ []) ∷  -- FunctionName
    (29 ∷ []) ∷  -- InputName
    (21 ∷ 28 ∷ []) ∷  -- InputType
    (22 ∷ 28 ∷ []) ∷  -- OutputType
    (28 ∷ 30 ∷ []) ∷  -- ResultName
    (20 ∷ []) ∷  -- OpName
    (20 ∷ []) ∷  -- FuncReturn
    (21 ∷ 28 ∷ []) ∷  -- OperandName
    (21 ∷ 28 ∷ []) ∷  -- OperandType
    (3 ∷ 6 ∷ 12 ∷ 13 ∷ 21 ∷ 23 ∷ 28 ∷ []) ∷  -- ResultType
    (11 ∷ []) ∷  -- BodyOpen
    (20 ∷ []) ∷  -- BodyLabel
    (29 ∷ []) ∷  -- ArgumentName
    (21 ∷ 28 ∷ []) ∷  -- ArgumentType
    (20 ∷ []) ∷  -- BodyOpName
    (20 ∷ []) ∷  -- BodyReturn
    (21 ∷ 28 ∷ []) ∷  -- BodyClose
    (30 ∷ []) ∷  -- AttributeName
    (29 ∷ []) ∷  -- SingleNumber
    (25 ∷ 28 ∷ []) ∷  -- ListNumber
    (1 ∷ 14 ∷ 15 ∷ 16 ∷ 17 ∷ 18 ∷ 19 ∷ []) ∷  -- ChoiceKind
    (25 ∷ []) ∷  -- Choice
    (25 ∷ 27 ∷ 28 ∷ []) ∷  -- ElementLiteral
    (2 ∷ 16 ∷ 26 ∷ 27 ∷ []) ∷  -- DenseOpen
    (25 ∷ 27 ∷ 28 ∷ []) ∷  -- DenseClose
    (23 ∷ 28 ∷ []) ∷  -- DenseType
    (10 ∷ []) ∷  -- func
    (3 ∷ 7 ∷ 18 ∷ 19 ∷ 21 ∷ 22 ∷ []) ∷  -- lparen
    (3 ∷ 6 ∷ 8 ∷ 12 ∷ 13 ∷ 20 ∷ 22 ∷ 23 ∷ 24 ∷ 29 ∷ []) ∷  -- rparen
    (1 ∷ 3 ∷ 6 ∷ 12 ∷ 14 ∷ 15 ∷ 16 ∷ 17 ∷ 18 ∷ 19 ∷ []) ∷  -- lbrace
    (0 ∷ 25 ∷ 29 ∷ []) ∷  -- rbrace
    (1 ∷ 2 ∷ 14 ∷ 15 ∷ 16 ∷ 17 ∷ 18 ∷ 19 ∷ 22 ∷ 26 ∷ []) ∷  -- langle
    (20 ∷ 23 ∷ 28 ∷ 29 ∷ []) ∷  -- rangle
    (1 ∷ 2 ∷ 3 ∷ 7 ∷ 14 ∷ 15 ∷ 16 ∷ 17 ∷ 18 ∷ 19 ∷ 22 ∷ 26 ∷ []) ∷  -- comma
    (2 ∷ 3 ∷ 6 ∷ 7 ∷ 13 ∷ 17 ∷ 18 ∷ 19 ∷ 20 ∷ []) ∷  -- colon
    (2 ∷ 5 ∷ 6 ∷ 12 ∷ 13 ∷ 14 ∷ 15 ∷ []) ∷  -- equals
    (7 ∷ 18 ∷ 19 ∷ 20 ∷ []) ∷  -- arrow
    (24 ∷ []) ∷  -- dialect
    (24 ∷ []) ∷  -- array
    (24 ∷ []) ∷  -- dense
    (23 ∷ 25 ∷ 28 ∷ 29 ∷ []) ∷  -- i64
    ([]) ∷  -- Program
    (21 ∷ []) ∷  -- Inputs
    (21 ∷ []) ∷  -- MoreInputs
    (22 ∷ []) ∷  -- Outputs
    (22 ∷ []) ∷  -- MoreOutputs
    (23 ∷ []) ∷  -- Ops
    (23 ∷ []) ∷  -- NamedOps
    (30 ∷ []) ∷  -- MoreResults
    (3 ∷ 6 ∷ 12 ∷ 13 ∷ 23 ∷ []) ∷  -- OpRest
    (21 ∷ []) ∷  -- Operands
    (21 ∷ []) ∷  -- MoreOperands
    (29 ∷ []) ∷  -- Middle
    (29 ∷ []) ∷  -- BodiesAfter
    (29 ∷ []) ∷  -- AttributesAfter
    (21 ∷ 28 ∷ []) ∷  -- Body
    (21 ∷ []) ∷  -- MoreBodies
    (21 ∷ []) ∷  -- Arguments
    (21 ∷ []) ∷  -- MoreArguments
    (23 ∷ []) ∷  -- BodyOps
    (23 ∷ []) ∷  -- NamedBodyOps
    (21 ∷ []) ∷  -- OperandTypes
    (21 ∷ []) ∷  -- MoreOperandTypes
    (3 ∷ 6 ∷ 12 ∷ 13 ∷ 23 ∷ []) ∷  -- ResultTypes
    (21 ∷ []) ∷  -- ResultTypeList
    (21 ∷ []) ∷  -- MoreResultTypes
    (23 ∷ []) ∷  -- Attributes
    (23 ∷ []) ∷  -- MoreAttributes
    (23 ∷ 28 ∷ []) ∷  -- Value
    (25 ∷ []) ∷  -- Numbers
    (25 ∷ []) ∷  -- MoreNumbers
    (25 ∷ 27 ∷ 28 ∷ []) ∷  -- Dense
    (27 ∷ []) ∷  -- DenseItems
    (27 ∷ []) ∷  -- MoreItems
    ([]) ∷  -- Op
    ([]) ∷  -- NamedOp
    []
