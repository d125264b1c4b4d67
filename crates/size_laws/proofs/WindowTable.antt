-- The two roles that can stand before each symbol of the grammar, and the last two after what it derives: (0, r) where r is the first token, (0, 0) before it.
-- WindowLaw tests them at every production.
-- Assumes nothing.
use Prim.Native.Nat.{ℕ}
use mathlib.Core.List.{List, [], ◌∷◌}

-- before each symbol from Program on
unfoldable pub befores : List (List (ℕ × ℕ))
befores =
    ((0, 0) ∷ []) ∷  -- Program
    ((2, 29) ∷ []) ∷  -- Inputs
    ((36, 4) ∷ []) ∷  -- MoreInputs
    ((4, 30) ∷ (29, 30) ∷ []) ∷  -- Outputs
    ((35, 5) ∷ (38, 5) ∷ []) ∷  -- MoreOutputs
    ((5, 31) ∷ (11, 30) ∷ (29, 30) ∷ (30, 31) ∷ (38, 11) ∷ []) ∷  -- Ops
    ((6, 37) ∷ []) ∷  -- NamedOps
    ((0, 6) ∷ (11, 6) ∷ (30, 6) ∷ (31, 6) ∷ (35, 6) ∷ (36, 6) ∷ []) ∷  -- MoreResults
    ((0, 7) ∷ (0, 8) ∷ (11, 7) ∷ (11, 8) ∷ (11, 16) ∷ (11, 17) ∷ (30, 7) ∷ (30, 8) ∷ (30, 16) ∷ (30, 17) ∷ (31, 7) ∷ (31, 8) ∷ (36, 16) ∷ (36, 17) ∷ (37, 7) ∷ (37, 8) ∷ (37, 16) ∷ (37, 17) ∷ []) ∷  -- OpRest
    ((7, 29) ∷ (8, 29) ∷ (16, 29) ∷ (17, 29) ∷ []) ∷  -- Operands
    ((29, 9) ∷ (35, 9) ∷ []) ∷  -- MoreOperands
    ((9, 30) ∷ (29, 30) ∷ []) ∷  -- Middle
    ((32, 34) ∷ []) ∷  -- BodiesAfter
    ((18, 30) ∷ []) ∷  -- AttributesAfter
    ((18, 35) ∷ (30, 29) ∷ (34, 29) ∷ []) ∷  -- Body
    ((11, 18) ∷ (30, 18) ∷ []) ∷  -- MoreBodies
    ((13, 29) ∷ []) ∷  -- Arguments
    ((36, 15) ∷ []) ∷  -- MoreArguments
    ((11, 30) ∷ (29, 30) ∷ (30, 36) ∷ (38, 11) ∷ []) ∷  -- BodyOps
    ((6, 37) ∷ []) ∷  -- NamedBodyOps
    ((36, 29) ∷ []) ∷  -- OperandTypes
    ((29, 10) ∷ (35, 10) ∷ []) ∷  -- MoreOperandTypes
    ((30, 38) ∷ []) ∷  -- ResultTypes
    ((38, 29) ∷ []) ∷  -- ResultTypeList
    ((29, 11) ∷ (35, 11) ∷ []) ∷  -- MoreResultTypes
    ((30, 31) ∷ (33, 31) ∷ []) ∷  -- Attributes
    ((21, 34) ∷ (23, 34) ∷ (36, 27) ∷ (36, 42) ∷ (42, 34) ∷ []) ∷  -- MoreAttributes
    ((19, 37) ∷ []) ∷  -- Value
    ((33, 42) ∷ []) ∷  -- Numbers
    ((35, 21) ∷ (36, 21) ∷ []) ∷  -- MoreNumbers
    ((24, 35) ∷ (26, 35) ∷ (41, 33) ∷ []) ∷  -- Dense
    ((25, 25) ∷ (33, 25) ∷ (35, 25) ∷ []) ∷  -- DenseItems
    ((24, 26) ∷ (25, 24) ∷ (25, 26) ∷ (26, 26) ∷ (33, 24) ∷ (35, 24) ∷ []) ∷  -- MoreItems
    ((0, 0) ∷ []) ∷  -- Op
    ((6, 37) ∷ []) ∷  -- NamedOp
    []

-- after it
unfoldable pub afters : List (List (ℕ × ℕ))
afters =
    ((32, 1) ∷ []) ∷  -- Program
    ((2, 29) ∷ (36, 4) ∷ []) ∷  -- Inputs
    ((36, 4) ∷ []) ∷  -- MoreInputs
    ((4, 30) ∷ (29, 30) ∷ (35, 5) ∷ (38, 5) ∷ []) ∷  -- Outputs
    ((35, 5) ∷ (38, 5) ∷ []) ∷  -- MoreOutputs
    ((11, 30) ∷ (29, 30) ∷ (38, 11) ∷ []) ∷  -- Ops
    ((11, 30) ∷ (29, 30) ∷ (38, 11) ∷ []) ∷  -- NamedOps
    ((0, 6) ∷ (11, 6) ∷ (30, 6) ∷ (31, 6) ∷ (35, 6) ∷ (36, 6) ∷ []) ∷  -- MoreResults
    ((11, 30) ∷ (29, 30) ∷ (38, 11) ∷ []) ∷  -- OpRest
    ((7, 29) ∷ (8, 29) ∷ (16, 29) ∷ (17, 29) ∷ (29, 9) ∷ (35, 9) ∷ []) ∷  -- Operands
    ((29, 9) ∷ (35, 9) ∷ []) ∷  -- MoreOperands
    ((9, 30) ∷ (18, 30) ∷ (27, 32) ∷ (29, 30) ∷ (32, 34) ∷ (34, 32) ∷ (42, 32) ∷ []) ∷  -- Middle
    ((18, 30) ∷ (32, 34) ∷ []) ∷  -- BodiesAfter
    ((18, 30) ∷ (27, 32) ∷ (34, 32) ∷ (42, 32) ∷ []) ∷  -- AttributesAfter
    ((11, 18) ∷ (30, 18) ∷ []) ∷  -- Body
    ((11, 18) ∷ (30, 18) ∷ []) ∷  -- MoreBodies
    ((13, 29) ∷ (36, 15) ∷ []) ∷  -- Arguments
    ((36, 15) ∷ []) ∷  -- MoreArguments
    ((11, 30) ∷ (29, 30) ∷ (38, 11) ∷ []) ∷  -- BodyOps
    ((11, 30) ∷ (29, 30) ∷ (38, 11) ∷ []) ∷  -- NamedBodyOps
    ((29, 10) ∷ (35, 10) ∷ (36, 29) ∷ []) ∷  -- OperandTypes
    ((29, 10) ∷ (35, 10) ∷ []) ∷  -- MoreOperandTypes
    ((11, 30) ∷ (29, 30) ∷ (38, 11) ∷ []) ∷  -- ResultTypes
    ((29, 11) ∷ (35, 11) ∷ (38, 29) ∷ []) ∷  -- ResultTypeList
    ((29, 11) ∷ (35, 11) ∷ []) ∷  -- MoreResultTypes
    ((21, 34) ∷ (23, 34) ∷ (36, 27) ∷ (36, 42) ∷ (42, 34) ∷ []) ∷  -- Attributes
    ((21, 34) ∷ (23, 34) ∷ (36, 27) ∷ (36, 42) ∷ (42, 34) ∷ []) ∷  -- MoreAttributes
    ((21, 34) ∷ (23, 34) ∷ (36, 27) ∷ (36, 42) ∷ (42, 34) ∷ []) ∷  -- Value
    ((33, 42) ∷ (35, 21) ∷ (36, 21) ∷ []) ∷  -- Numbers
    ((35, 21) ∷ (36, 21) ∷ []) ∷  -- MoreNumbers
    ((24, 26) ∷ (25, 26) ∷ (26, 26) ∷ (33, 24) ∷ (35, 24) ∷ []) ∷  -- Dense
    ((24, 26) ∷ (25, 24) ∷ (25, 25) ∷ (25, 26) ∷ (26, 26) ∷ (33, 24) ∷ (33, 25) ∷ (35, 24) ∷ (35, 25) ∷ []) ∷  -- DenseItems
    ((24, 26) ∷ (25, 24) ∷ (25, 26) ∷ (26, 26) ∷ (33, 24) ∷ (35, 24) ∷ []) ∷  -- MoreItems
    ((11, 30) ∷ (29, 30) ∷ (38, 11) ∷ []) ∷  -- Op
    ((11, 30) ∷ (29, 30) ∷ (38, 11) ∷ []) ∷  -- NamedOp
    []
