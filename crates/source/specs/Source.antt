-- The program of a text: its header, its ops and its return, each as lists of its tokens by role, in text order. A token goes by its first byte
-- (01, "The twelve refusals": "a byte is its token's first").
-- Assumes nothing.
use Rattle.std.specs.Prelude.{ℕ, List, [], ◌∷◌, map, Bool, ◌&&◌, eqb, get_or}
use Rattle.lists.specs.Lists.{pick}
use Rattle.scan.specs.Bytes.{among}
use Rattle.grammar.specs.Symbols.{InputName, InputType, OutputType, ResultName, OpName, FuncReturn, OperandName, OperandType, ResultType, BodyOpen, ArgumentName, ArgumentType, BodyOpName, BodyReturn, AttributeName, SingleNumber, ListNumber, ChoiceKind, Choice, DenseType, ElementLiteral, DenseOpen}
use Rattle.syntax.specs.Readings.{Reading, readings}
use Rattle.program.specs.Parts.{depth_after}
use Rattle.scope.specs.Scope.{begins}

-- the tokens of these roles that stand inside `level` bodies, `depth` bodies being open before the first reading
abbrev pub with_role : List ℕ → ℕ → ℕ → List Reading → List ℕ
with_role roles level depth [] = []
with_role roles level depth (x ∷ xs) =
    let rest = with_role roles level (depth_after depth x.role) xs in
    pick (eqb depth level && among roles x.role) (x.token.start ∷ rest) rest

-- the readings before the first piece, and the pieces
pub record Cut : Type 0 where
  pub before : List Reading
  pub pieces : List (List Reading)

-- the readings cut before each one inside `level` bodies at which a piece begins, which its role and that of the reading before it tell
abbrev pub cut_from : (ℕ → ℕ → Bool) → ℕ → ℕ → ℕ → List Reading → Cut
cut_from first level role depth [] = record { before = []; pieces = [] }
cut_from first level role depth (x ∷ xs) =
    let c = cut_from first level x.role (depth_after depth x.role) xs in
    pick (eqb depth level && first role x.role)
    (record { before = []; pieces = (x ∷ c.before) ∷ c.pieces })
    (record { before = x ∷ c.before; pieces = c.pieces })

-- the readings up to the brace that closes the body that the first one opens
abbrev pub enclosed : ℕ → List Reading → List Reading
enclosed depth [] = []
enclosed depth (x ∷ xs) =
    let after = depth_after depth x.role in
    let rest = enclosed after xs in
    pick (eqb after 0) (x ∷ []) (x ∷ rest)

-- ---- attributes

-- `name = value`: the number of `0 : i64`, the numbers of `array<i64: ..>`, the two words of `#stablehlo<kind choice>`, the tokens and the type of a `dense<..>`
pub record AttributeText : Type 0 where
  pub names : List ℕ
  pub single : List ℕ
  pub listed : List ℕ
  pub kinds : List ℕ
  pub choices : List ℕ
  pub literals : List ℕ
  pub types : List ℕ

abbrev pub attribute_from : List Reading → AttributeText
attribute_from xs =
    record {
      names = with_role (AttributeName ∷ []) 0 0 xs;
      single = with_role (SingleNumber ∷ []) 0 0 xs;
      listed = with_role (ListNumber ∷ []) 0 0 xs;
      kinds = with_role (ChoiceKind ∷ []) 0 0 xs;
      choices = with_role (Choice ∷ []) 0 0 xs;
      literals = with_role (DenseOpen ∷ ElementLiteral ∷ []) 0 0 xs;
      types = with_role (DenseType ∷ []) 0 0 xs;
    }

-- ---- ops

-- `results = "name"(operands) {attributes} ({ bodies }) : (operand types) -> result types`; a body by its readings and those after it
pub record OpText : Type 0 where
  pub tokens : List Reading
  pub results : List ℕ
  pub names : List ℕ
  pub operands : List ℕ
  pub attributes : List AttributeText
  pub bodies : List (List Reading)
  pub operand_types : List ℕ
  pub result_types : List ℕ

-- an op by its readings: what stands in its bodies is not its own
abbrev pub op_from : List Reading → OpText
op_from xs =
    record {
      tokens = xs;
      results = with_role (ResultName ∷ []) 0 0 xs;
      names = with_role (OpName ∷ FuncReturn ∷ BodyOpName ∷ BodyReturn ∷ []) 0 0 xs;
      operands = with_role (OperandName ∷ []) 0 0 xs;
      attributes = map attribute_from (cut_from (λ before role. eqb role AttributeName) 0 0 0 xs).pieces;
      bodies = (cut_from (λ before role. eqb role BodyOpen) 0 0 0 xs).pieces;
      operand_types = with_role (OperandType ∷ []) 0 0 xs;
      result_types = with_role (ResultType ∷ []) 0 0 xs;
    }

-- ---- bodies

-- `{ ^label(arguments): ops return }`, the return last among the ops
pub record BodyText : Type 0 where
  pub arguments : List ℕ
  pub argument_types : List ℕ
  pub ops : List OpText

abbrev pub body_from : List Reading → BodyText
body_from piece =
    let xs = enclosed 0 piece in
    record {
      arguments = with_role (ArgumentName ∷ []) 1 0 xs;
      argument_types = with_role (ArgumentType ∷ []) 1 0 xs;
      ops = map op_from (cut_from begins 1 0 0 xs).pieces;
    }

-- ---- the function

-- `func.func @name(inputs) -> output types { ops return }`, the return last among the ops
pub record FunctionText : Type 0 where
  pub inputs : List ℕ
  pub input_types : List ℕ
  pub output_types : List ℕ
  pub ops : List OpText

abbrev pub function_from : List Reading → FunctionText
function_from xs =
    record {
      inputs = with_role (InputName ∷ []) 0 0 xs;
      input_types = with_role (InputType ∷ []) 0 0 xs;
      output_types = with_role (OutputType ∷ []) 0 0 xs;
      ops = map op_from (cut_from begins 0 0 0 xs).pieces;
    }

unfoldable pub function_of : List ℕ → FunctionText
function_of text = function_from (readings text)
