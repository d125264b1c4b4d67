-- The parts of a header, of an op or of a body, as the code notes them, against the lists of the same tokens.
-- Assumes nothing.
use Rattle.std.specs.Prelude.{ℕ, ◌<◌, ◌≤◌, min, ◌≡◌, List, [], ◌∷◌, map, length, get_or}
use Rattle.grammar.specs.Symbols.{FunctionName, InputName, InputType, OutputType, ResultName, OpName, FuncReturn, OperandName, OperandType, ResultType, BodyOpen, BodyLabel, ArgumentName, ArgumentType, BodyOpName, BodyReturn, AttributeName}
use Rattle.syntax.specs.Readings.{Reading}
use Rattle.program.specs.declared.Parts.{Parts}
use Rattle.places.specs.Places.{op_name, result_name, operand_name, operand_type, result_type, attribute_name, body_open, input_name, input_type, output_type, count_of, place_of}
use Rattle.source.specs.Source.{OpText, FunctionText}
use Rattle.verifier.specs.AttributeRules.{first_token}

-- the roles of part k
abbrev pub part_roles : ℕ → List ℕ
part_roles k =
    get_or (
    (OpName ∷ FuncReturn ∷ BodyOpName ∷ BodyReturn ∷ []) ∷
    (ResultName ∷ []) ∷
    (OperandName ∷ []) ∷
    (OperandType ∷ []) ∷
    (ResultType ∷ []) ∷
    (AttributeName ∷ []) ∷
    (BodyOpen ∷ []) ∷
    (InputName ∷ ArgumentName ∷ []) ∷
    (InputType ∷ ArgumentType ∷ []) ∷
    (OutputType ∷ []) ∷
    (FunctionName ∷ BodyLabel ∷ []) ∷ []) k []

-- the tokens of part k are those of the list, 9 standing for more than eight; the first eight are noted
pub record PartListed (p : Parts) (k : ℕ) (tokens : List ℕ) : Type 0 where
  pub count : count_of p k ≡ min (length tokens) 9
  pub place : (j : ℕ) → j < 8 → place_of p k j ≡ get_or tokens j 0

-- the same of a part that is whole (01, Sizes, 5)
pub record PartWhole (p : Parts) (k : ℕ) (tokens : List ℕ) : Type 0 where
  pub few : length tokens ≤ 8
  pub count : count_of p k ≡ length tokens
  pub place : (j : ℕ) → j < 8 → place_of p k j ≡ get_or tokens j 0

-- where the first of some readings starts
abbrev pub first_place : List Reading → ℕ
first_place [] = 0
first_place (x ∷ xs) = x.token.start

-- an op by its parts and the same op by its lists; an attribute is noted by its name, a body by its brace
pub record SameParts (op : Parts) (o : OpText) : Type 0 where
  pub names : PartListed op op_name o.names
  pub results : PartWhole op result_name o.results
  pub operands : PartWhole op operand_name o.operands
  pub operand_types : PartWhole op operand_type o.operand_types
  pub result_types : PartWhole op result_type o.result_types
  pub attributes : PartListed op attribute_name (map (λ a. first_token a.names) o.attributes)
  pub bodies : PartListed op body_open (map first_place o.bodies)

-- a header by its parts and by the function's lists; a type for each input's name
pub record SameHeader (header : Parts) (f : FunctionText) : Type 0 where
  pub inputs : PartWhole header input_name f.inputs
  pub input_types : PartWhole header input_type f.input_types
  pub output_types : PartWhole header output_type f.output_types
  pub even : length f.input_types ≡ length f.inputs
