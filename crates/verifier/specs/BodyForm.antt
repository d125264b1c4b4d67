-- 01, "Reductions": "The body has two arguments and one op of add, multiply, maximum, minimum, and, or, xor on both, each once, either way round, and returns
-- it."
-- Assumes nothing.
use Rattle.std.specs.Prelude.{ℕ, List, [], ◌∷◌, ◌++◌, Bool, true, false, ◌&&◌, ◌||◌, eqb, length, get_or}
use Rattle.text.specs.Lex.{token_at}
use Rattle.scope.specs.Scope.{same_at}
use Rattle.dimrules.specs.declared.TensorType.{TensorType}
use Rattle.dimrules.specs.Types.{same_type}
use Rattle.places.specs.Places.{type_in}
use Rattle.optable.specs.Table.{OpRow, ops, may_reduce, row_at}
use Rattle.optable.specs.Find.{find_op}
use Rattle.source.specs.Source.{OpText, BodyText}
use Rattle.verifier.specs.AttributeRules.{first_token}

-- a list of so many tokens
abbrev pub has_length : {A : Type 0} → List A → ℕ → Bool
has_length l n = eqb (length l) n

-- the place in the op table of the op's name
abbrev pub op_number : List ℕ → OpText → ℕ
op_number text op = let at = first_token op.names in find_op text at (token_at text at).end

-- every one of these types is t
abbrev pub all_are : List ℕ → TensorType → List ℕ → Bool
all_are text t [] = true
all_are text t (at ∷ ats) = same_type t (type_in text at) && all_are text t ats

-- no attributes, no bodies, so many results, operands and types of each
abbrev pub plain_op : ℕ → ℕ → OpText → Bool
plain_op results operands op =
    has_length op.results results && has_length op.result_types results
    && has_length op.operands operands && has_length op.operand_types operands
    && has_length op.attributes 0 && has_length op.bodies 0

-- "on both, each once, either way round": operands p and q are the arguments x and y
abbrev pub each_once : List ℕ → ℕ → ℕ → ℕ → ℕ → Bool
each_once text p q x y = (same_at text p x && same_at text q y) || (same_at text p y && same_at text q x)

-- an op and a return in a body with these arguments, of these types. "faulty inside": 000 asks of each of these ops that its operands and its result have one
-- type, and of each operand its definition's, so that every type is the first argument's.
abbrev pub formed_of : List ℕ → List ℕ → List ℕ → OpText → OpText → Bool
formed_of text arguments types op return =
    has_length arguments 2 && has_length types 2
    && may_reduce (row_at (op_number text op)).reducer && plain_op 1 2 op
    && each_once text (get_or op.operands 0 0) (get_or op.operands 1 0) (get_or arguments 0 0) (get_or arguments 1 0)
    && plain_op 0 1 return && same_at text (first_token return.operands) (first_token op.results)
    && all_are text (type_in text (first_token types)) (types ++ op.operand_types ++ op.result_types ++ return.operand_types)

-- "one op .. and returns it"
abbrev pub formed_ops : List ℕ → List ℕ → List ℕ → List OpText → Bool
formed_ops text arguments types [] = false
formed_ops text arguments types (op ∷ []) = false
formed_ops text arguments types (op ∷ (return ∷ [])) = formed_of text arguments types op return
formed_ops text arguments types (op ∷ (return ∷ (more ∷ rest))) = false

abbrev pub of_body_form : List ℕ → BodyText → Bool
of_body_form text body = formed_ops text body.arguments body.argument_types body.ops
