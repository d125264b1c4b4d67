-- The form of a reduction's body. 01, "Reductions": "The body has two arguments and one op of add, multiply, maximum, minimum, and, or, xor on both, each once, either
-- way round, and returns it."
-- Assumes nothing.
use Rattle.std.specs.Prelude.{ℕ, List, Bool, ◌&&◌, ◌||◌, eqb}
use Rattle.text.specs.Lex.{token_at}
use Rattle.optable.specs.Table.{row_at, may_reduce}
use Rattle.optable.specs.Find.{find_op}
use Rattle.program.specs.declared.Parts.{Parts}
use Rattle.program.specs.Parts.{op_at, body_at}
use Rattle.scope.specs.Scope.{same_at}
use Rattle.dimrules.specs.declared.TensorType.{TensorType}
use Rattle.dimrules.specs.Types.{same_type}
use Rattle.places.specs.Places.{op_name, result_name, operand_name, operand_type, result_type, attribute_name, body_open, input_name, input_type, count_of, place_of, type_of_part}

-- the op of a body: the one of its first result name (a body without one has no op that a return can name)
unfoldable pub inner_op : List ℕ → Parts → Parts
inner_op text body = op_at text (place_of body result_name 0)

-- part k has n tokens
unfoldable pub has_count : Parts → ℕ → ℕ → Bool
has_count p k n = eqb (count_of p k) n

-- two arguments; one op and the return; no attribute and no body within. The return's operand comes after the op's two.
unfoldable pub body_counted : Parts → Bool
body_counted body =
    has_count body input_name 2 && has_count body input_type 2
    && has_count body op_name 2 && has_count body result_name 1 && has_count body operand_name 3 && has_count body operand_type 3
    && has_count body result_type 1 && has_count body attribute_name 0 && has_count body body_open 0

-- the first op of the body is the one with the result: two operands and one result are its own, and one operand is left to the return
unfoldable pub op_counted : Parts → Parts → Bool
op_counted body op =
    has_count op op_name 1 && eqb (place_of op op_name 0) (place_of body op_name 0)
    && has_count op result_name 1 && has_count op operand_name 2 && has_count op operand_type 2 && has_count op result_type 1

-- the row in the op table of the op whose quoted name starts at a byte
unfoldable pub row_named : List ℕ → ℕ → ℕ
row_named text at = find_op text at (token_at text at).end

-- "one op of add, multiply, maximum, minimum, and, or, xor", by its row
unfoldable pub is_reducer : ℕ → Bool
is_reducer row = may_reduce (row_at row).reducer

-- operand j of the body is its argument i
unfoldable pub operand_is : List ℕ → Parts → ℕ → ℕ → Bool
operand_is text body j i = same_at text (place_of body operand_name j) (place_of body input_name i)

-- "on both, each once, either way round"
unfoldable pub on_both : List ℕ → Parts → Bool
on_both text body = (operand_is text body 0 0 && operand_is text body 1 1) || (operand_is text body 0 1 && operand_is text body 1 0)

-- "and returns it"
unfoldable pub returns_it : List ℕ → Parts → Bool
returns_it text body = same_at text (place_of body operand_name 2) (place_of body result_name 0)

-- token j of part k says the type of the first argument
unfoldable pub as_first : List ℕ → Parts → ℕ → ℕ → Bool
as_first text body k j = same_type (type_of_part text body input_type 0) (type_of_part text body k j)

-- the body is sound in itself: every type in it is that of its first argument, as the op's C1 and the operands' definitions ask
unfoldable pub one_type : List ℕ → Parts → Bool
one_type text body =
    as_first text body input_type 1
    && as_first text body operand_type 0 && as_first text body operand_type 1 && as_first text body operand_type 2
    && as_first text body result_type 0

-- a body of the form, by its parts and those of its op
unfoldable pub formed : List ℕ → Parts → Parts → Bool
formed text body op =
    body_counted body && op_counted body op && is_reducer (row_named text (place_of body op_name 0)) && on_both text body && returns_it text body && one_type text body

-- the body whose opening brace is at or after a byte is of the form
unfoldable pub body_fits : List ℕ → ℕ → Bool
body_fits text at = let body = body_at text at in formed text body (inner_op text body)

-- the type of its argument j
unfoldable pub argument_type : List ℕ → ℕ → ℕ → TensorType
argument_type text at j = type_of_part text (body_at text at) input_type j

-- the row of its op
unfoldable pub body_row : List ℕ → ℕ → ℕ
body_row text at = row_named text (place_of (body_at text at) op_name 0)
