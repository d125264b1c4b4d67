-- The return against the values before it and the header: refusal 7.
-- Assumes nothing.
use Rattle.std.specs.Prelude.{ℕ, List, Bool, ◌&&◌, eqb}
use Rattle.lists.specs.Lists.{pick}
use Rattle.program.specs.declared.Parts.{Parts}
use Rattle.dimrules.specs.Count.{everywhere}
use Rattle.dimrules.specs.Types.{same_type}
use Rattle.places.specs.Places.{operand_name, operand_type, attribute_name, body_open, output_type, count_of, type_of_part}
use Rattle.values.specs.declared.Value.{Value}
use Rattle.operands.specs.Operands.{arity_of, operands_typed}
use Rattle.typing.specs.Typing.{Judged}
use Rattle.typing.specs.Typing.{results_are}

-- output j of the header is what the return names
unfoldable pub returned_at : List ℕ → Parts → Parts → ℕ → Bool
returned_at text op header j = same_type (type_of_part text op operand_type j) (type_of_part text header output_type j)

-- "return types that aren't the header's"
unfoldable pub returns_header : List ℕ → Parts → Parts → Bool
returns_header text op header = eqb (count_of op operand_name) (count_of header output_type) && everywhere (arity_of op) (returned_at text op header)

-- none of them holds of the return: no results, no attributes, no bodies
unfoldable pub typed_return : List ℕ → Parts → Parts → List Value → ℕ → Bool
typed_return text op header values n =
    operands_typed text op values n && results_are 0 op && eqb (count_of op attribute_name) 0 && eqb (count_of op body_open) 0 && returns_header text op header

-- a refusal of kind 7; 0: none
unfoldable pub return_judged : List ℕ → Parts → Parts → List Value → ℕ → Judged
return_judged text op header values n = record { refusal = pick (typed_return text op header values n) 0 7; b = 0 }
