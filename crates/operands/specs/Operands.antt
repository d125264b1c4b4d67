-- An op's operands against the values before it (01, refusal 7: "a written operand type that isn't that of its definition").
-- Assumes nothing.
use Rattle.std.specs.Prelude.{ℕ, min, List, Bool, ◌&&◌, get_or, ltb, eqb}
use Rattle.lists.specs.Lists.{tab, first_where}
use Rattle.program.specs.declared.Parts.{Parts}
use Rattle.scope.specs.Scope.{same_at}
use Rattle.dimrules.specs.Count.{everywhere}
use Rattle.dimrules.specs.Types.{same_type}
use Rattle.places.specs.Places.{operand_name, operand_type, count_of, place_of, type_of_part}
use Rattle.values.specs.declared.Value.{Value}
use Rattle.values.specs.Values.{no_value}

-- the value that the name at byte a stands for, among the first n; n where it stands for none
unfoldable pub value_named : List ℕ → List Value → ℕ → ℕ → ℕ
value_named text values n a = first_where (λ i. same_at text (get_or values i no_value).name a) (tab n (λ i. i))

-- 01, Sizes, 5: at most 8 operands
unfoldable pub arity_of : Parts → ℕ
arity_of op = min (count_of op operand_name) 8

-- operand j is defined, and its written type is that of its definition
unfoldable pub operand_typed : List ℕ → Parts → List Value → ℕ → ℕ → Bool
operand_typed text op values n j =
    let i = value_named text values n (place_of op operand_name j) in
    ltb i n && same_type (type_of_part text op operand_type j) (get_or values i no_value).ty

-- "a written operand type that isn't that of its definition": there are as many as operands, and each is
unfoldable pub operands_typed : List ℕ → Parts → List Value → ℕ → Bool
operands_typed text op values n =
    ltb (count_of op operand_name) 9 && eqb (count_of op operand_type) (count_of op operand_name) && everywhere (arity_of op) (operand_typed text op values n)
