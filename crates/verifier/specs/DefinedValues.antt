-- The values of a program: "The inputs come first, then each op's result in text order" (01, "The store").
-- Assumes nothing.
use Rattle.std.specs.Prelude.{ℕ, List, [], ◌∷◌, ◌++◌, map}
use Rattle.values.specs.declared.Value.{Value}
use Rattle.places.specs.Places.{type_in}
use Rattle.source.specs.Source.{OpText, FunctionText}
use Rattle.verifier.specs.AttributeRules.{first_token}

-- a value by the tokens of its name and of its type
abbrev pub value_with : List ℕ → ℕ → ℕ → Value
value_with text name type = record { name = name; ty = type_in text type }

-- the inputs, "one for each": name and type stand in pairs
abbrev pub values_with : List ℕ → List ℕ → List ℕ → List Value
values_with text [] types = []
values_with text (n ∷ names) [] = []
values_with text (n ∷ names) (t ∷ types) = value_with text n t ∷ values_with text names types

unfoldable pub inputs_defined : List ℕ → FunctionText → List Value
inputs_defined text f = values_with text f.inputs f.input_types

-- an op's result ("of results (one; return: none)")
unfoldable pub result_defined : List ℕ → OpText → Value
result_defined text op = value_with text (first_token op.results) (first_token op.result_types)
