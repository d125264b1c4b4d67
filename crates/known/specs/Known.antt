-- The names of one op against the values before it: refusals 5 and 6 (01: "Then duplicate input names, then op by op names (5, 6), 7, 8").
-- Assumes nothing.
use Rattle.std.specs.Prelude.{ℕ, zero, suc, List, [], ◌∷◌, get_or}
use Rattle.lists.specs.Lists.{tab}
use Rattle.program.specs.declared.Parts.{Parts}
use Rattle.places.specs.Places.{input_name, place_of}
use Rattle.values.specs.declared.Value.{Value}
use Rattle.values.specs.Values.{no_value}
use Rattle.scope.specs.Faults.{NameFault}
use Rattle.scope.specs.Scope.{names_of, inputs_from, fault_of}

-- the names of the first n values as entries of a scope, the last one first
unfoldable pub known_names : List Value → ℕ → List ℕ
known_names values zero = []
known_names values (suc n) = (get_or values n no_value).name ∷ known_names values n

-- the names of the op whose first token is at or after a byte, n values being defined before it
unfoldable pub names_fault : List ℕ → List Value → ℕ → ℕ → NameFault
names_fault text values n at = fault_of (names_of text at (known_names values n))

-- "duplicate input names": of n inputs
unfoldable pub inputs_fault : List ℕ → Parts → ℕ → NameFault
inputs_fault text header n = fault_of (inputs_from text [] (tab n (λ i. place_of header input_name i)))
