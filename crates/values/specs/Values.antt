-- The values of a program: its inputs, then each op's result, with their names and types (01, "The store": "The inputs come first, then each op's result in
-- text order").
-- Assumes nothing.
use Rattle.std.specs.Prelude.{ℕ, ◌+◌, ◌-◌, min, List, get_or, ltb}
use Rattle.lists.specs.Lists.{pick, tab}
use Rattle.program.specs.declared.Parts.{Parts}
use Rattle.program.specs.declared.Program.{Program}
use Rattle.program.specs.Parts.{op_at}
use Rattle.program.specs.Program.{program_of}
use Rattle.places.specs.Places.{result_name, result_type, input_name, input_type, count_of, place_of, blank_type, type_of_part}
use Rattle.values.specs.declared.Value.{Value}
use Rattle.values.specs.declared.Values.{Values}

abbrev pub no_value : Value
no_value = record { name = 0; ty = blank_type }

-- input i of a header: where its name starts, and its type
unfoldable pub input_value : List ℕ → Parts → ℕ → Value
input_value text header i = record { name = place_of header input_name i; ty = type_of_part text header input_type i }

-- an op's result: its first result name and its first result type (refusal 7: "a wrong number .. of results (one; return: none)")
unfoldable pub result_value : List ℕ → Parts → Value
result_value text op = record { name = place_of op result_name 0; ty = type_of_part text op result_type 0 }

-- 01, Sizes, 4 and 5: at most 8 inputs and 256 ops; the return is the last op
unfoldable pub inputs_of : Program → ℕ
inputs_of p = min (count_of p.header input_name) 8

unfoldable pub ops_of : Program → ℕ
ops_of p = min (p.count - 1) 256

-- value i
unfoldable pub value_at : List ℕ → Program → ℕ → Value
value_at text p i =
    pick (ltb i (inputs_of p)) (input_value text p.header i) (result_value text (op_at text (get_or p.ops (i - inputs_of p) 0)))

-- the values of a program; past the last one none
unfoldable pub values_in : List ℕ → Program → Values
values_in text p =
    let n = inputs_of p + ops_of p in
    record { inputs = inputs_of p; count = n; list = tab 264 (λ i. pick (ltb i n) (value_at text p i) no_value) }

-- the values of a text's program
unfoldable pub values_of : List ℕ → Values
values_of text = values_in text (program_of text)
