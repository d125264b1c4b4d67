-- The input slice against the program's inputs (01, refusals 10 and 11).
-- Assumes nothing.
use Rattle.std.specs.Prelude.{ℕ, ◌+◌, Bool, List, get_or, leb}
use Rattle.element.specs.Types.{is_value}
use Rattle.dimrules.specs.Count.{first_failing}
use Rattle.values.specs.declared.Values.{Values}
use Rattle.values.specs.Values.{no_value}
use Rattle.offsets.specs.Offsets.{offset_at}

-- "the inputs together": how many slots they have (refusal 10)
unfoldable pub input_slots : Values → ℕ
input_slots vs = offset_at vs vs.inputs

-- the input that slot s belongs to: the first that ends after it
unfoldable pub input_of : Values → ℕ → ℕ
input_of vs s = first_failing vs.inputs (λ i. leb (offset_at vs (i + 1)) s)

-- "input slot not a value of its type" (refusal 11)
unfoldable pub slot_fits : Values → List ℕ → ℕ → Bool
slot_fits vs inputs s = is_value (get_or vs.list (input_of vs s) no_value).ty.element (get_or inputs s 0)

-- "11 at the lowest such slot"; the number of input slots where every slot is a value of its type
unfoldable pub first_foreign : Values → List ℕ → ℕ
first_foreign vs inputs = first_failing (input_slots vs) (slot_fits vs inputs)
