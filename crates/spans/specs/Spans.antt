-- Where the operands of an op stand in the store.
-- Assumes nothing.
use Rattle.std.specs.Prelude.{ℕ, List, ltb}
use Rattle.lists.specs.Lists.{pick, tab}
use Rattle.program.specs.declared.Parts.{Parts}
use Rattle.places.specs.Places.{operand_name, place_of}
use Rattle.values.specs.declared.Values.{Values}
use Rattle.offsets.specs.Offsets.{offset_at}
use Rattle.operands.specs.Operands.{value_named, arity_of}

-- the first slot of operand j, n values being defined before the op; 0 where it has no operand j
abbrev pub place_at : List ℕ → Parts → Values → ℕ → ℕ → ℕ
place_at text op vs n j = pick (ltb j (arity_of op)) (offset_at vs (value_named text vs.list n (place_of op operand_name j))) 0

-- of each of its operands (01, "Sizes", 5: at most 8)
unfoldable pub places_of : List ℕ → Parts → Values → ℕ → List ℕ
places_of text op vs n = tab 8 (place_at text op vs n)
