-- Where each value stands in the store: "The inputs come first, then each op's result in text order" (01, "The store").
-- Assumes nothing.
use Rattle.std.specs.Prelude.{ℕ, ◌<◌, ◌≤◌, List, get_or}
use Rattle.lists.specs.Lists.{tab}
use Rattle.shape.specs.Index.{size}
use Rattle.shape.specs.Dims.{dims_of, Sized}
use Rattle.dimrules.specs.Count.{sum_below}
use Rattle.values.specs.declared.Values.{Values}
use Rattle.values.specs.Values.{no_value}

-- how many elements value i has
unfoldable pub size_at : Values → ℕ → ℕ
size_at vs i = size (dims_of (get_or vs.list i no_value).ty.shape)

-- the slot at which value i begins: the elements of the values before it
unfoldable pub offset_at : Values → ℕ → ℕ
offset_at vs i = sum_below i (size_at vs)

-- "One function has at most 256 ops", and 8 inputs: an offset for each value
unfoldable pub offsets_of : Values → List ℕ
offsets_of vs = tab 264 (offset_at vs)

-- "Inputs and op results together": the slots needed
unfoldable pub needed_of : Values → ℕ
needed_of vs = offset_at vs vs.count

-- what reading grants of values: size 2 of each type, sizes 4 and 5
pub record ValuesRead (vs : Values) : Type 0 where
  pub few : vs.count ≤ 264
  pub sized : (i : ℕ) → i < 264 → Sized (get_or vs.list i no_value).ty.shape
