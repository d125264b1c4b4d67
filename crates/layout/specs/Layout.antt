-- Values in a list of slots: "The inputs come first, then each op's result in text order" (01, "The store").
-- Assumes nothing.
use Rattle.std.specs.Prelude.{ℕ, List, take, drop}
use Rattle.lists.specs.Lists.{tab}
use Rattle.values.specs.declared.Values.{Values}
use Rattle.offsets.specs.Offsets.{size_at, offset_at}

-- the elements of value i
abbrev pub value_in : Values → List ℕ → ℕ → List ℕ
value_in vs slots i = take (size_at vs i) (drop (offset_at vs i) slots)

-- the tensors of the first n values
abbrev pub tensors_in : Values → List ℕ → ℕ → List (List ℕ)
tensors_in vs slots n = tab n (value_in vs slots)
