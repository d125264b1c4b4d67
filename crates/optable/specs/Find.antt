-- The row of a name that stands in a text.
-- Assumes nothing.
use Rattle.std.specs.Prelude.{ℕ, ◌-◌, List, [], ◌∷◌, take, drop, eqb}
use Rattle.lists.specs.Lists.{first_where}
use Rattle.optable.specs.declared.Row.{Row}
use Rattle.optable.specs.Table.{op_names, attribute_names, choice_kind_names, choice_names}
unfoldable pub use Rattle.optable.specs.Names.{same, name_place}

-- the bytes of the text from start up to end
abbrev pub stretch : List ℕ → ℕ → ℕ → List ℕ
stretch text start end = take (end - start) (drop start text)

-- the op, the attribute, a choice's first word, the choice whose name stands in the text from start up to end
unfoldable pub find_op : List ℕ → ℕ → ℕ → ℕ
find_op text start end = name_place op_names (stretch text start end)

unfoldable pub find_attribute : List ℕ → ℕ → ℕ → ℕ
find_attribute text start end = name_place attribute_names (stretch text start end)

unfoldable pub find_choice_kind : List ℕ → ℕ → ℕ → ℕ
find_choice_kind text start end = name_place choice_kind_names (stretch text start end)

unfoldable pub find_choice : List ℕ → ℕ → ℕ → ℕ
find_choice text start end = name_place choice_names (stretch text start end)

-- the place of attribute k among the three of a row: below.needed it must stand, from there it may be absent, 3: it is foreign to the op
unfoldable pub slot_in : Row → ℕ → ℕ
slot_in r k = first_where (λ a. eqb a k) (r.a ∷ r.b ∷ r.c ∷ [])
