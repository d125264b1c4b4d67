-- The seven texts on i8, computed; and the two texts that do not start at the identity.
-- Assumes nothing.
use mathlib.Core.Path.{refl}
use mathlib.Core.Bool.{false}
use mathlib.Core.List.{[], ◌∷◌}
use Rattle.element.specs.declared.ElementType.TheVariants.{I8}
use Rattle.scalar.specs.declared.Body.TheVariants.{Add}
use Rattle.ops.specs.declared.Kind.TheVariants.{Constant, Reduce}
use Rattle.start_examples.specs.Starts.{from_input, filled_text, reducing, identities, signed, Witnessed, Refuted}
use Rattle.start_examples.proofs.Computing.{reading, table_row, Gave, Held, witnessed, counterexample}

-- a declaration for each row: what computing one text held is given back before the next
row-0 : Held signed (table_row 0)
unfolding reading
row-0 = refl

row-1 : Held signed (table_row 1)
unfolding reading
row-1 = refl

row-2 : Held signed (table_row 2)
unfolding reading
row-2 = refl

row-3 : Held signed (table_row 3)
unfolding reading
row-3 = refl

row-4 : Held signed (table_row 4)
unfolding reading
row-4 = refl

row-5 : Held signed (table_row 5)
unfolding reading
row-5 = refl

row-6 : Held signed (table_row 6)
unfolding reading
row-6 = refl

pub signed-starts : Witnessed signed
unfolding identities
signed-starts = witnessed signed (row-0, (row-1, (row-2, (row-3, (row-4, (row-5, (row-6, tt)))))))

from-input : Gave (filled_text "add" "i8" "" from_input) (Reduce Add ∷ []) (I8 ∷ []) false
unfolding reading
from-input = refl

from_one : Gave (reducing "add" "i8" "1") (Constant ∷ Reduce Add ∷ []) (I8 ∷ I8 ∷ []) false
unfolding reading
from_one = refl

pub refuted : Refuted
refuted = (
  counterexample (filled_text "add" "i8" "" from_input) (Reduce Add ∷ []) (I8 ∷ []) from-input,
  counterexample (reducing "add" "i8" "1") (Constant ∷ Reduce Add ∷ []) (I8 ∷ I8 ∷ []) from_one,
)
