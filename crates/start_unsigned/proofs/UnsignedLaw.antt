-- The seven texts on ui16, computed.
-- Assumes nothing.
use mathlib.Core.Path.{refl}
use Rattle.start_examples.specs.Starts.{identities, unsigned, Witnessed}
use Rattle.start_examples.proofs.Computing.{reading, table_row, Held, witnessed}

-- a declaration for each row: what computing one text held is given back before the next
row-0 : Held unsigned (table_row 0)
unfolding reading
row-0 = refl

row-1 : Held unsigned (table_row 1)
unfolding reading
row-1 = refl

row-2 : Held unsigned (table_row 2)
unfolding reading
row-2 = refl

row-3 : Held unsigned (table_row 3)
unfolding reading
row-3 = refl

row-4 : Held unsigned (table_row 4)
unfolding reading
row-4 = refl

row-5 : Held unsigned (table_row 5)
unfolding reading
row-5 = refl

row-6 : Held unsigned (table_row 6)
unfolding reading
row-6 = refl

pub unsigned-starts : Witnessed unsigned
unfolding identities
unsigned-starts = witnessed unsigned (row-0, (row-1, (row-2, (row-3, (row-4, (row-5, (row-6, tt)))))))
