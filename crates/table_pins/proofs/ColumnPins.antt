-- The columns of the op table hold by names, by computing the definitions.
-- Assumes nothing.
use mathlib.Core.Path.{◌≡◌, refl}
use Rattle.lists.specs.Lists.{first_where}
use Rattle.optable.specs.Names.{same, name_place}
use Rattle.optable.specs.Table.{attributes, attribute_names, ops, op_names, row_at}
use Rattle.optable.specs.Takes.{takes, operand_taken, result_taken}
use Rattle.table_pins.specs.Columns.{ColumnPinsHold}

pub column-pins : ColumnPinsHold
unfolding row_at ops op_names attributes attribute_names name_place first_where same takes operand_taken result_taken
column-pins = record { all = refl; each = refl; taken = refl; worded = refl }
