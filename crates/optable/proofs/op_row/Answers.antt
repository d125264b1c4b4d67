use mathlib.Core.Path.{refl, sym}
use Rattle.lists.specs.Lists.{first_where}
use Rattle.optable.specs.Names.{same, name_place}
use Rattle.optable.specs.Table.{ops, attributes, attribute_names, row_at}
use Rattle.optable.proofs.TableLaw.{ops-count, row-past}
use Rattle.optable.proofs.op_row.Goals as goal

pub returns-then-i-lt-COUNT : goal.returns-then-i-lt-COUNT
unfolding row_at ops attributes attribute_names name_place first_where same
returns-then-i-lt-COUNT c = refl

pub returns-else-i-lt-COUNT : goal.returns-else-i-lt-COUNT
returns-else-i-lt-COUNT c = sym (row-past _ (rw ops-count c.if-i-lt-COUNT.false))
