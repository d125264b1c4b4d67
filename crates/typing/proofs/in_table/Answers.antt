use Rattle.optable.proofs.TableLaw.{ops-count}
use Rattle.typing.specs.Typing.{in_table}
use Rattle.typing.proofs.in_table.Goals as goal

pub returns : goal.returns
unfolding in_table
returns c = simp (ops-count, ← c.row_named.ensures, ← c.place_of.ensures)
