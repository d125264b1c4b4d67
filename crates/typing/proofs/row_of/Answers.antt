use Rattle.typing.specs.Typing.{row_named_in}
use Rattle.typing.proofs.row_of.Goals as goal

pub returns : goal.returns
unfolding row_named_in
returns c = simp (← c.op_row.ensures, ← c.row_named.ensures, ← c.place_of.ensures)
