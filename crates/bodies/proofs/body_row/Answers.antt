use Rattle.bodies.specs.Bodies.{body_row}
use Rattle.bodies.proofs.body_row.Goals as goal

pub returns : goal.returns
unfolding body_row
returns c = simp (← c.row_named.ensures, ← c.place_of.ensures, ← c.body_at.ensures)
