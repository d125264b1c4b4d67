use Rattle.bodies.specs.Bodies.{operand_is}
use Rattle.bodies.proofs.operand_is.Goals as goal

pub returns : goal.returns
unfolding operand_is
returns c = simp (← c.same_at.ensures, ← c.place_of-2.ensures, ← c.place_of.ensures)
