use Rattle.bodies.specs.Bodies.{inner_op}
use Rattle.bodies.proofs.inner_op.Goals as goal

pub returns : goal.returns
unfolding inner_op
returns c = simp (← c.op_at.ensures, ← c.place_of.ensures)
