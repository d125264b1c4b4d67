use Rattle.bodies.specs.Bodies.{argument_type}
use Rattle.bodies.proofs.argument_type.Goals as goal

pub returns : goal.returns
unfolding argument_type
returns c = simp (← c.type_of.ensures, ← c.body_at.ensures)
