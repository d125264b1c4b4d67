use Rattle.bodies.specs.Bodies.{has_count}
use Rattle.bodies.proofs.has_count.Goals as goal

pub returns : goal.returns
unfolding has_count
returns c = simp (← c.count_of.ensures)
