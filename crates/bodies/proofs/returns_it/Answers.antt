use Rattle.bodies.specs.Bodies.{returns_it}
use Rattle.bodies.proofs.returns_it.Goals as goal

pub returns : goal.returns
unfolding returns_it
returns c = simp (← c.same_at.ensures, ← c.place_of-2.ensures, ← c.place_of.ensures)
