use Rattle.bodies.specs.Bodies.{as_first}
use Rattle.places.proofs.TypeInLaw.{part-sized}
use Rattle.bodies.proofs.as_first.Goals as goal

pub same_type-requires : goal.same_type-requires
same_type-requires c = rw c.type_of.ensures (part-sized _ _ _ _)

pub returns : goal.returns
unfolding as_first
returns c = simp (← c.same_type.ensures, ← c.type_of-2.ensures, ← c.type_of.ensures)
