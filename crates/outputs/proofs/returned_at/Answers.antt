use Rattle.places.proofs.TypeInLaw.{part-sized}
use Rattle.outputs.specs.Outputs.{returned_at}
use Rattle.outputs.proofs.returned_at.Goals as goal

pub same_type-requires : goal.same_type-requires
same_type-requires c = rw c.type_of-written.ensures (part-sized _ _ _ _)

pub returns : goal.returns
unfolding returned_at
returns c = simp (← c.same_type.ensures, ← c.type_of.ensures, ← c.type_of-written.ensures)
