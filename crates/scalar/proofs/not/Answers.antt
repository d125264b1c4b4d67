use Rattle.scalar.specs.Ops.{not_of}
use Rattle.scalar.proofs.not.Goals as goal

pub returns : goal.returns
unfolding not_of
returns c = rw c.all.ensures
