use Rattle.scalar.specs.Ops.{iota_of}
use Rattle.scalar.proofs.iota.Goals as goal

pub returns : goal.returns
unfolding iota_of
returns c = c.fit.ensures
