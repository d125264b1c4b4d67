use Rattle.dimrules.proofs.ReadLaw.{dim-small}
use Rattle.dimrules.proofs.dim_test.Goals as goal

pub padded_is-requires : goal.padded_is-requires
padded_is-requires c = rw c.dim_at-nd.ensures (dim-small _ c.requires.sized _)
