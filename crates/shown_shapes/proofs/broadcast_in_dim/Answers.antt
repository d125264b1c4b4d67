use Rattle.shown_shapes.proofs.FitLaw.{stretches}
use Rattle.shown_shapes.proofs.broadcast_in_dim.Goals as goal

pub broadcast_in_dim-requires : goal.broadcast_in_dim-requires
broadcast_in_dim-requires g c = stretches _ _ _ _ c.requires.0 c.requires.1
