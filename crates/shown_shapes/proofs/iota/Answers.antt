use Rattle.shown_shapes.proofs.FitLaw.{sized, iota-holds}
use Rattle.shown_shapes.proofs.iota.Goals as goal

pub iota-requires : goal.iota-requires
iota-requires g c = (sized _ c.requires.0.0 c.requires.0.1, c.requires.0.2, iota-holds _ _ c.requires.1)
