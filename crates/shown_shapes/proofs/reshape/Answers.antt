use Rattle.shown_shapes.proofs.FitLaw.{stretches}
use Rattle.shown_shapes.proofs.reshape.Goals as goal

pub reshape-requires : goal.reshape-requires
reshape-requires g c = (stretches _ _ _ _ c.requires.0 c.requires.1, record { sizes = c.requires.2 })
