use Rattle.shown_shapes.proofs.FitLaw.{stretches, few}
use Rattle.shown_shapes.proofs.reverse.Goals as goal

pub reverse-requires : goal.reverse-requires
reverse-requires g c = (stretches _ _ _ _ c.requires.0 c.requires.1, few _ c.requires.2)
