use Rattle.shown_shapes.proofs.FitLaw.{reduced-stretches}
use Rattle.shown_shapes.proofs.reduce.Goals as goal

pub reduce-requires : goal.reduce-requires
reduce-requires g c = reduced-stretches _ _ _ _ c.requires.0 c.requires.1 _ c.requires.2
