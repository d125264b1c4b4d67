use Rattle.shown_shapes.proofs.FitLaw.{stretches, transpose-holds}
use Rattle.shown_shapes.proofs.transpose.Goals as goal

pub transpose-requires : goal.transpose-requires
transpose-requires g c =
    let p = c.requires in
    (stretches _ _ _ _ p.0 p.1, transpose-holds _ _ _ p.2)
