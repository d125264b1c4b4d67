use Rattle.shown_shapes.proofs.FitLaw.{stretches, pad-holds}
use Rattle.shown_shapes.proofs.pad.Goals as goal

pub pad-requires : goal.pad-requires
pad-requires g c =
    let p = c.requires in
    (stretches _ _ _ _ p.0 p.1, pad-holds _ _ _ p.2)
