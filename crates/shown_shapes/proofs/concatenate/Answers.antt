use Rattle.shown_shapes.proofs.FitLaw.{sized, inputs, concatenate-holds}
use Rattle.shown_shapes.proofs.concatenate.Goals as goal

pub concatenate-requires : goal.concatenate-requires
concatenate-requires g c =
    let p = c.requires in
    (sized _ p.0.0 p.0.1, p.0.2, inputs _ _ _ _ p.1, concatenate-holds _ _ _ p.2)
