use Rattle.shown_shapes.proofs.FitLaw.{stretches, slice-holds}
use Rattle.shown_shapes.proofs.slice.Goals as goal

pub slice-requires : goal.slice-requires
slice-requires g c =
    let p = c.requires in
    (stretches _ _ _ _ p.0 p.1, slice-holds _ _ _ _ _ p.2)
