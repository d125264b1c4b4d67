use Rattle.shown_shapes.proofs.FitLaw.{stretches, dynamic-slice-holds}
use Rattle.shown_shapes.proofs.dynamic_slice.Goals as goal

pub dynamic_slice-requires : goal.dynamic_slice-requires
dynamic_slice-requires g c =
    let p = c.requires in
    (stretches _ _ _ _ p.0 p.1, dynamic-slice-holds _ _ p.2)
