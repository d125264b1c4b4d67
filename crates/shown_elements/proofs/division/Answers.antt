use Rattle.shown_elements.proofs.HeldLaw.{holds}
use Rattle.shown_elements.proofs.division.Goals as goal

pub division_into-requires : goal.division_into-requires
division_into-requires g c = let p = c.requires in (holds _ _ _ p.0, holds _ _ _ p.1)
