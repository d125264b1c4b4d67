use Rattle.bodies.specs.Bodies.{body_fits}
use Rattle.bodies.proofs.body_fits.Goals as goal

pub returns : goal.returns
unfolding body_fits
returns c = simp (← c.formed.ensures, ← c.inner_op.ensures, ← c.body_at-body.ensures)
