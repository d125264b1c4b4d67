use mathlib.Core.Path.{◌∙◌}
use Rattle.printed.proofs.PrintLaw.{shape-step, shape-end}
use Rattle.printed.proofs.put_shape.Goals as goal

pub loop-d-preserved : goal.loop-d-preserved
loop-d-preserved c = (c.put-place.auto.out ∙ c.put_digits-p.auto.out ∙ c.loop-d.invariant.0, shape-step _ _ _ _ _ c.loop-d-test.true c.put_digits-p.ensures c.put-place.ensures ∙ c.loop-d.invariant.1)

pub returns : goal.returns
returns c = shape-end _ _ _ c.loop-d-test.false ∙ c.loop-d.invariant.1
