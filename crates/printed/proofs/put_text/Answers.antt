use mathlib.Core.Path.{◌∙◌}
use Rattle.printed.proofs.PrintLaw.{text-step, text-end}
use Rattle.printed.proofs.put_text.Goals as goal

pub loop-b-preserved : goal.loop-b-preserved
loop-b-preserved c = (c.put-place.auto.out ∙ c.loop-b.invariant.0, text-step _ _ _ _ c.loop-b-test.true c.put-place.ensures ∙ c.loop-b.invariant.1)

pub returns : goal.returns
returns c = text-end _ _ _ c.loop-b-test.false ∙ c.loop-b.invariant.1
