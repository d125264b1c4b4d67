use Rattle.outputs.specs.Outputs.{return_judged}
use Rattle.outputs.proofs.return_judged.Goals as goal

pub returns-then-typed_return : goal.returns-then-typed_return
unfolding return_judged
returns-then-typed_return c = simp (c.if-typed_return.true, ← c.typed_return.ensures)

pub returns-else-typed_return : goal.returns-else-typed_return
unfolding return_judged
returns-else-typed_return c = simp (c.if-typed_return.false, ← c.typed_return.ensures)
