use Rattle.std.proofs.Common.{sym, ◌∙◌}
use Rattle.scalar.specs.Ops.{maximum_of}
use Rattle.scalar.proofs.maximum.Goals as goal

pub returns-then-less : goal.returns-then-less
unfolding maximum_of
returns-then-less c = simp (sym c.less.ensures ∙ c.if-less.true)

pub returns-else-less : goal.returns-else-less
unfolding maximum_of
returns-else-less c = simp (sym c.less.ensures ∙ c.if-less.false)
