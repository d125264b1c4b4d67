use Rattle.std.proofs.Common.{eq-eqb, ne_eqb}
use Rattle.scalar.specs.Ops.{select_of}
use Rattle.scalar.proofs.select.Goals as goal

pub returns-then-pred-eq0 : goal.returns-then-pred-eq0
unfolding select_of
returns-then-pred-eq0 c = simp (eq-eqb _ 0 c.if-pred-eq0.true)

pub returns-else-pred-eq0 : goal.returns-else-pred-eq0
unfolding select_of
returns-else-pred-eq0 c = simp (ne_eqb _ 0 c.if-pred-eq0.false)
