use borrow.Author.Tests.{eq-eqb, ne_eqb}
use Rattle.opwise.specs.Opwise.{typing_of}
use Rattle.opwise.proofs.typing_of.Goals as goal

pub returns-then-k-p : goal.returns-then-k-p
unfolding typing_of
returns-then-k-p c = simp (← c.return_judged.ensures, eq-eqb _ _ c.if-k-p.true, ← c.op_at-op.ensures)

pub returns : goal.returns
unfolding typing_of
returns c = simp (← c.op_judged.ensures, ne_eqb _ _ c.if-k-p.false, ← c.op_at-op.ensures)
