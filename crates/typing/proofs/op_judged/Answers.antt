use Rattle.typing.proofs.TypingLaw.{read-sizes, some-judged, none-judged}
use Rattle.typing.specs.Typing.{op_judged}
use Rattle.typing.proofs.op_judged.Goals as goal

pub broken_by-requires : goal.broken_by-requires
broken_by-requires c = rw c.operation_of-o.ensures (read-sizes _ _ _)

pub returns-then-not-typed_op : goal.returns-then-not-typed_op
unfolding op_judged
returns-then-not-typed_op c = simp (c.if-not-typed_op.true, ← c.typed_op.ensures, ← c.operation_of-o.ensures, ← c.row_of-row.ensures)

pub returns-in-Some : goal.returns-in-Some
unfolding op_judged
returns-in-Some c = simp (c.if-not-typed_op.false, ← c.typed_op.ensures, ← c.operation_of-o.ensures, ← c.row_of-row.ensures) (some-judged _ _ c.in-Some.ensures)

pub returns-in-None : goal.returns-in-None
unfolding op_judged
returns-in-None c = simp (c.if-not-typed_op.false, ← c.typed_op.ensures, ← c.operation_of-o.ensures, ← c.row_of-row.ensures) (none-judged _ c.in-None.ensures)
