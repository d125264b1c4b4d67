use Rattle.std.proofs.Common.{arith, ◌∙◌}
use Rattle.types.proofs.ShapeLaw.{capped_at, dimension-past, dimension-here, dimension-next, dimension-digit}
use Rattle.types.proofs.tensors.dimension.Goals as goal
use Rattle.types.proofs.tensors.dimension.Goals.{then-b-ne120, else-b-ne120+else-left-eq0}

pub returns-then-left-eq0 : goal.returns-then-left-eq0
returns-then-left-eq0 c = dimension-here c.args.bytes.now c.loop-b.b-index c.loop-b.left _ _ c.loop-b.invariant.1 c.loop-b-test.true c.if-b-ne120.false c.if-left-eq0.true ∙ capped_at _ _

pub loop-b-preserved : goal.loop-b-preserved
loop-b-preserved c = elim c.if-b-ne120.branch [
  | then-b-ne120 w ↦ rw (w.v-is, w.left-is, w.with_digit-v.ensures) (omega arith, dimension-digit c.args.bytes.now c.loop-b.b-index c.loop-b.left c.loop-b.v _ c.loop-b.invariant.1 c.loop-b-test.true w.if-b-ne120.true)
  | else-b-ne120+else-left-eq0 w ↦ rw (w.v-is, w.left-is) (omega arith, dimension-next c.args.bytes.now c.loop-b.b-index c.loop-b.left c.loop-b.v _ c.loop-b.invariant.1 c.loop-b-test.true w.if-b-ne120.false w.if-left-eq0.false)
]

pub returns : goal.returns
returns c = dimension-past c.args.bytes.now c.loop-b.b-index c.loop-b.left c.loop-b.v _ c.loop-b.invariant.1 c.loop-b-test.false ∙ capped_at _ _
