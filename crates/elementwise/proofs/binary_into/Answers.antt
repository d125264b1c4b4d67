use Rattle.elementwise.proofs.FillLaw.{done_below}
use Rattle.elementwise.proofs.binary_into.Goals as goal

pub loop-k-preserved : goal.loop-k-preserved
loop-k-preserved c = done_below _ c.loop-k-test.true c.apply_binary.ensures c.loop-k.invariant
