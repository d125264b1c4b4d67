use Rattle.elementwise.proofs.FillLaw.{done_below}
use Rattle.elementwise.proofs.clamp_into.Goals as goal

pub loop-k-preserved : goal.loop-k-preserved
loop-k-preserved c =
    done_below _ c.loop-k-test.true (rw (c.spread_element-low.ensures, c.spread_element-high.ensures) at c.clamp.ensures) c.loop-k.invariant
