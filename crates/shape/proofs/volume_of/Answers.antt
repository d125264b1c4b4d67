use native.Mathlib.Omega.{arith}
use native.Mathlib.Nat.{one-mul}
use Rattle.shape.proofs.DimensionLaw.{drop-next, drop_all, volume-turn}
use Rattle.shape.proofs.volume_of.Goals as goal

pub loop-d-init : goal.loop-d-init
loop-d-init c = (omega arith, omega arith, rw one-mul)

pub loop-d-preserved : goal.loop-d-preserved
loop-d-preserved c =
    let l = c.loop-d in
    volume-turn (drop-next _ _ c.loop-d-test.true) l.n _ c.capped_product-n.result l.invariant.0 l.invariant.2 c.capped_product-n.ensures

pub returns : goal.returns
returns c = omega (arith, rw (drop_all _ _ c.loop-d-test.false) at c.loop-d.invariant.2)
