use native.Mathlib.Omega.{arith}
use native.Mathlib.Nat.{one-mul}
use Rattle.shape.proofs.DimensionLaw.{drop-next, drop_all, size-turn}
use Rattle.shape.proofs.size_of.Goals as goal

pub loop-d-init : goal.loop-d-init
loop-d-init c = (omega arith, one-mul _, rw one-mul c.requires.volume)

pub overflow_mul-n : goal.overflow_mul-n
overflow_mul-n c =
    let l = c.loop-d in
    let t = size-turn (drop-next _ _ c.loop-d-test.true) l.n _ l.invariant.1 l.invariant.2 in
    omega (arith, t.0)

pub loop-d-preserved : goal.loop-d-preserved
loop-d-preserved c =
    let l = c.loop-d in
    size-turn (drop-next _ _ c.loop-d-test.true) l.n _ l.invariant.1 l.invariant.2

pub returns : goal.returns
returns c = omega (arith, rw (drop_all _ _ c.loop-d-test.false) at c.loop-d.invariant.1)
