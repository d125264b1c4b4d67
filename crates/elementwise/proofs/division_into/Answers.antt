use Rattle.elementwise.proofs.DivideLaw.{zero-here, zero-at}
use Rattle.elementwise.proofs.FillLaw.{done_below, done_at}
use Rattle.elementwise.specs.Elementwise.{is_zero}
use Rattle.lists.proofs.SearchLaw.{passed-next}
use native.Mathlib.Omega.{arith}
use Rattle.elementwise.proofs.division_into.Goals as goal

pub walk-preserved : goal.walk-preserved
walk-preserved c =
    let inv = c.loop-j.invariant in
    let walk = c.walk.invariant in
    let pre = c.requires in (
      inv.0,
      (
        done_below _ c.walk-test.true (rw (done_at 0 (omega arith) inv.1.0, done_at 1 (omega arith) inv.1.0) at c.divide_slots.ensures) walk.1.0,
        passed-next is_zero _ _ (omega (arith, pre.1.sized)) (inv.1.1 (omega arith)) walk.1.1,
      ),
    )

pub returns-then-is_zero_divisor : goal.returns-then-is_zero_divisor
returns-then-is_zero_divisor c =
    let start = c in
    let walk = c.walk in
    let read = c.operand_at-v in
    zero-at start.requires.1.sized walk.k c.walk-test.true
    (zero-here start.args.x.now start.args.y.now walk.k c.loop-j.j read.result read.ensures c.if-is_zero_divisor.true c.is_zero_divisor.ensures)
    walk.invariant.1.1 walk.invariant.1.0
