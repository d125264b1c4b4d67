use Rattle.std.proofs.Common.{◌∙◌, arith}
use Rattle.element.proofs.Slots.{sized}
use Rattle.scalar.proofs.Shift.{shl-in, shl-out}
use Rattle.scalar.proofs.shift_left.Goals as goal

pub overflow_shl-a : goal.overflow_shl-a
overflow_shl-a c = omega (arith, c.width.ensures, (sized c.args.t).most)

pub returns-then-b-width : goal.returns-then-b-width
returns-then-b-width c =
    let s = c in
    c.fit.ensures ∙ shl-in s.args.t s.ranges.a.fits (rw c.width.ensures at c.if-b-width.true)

pub returns-else-b-width : goal.returns-else-b-width
returns-else-b-width c =
    let s = c in
    shl-out s.args.t s.ranges.a.fits (rw c.width.ensures at c.if-b-width.false)
