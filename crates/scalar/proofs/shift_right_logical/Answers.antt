use Rattle.std.proofs.Common.{◌∙◌, arith}
use Rattle.element.proofs.Slots.{sized}
use Rattle.scalar.proofs.Shift.{srl-in, srl-out}
use Rattle.scalar.proofs.shift_right_logical.Goals as goal

pub overflow_shr-a : goal.overflow_shr-a
overflow_shr-a c = omega (arith, c.width.ensures, (sized c.args.t).most)

pub returns-then-b-width : goal.returns-then-b-width
returns-then-b-width c =
    let s = c in
    c.fit.ensures ∙ rw c.mask.ensures (srl-in s.args.t s.ranges.a.fits (rw c.width.ensures at c.if-b-width.true))

pub returns-else-b-width : goal.returns-else-b-width
returns-else-b-width c =
    let s = c in
    srl-out s.args.t s.ranges.a.fits (rw c.width.ensures at c.if-b-width.false)
