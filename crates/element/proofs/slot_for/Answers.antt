use Rattle.element.proofs.Held.{slot-plus, slot-minus}
use Rattle.element.proofs.slot_for.Goals as goal

pub returns-then-negative : goal.returns-then-negative
returns-then-negative c = rw c.if-negative.true (slot-minus c.args.t c.args.m c.ranges.m.fits c.wrapping_neg.type_inv c.wrapping_neg.ensures)

pub returns-else-negative : goal.returns-else-negative
returns-else-negative c = let a = c in rw c.if-negative.false (slot-plus a.args.t a.args.m a.ranges.m.fits)
