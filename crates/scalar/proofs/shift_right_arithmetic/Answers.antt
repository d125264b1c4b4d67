use Rattle.std.proofs.Common.{sym, ◌∙◌}
use Rattle.scalar.proofs.Shift.{sra-low, sra-low-out, sra-plain, sra-plain-out}
use Rattle.scalar.proofs.shift_right_arithmetic.Goals as goal

pub returns-then-is_within : goal.returns-then-is_within
returns-then-is_within c = sra-low c.args.t c.ranges.a.fits (sym c.is_negative.ensures ∙ c.if-is_negative.true) (rw c.width.ensures at c.if-is_within.true)

pub returns-else-is_within : goal.returns-else-is_within
returns-else-is_within c = sra-low-out c.args.t c.ranges.a.fits (sym c.is_negative.ensures ∙ c.if-is_negative.true) (rw c.width.ensures at c.if-is_within.false)

pub returns-then-is_within-2 : goal.returns-then-is_within-2
returns-then-is_within-2 c = sra-plain c.args.t c.ranges.a.fits (sym c.is_negative.ensures ∙ c.if-is_negative.false) (rw c.width.ensures at c.if-is_within-2.true)

pub returns-else-is_within-2 : goal.returns-else-is_within-2
returns-else-is_within-2 c = sra-plain-out c.args.t c.ranges.a.fits (sym c.is_negative.ensures ∙ c.if-is_negative.false) (rw c.width.ensures at c.if-is_within-2.false)
