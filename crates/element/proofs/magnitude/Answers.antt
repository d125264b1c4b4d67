use mathlib.Core.Path.{sym, ◌∙◌}
use Rattle.element.proofs.Held.{magnitude-negative, magnitude-plain}
use Rattle.element.proofs.magnitude.Goals as goal

pub returns-then-is_negative : goal.returns-then-is_negative
returns-then-is_negative c =
    magnitude-negative c.args.t (sym c.is_negative.ensures ∙ c.if-is_negative.true) c.ranges.s.fits c.wrapping_neg.type_inv c.wrapping_neg.ensures

pub returns-else-is_negative : goal.returns-else-is_negative
returns-else-is_negative c = magnitude-plain c.args.t (sym c.is_negative.ensures ∙ c.if-is_negative.false)
