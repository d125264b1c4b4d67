use Rattle.std.proofs.Common.{sym, ◌∙◌}
use Rattle.scalar.specs.Ops.{negate_of}
use Rattle.element.proofs.Slots.{negation-slot}
use Rattle.scalar.proofs.negate.Goals as goal

pub returns : goal.returns
unfolding negate_of
returns c =
    let s = c in
    c.fit.ensures ∙ sym (negation-slot s.args.t c.wrapping_neg.result s.ranges.a.fits c.wrapping_neg.ensures)
