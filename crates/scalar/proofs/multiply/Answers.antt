use Rattle.std.proofs.Common.{sym, ◌∙◌}
use Rattle.scalar.specs.Ops.{multiply_of}
use Rattle.element.proofs.Slots.{product-slot}
use Rattle.scalar.proofs.multiply.Goals as goal

pub returns-then-is_bool : goal.returns-then-is_bool
unfolding multiply_of
returns-then-is_bool c = simp (sym c.is_bool.ensures ∙ c.if-is_bool.true)

pub returns-else-is_bool : goal.returns-else-is_bool
unfolding multiply_of
returns-else-is_bool c =
    let s = c in
    simp (sym c.is_bool.ensures ∙ c.if-is_bool.false)
    (c.fit.ensures ∙ sym (product-slot s.args.t s.ranges.a.fits s.ranges.b.fits))
