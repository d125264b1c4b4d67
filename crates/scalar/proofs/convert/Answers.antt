use Rattle.std.proofs.Common.{sym, ◌∙◌}
use Rattle.scalar.specs.Ops.{convert_of}
use Rattle.element.proofs.Slots.{value-slot}
use Rattle.std.specs.Prelude.{◌==◌}
use Rattle.scalar.proofs.Bytes.{not-byte}
use Rattle.scalar.proofs.convert.Goals as goal

pub returns-then-is_bool : goal.returns-then-is_bool
unfolding convert_of
returns-then-is_bool c = simp (sym c.is_bool.ensures ∙ c.if-is_bool.true) (c.from.ensures ∙ not-byte (c.args.a == 0))

pub returns-else-is_bool : goal.returns-else-is_bool
unfolding convert_of
returns-else-is_bool c =
    let s = c in
    simp (sym c.is_bool.ensures ∙ c.if-is_bool.false)
    (c.fit.ensures ∙ sym (value-slot s.args.from s.args.to s.ranges.a.fits))
