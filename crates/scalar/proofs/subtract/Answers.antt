use Rattle.std.proofs.Common.{sym, ◌∙◌, ◌+◌, ◌-◌, ◌%◌, ◌^◌, arith}
use Rattle.scalar.specs.Ops.{subtract_of}
use Rattle.element.proofs.Slots.{difference-slot}
use Rattle.scalar.proofs.subtract.Goals as goal

pub returns : goal.returns
unfolding subtract_of
returns c =
    let s = c in
    c.fit.ensures ∙ sym (difference-slot s.args.t ((s.args.a + (2 ^ 64 - s.args.b)) % 2 ^ 64) s.ranges.a.fits s.ranges.b.fits (omega (arith, s.ranges.a.fits, s.ranges.b.fits)))
