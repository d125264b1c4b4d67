use mathlib.Core.Path.{sym, ◌∙◌}
use Rattle.element.proofs.Slots.{fit-high-fits, fit-high, fit_low, fit-unsigned}
use Rattle.element.proofs.fit.Goals as goal
use Rattle.element.proofs.fit.Goals.{else-is_signed-via-then-is_signed+else-mask-low, else-is_signed-via-else-is_signed}

pub overflow_add-result : goal.overflow_add-result
overflow_add-result c = record { fits = fit-high-fits c.args.t c.ranges.x.fits c.mask-mask.ensures }

pub returns-then-mask-low : goal.returns-then-mask-low
returns-then-mask-low c = fit-high c.args.t c.ranges.x.fits c.mask-mask.ensures (sym c.is_signed.ensures ∙ c.if-is_signed.true) c.if-mask-low.true

pub returns-else-is_signed : goal.returns-else-is_signed
returns-else-is_signed c =
    let s = c in
    elim c.else-is_signed.branch [
      | else-is_signed-via-then-is_signed+else-mask-low w ↦ fit_low s.args.t s.ranges.x.fits s.mask-mask.ensures (sym s.is_signed.ensures ∙ w.if-is_signed.true) w.if-mask-low.false
      | else-is_signed-via-else-is_signed w ↦ fit-unsigned s.args.t s.ranges.x.fits s.mask-mask.ensures (sym s.is_signed.ensures ∙ w.if-is_signed.false)
    ]
