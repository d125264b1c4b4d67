use mathlib.Core.Path.{sym, ap, ◌∙◌}
use Rattle.element.specs.Types.{slot_for}
use Rattle.types.specs.Numbers.{fitting}
use Rattle.types.proofs.DigitLaw.{below, fits-negsuc, unsigned-negsuc, negated-next}
use Rattle.types.proofs.numbers.below_zero.Goals as goal
use Rattle.types.proofs.numbers.below_zero.Goals.{else-is_signed-via-then-is_signed+else-n-highest, else-is_signed-via-else-is_signed}

pub returns-then-n-highest : goal.returns-then-n-highest
returns-then-n-highest c =
    let a = c.args in
    ap fitting (c.slot_for.ensures ∙ ap (slot_for a.t) (negated-next a.n))
    ∙ sym (fits-negsuc _ _ (sym c.is_signed.ensures ∙ c.if-is_signed.true)
    (rw (← c.highest.ensures) c.if-n-highest.true))

pub returns-else-is_signed : goal.returns-else-is_signed
returns-else-is_signed c = elim c.else-is_signed.branch [
  | else-is_signed-via-then-is_signed+else-n-highest w ↦ sym (below _ _ (rw (← w.highest.ensures) w.if-n-highest.false))
  | else-is_signed-via-else-is_signed w ↦ sym (unsigned-negsuc _ _ (sym c.is_signed.ensures ∙ w.if-is_signed.false))
]
