use Rattle.types.proofs.DigitLaw.{above, fits-pos}
use Rattle.types.specs.Numbers.{fitting}
use mathlib.Core.Path.{sym, ap, ◌∙◌}
use Rattle.types.proofs.numbers.at_least_zero.Goals as goal

pub returns-then-n-highest : goal.returns-then-n-highest
returns-then-n-highest c = ap fitting c.slot_for.ensures ∙ sym (fits-pos _ _ (rw (← c.highest.ensures) c.if-n-highest.true))

pub returns-else-n-highest : goal.returns-else-n-highest
returns-else-n-highest c = sym (above _ _ (rw (← c.highest.ensures) c.if-n-highest.false))
