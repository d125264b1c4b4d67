use mathlib.Core.Path.{sym, ◌∙◌}
use Rattle.element.proofs.Signed.{negative-is}
use Rattle.element.proofs.is_negative.Goals as goal

pub returns-then-is_signed : goal.returns-then-is_signed
returns-then-is_signed c = sym (negative-is c.args.t c.args.a ∙ simp (sym c.is_signed.ensures ∙ c.if-is_signed.true))

pub returns-else-is_signed : goal.returns-else-is_signed
returns-else-is_signed c = c.if-is_signed.false ∙ sym (negative-is c.args.t c.args.a ∙ simp (sym c.is_signed.ensures ∙ c.if-is_signed.false))
