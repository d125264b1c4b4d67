use Rattle.std.proofs.Common.{sym, ◌∙◌}
use Rattle.scalar.specs.Ops.{sign_of}
use Rattle.std.specs.Prelude.{◌==◌}
use Rattle.scalar.proofs.Bytes.{not-byte}
use Rattle.scalar.proofs.sign.Goals as goal

pub returns-then-is_negative : goal.returns-then-is_negative
unfolding sign_of
returns-then-is_negative c = simp (sym c.is_negative.ensures ∙ c.if-is_negative.true)

pub returns-else-is_negative : goal.returns-else-is_negative
unfolding sign_of
returns-else-is_negative c = simp (sym c.is_negative.ensures ∙ c.if-is_negative.false) (c.from.ensures ∙ not-byte (c.args.a == 0))
