use Rattle.scan.proofs.ByteLaw.{byte_inside}
use borrow.Author.Tests.{eq-eqb, ne_eqb}
use native.Mathlib.Omega.{arith}
use Rattle.scan.specs.Quantized.{parameters_end}
use Rattle.scan.proofs.quantized.parameters_end.Goals as goal

pub overflow_add-at : goal.overflow_add-at
overflow_add-at c = omega (arith, byte_inside c.args.text.now c.args.at c.byte_at.ensures c.if-byte_at-eq123.true (omega arith))

pub returns-then-byte_at-eq123 : goal.returns-then-byte_at-eq123
unfolding parameters_end
returns-then-byte_at-eq123 c = simp (← c.byte_at.ensures, eq-eqb _ _ c.if-byte_at-eq123.true, ← c.parameter_end.ensures, ← c.more_end.ensures, ← c.byte_end.ensures)

pub returns-else-byte_at-eq123 : goal.returns-else-byte_at-eq123
unfolding parameters_end
returns-else-byte_at-eq123 c = simp (← c.byte_at.ensures, ne_eqb _ _ c.if-byte_at-eq123.false, ← c.parameter_end-else-byte_at-eq123.ensures)
