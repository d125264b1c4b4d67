use Rattle.scan.proofs.ByteLaw.{byte_inside}
use borrow.Author.Tests.{eq-eqb, ne_eqb}
use native.Mathlib.Omega.{arith}
use Rattle.scan.specs.Quantized.{fraction_end}
use Rattle.scan.proofs.quantized.fraction_end.Goals as goal

pub overflow_add-at : goal.overflow_add-at
overflow_add-at c = omega (arith, byte_inside c.args.text.now c.args.at c.byte_at.ensures c.if-byte_at-eq46.true (omega arith))

pub returns-then-byte_at-eq46 : goal.returns-then-byte_at-eq46
unfolding fraction_end
returns-then-byte_at-eq46 c = simp (← c.byte_at.ensures, eq-eqb _ _ c.if-byte_at-eq46.true, ← c.run_end.ensures)

pub returns-else-byte_at-eq46 : goal.returns-else-byte_at-eq46
unfolding fraction_end
returns-else-byte_at-eq46 c = simp (← c.byte_at.ensures, ne_eqb _ _ c.if-byte_at-eq46.false)
