use Rattle.scan.proofs.ByteLaw.{byte_inside}
use borrow.Author.Tests.{eq-eqb, ne_eqb}
use native.Mathlib.Omega.{arith}
use Rattle.scan.specs.Quantized.{colon_end}
use Rattle.scan.proofs.quantized.colon_end.Goals as goal

pub overflow_add-at : goal.overflow_add-at
overflow_add-at c = omega (arith, byte_inside c.args.text.now c.args.at c.byte_at.ensures c.if-byte_at-eq58.true (omega arith))

pub returns-then-byte_at-eq58 : goal.returns-then-byte_at-eq58
unfolding colon_end
returns-then-byte_at-eq58 c = simp (← c.byte_at.ensures, eq-eqb _ _ c.if-byte_at-eq58.true, ← c.integer_end.ensures)

pub returns-else-byte_at-eq58 : goal.returns-else-byte_at-eq58
unfolding colon_end
returns-else-byte_at-eq58 c = simp (← c.byte_at.ensures, ne_eqb _ _ c.if-byte_at-eq58.false)
