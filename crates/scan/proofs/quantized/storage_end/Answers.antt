use Rattle.scan.proofs.ByteLaw.{byte_inside}
use borrow.Author.Tests.{eq-eqb, ne_eqb}
use native.Mathlib.Omega.{arith}
use Rattle.scan.specs.Quantized.{storage_end}
use Rattle.scan.proofs.quantized.storage_end.Goals as goal

pub overflow_add-at : goal.overflow_add-at
overflow_add-at c = omega (arith, byte_inside c.args.text.now c.args.at c.byte_at.ensures c.if-byte_at-eq60.true (omega arith))

pub returns-then-byte_at-eq60 : goal.returns-then-byte_at-eq60
unfolding storage_end
returns-then-byte_at-eq60 c = simp (← c.byte_at.ensures, eq-eqb _ _ c.if-byte_at-eq60.true, ← c.integer_end.ensures, ← c.byte_end-colon.ensures, ← c.integer_end-then-byte_at-eq60.ensures, ← c.byte_end.ensures)

pub returns-else-byte_at-eq60 : goal.returns-else-byte_at-eq60
unfolding storage_end
returns-else-byte_at-eq60 c = simp (← c.byte_at.ensures, ne_eqb _ _ c.if-byte_at-eq60.false)
