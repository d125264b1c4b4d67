use Rattle.scan.proofs.ByteLaw.{test-inside}
use Rattle.scan.specs.Bytes.{is_sign}
use native.Mathlib.Omega.{arith}
use mathlib.Core.Path.{refl}
use Rattle.scan.specs.Quantized.{sign_end}
use Rattle.scan.proofs.quantized.sign_end.Goals as goal

pub overflow_add-result : goal.overflow_add-result
unfolding is_sign
overflow_add-result c = omega (arith, test-inside is_sign c.args.text.now c.args.at refl (rw (← c.byte_at.ensures, ← c.is_sign.ensures) c.if-is_sign.true))

pub returns-then-is_sign : goal.returns-then-is_sign
unfolding sign_end
returns-then-is_sign c = simp (← c.byte_at.ensures, ← c.is_sign.ensures, c.if-is_sign.true)

pub returns-else-is_sign : goal.returns-else-is_sign
unfolding sign_end
returns-else-is_sign c = simp (← c.byte_at.ensures, ← c.is_sign.ensures, c.if-is_sign.false)
