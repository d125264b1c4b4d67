use Rattle.std.proofs.Common.{arith, sym, ◌∙◌, ◌-◌, length}
use native.Mathlib.Numerals.{unary_clauses}
use borrow.Author.Tests.{eq-eqb, ne_eqb}
use Rattle.scan.proofs.ByteLaw.{byte_inside}
use Rattle.scan.proofs.TypeLaw.{more-past, more-step}
use Rattle.scan.proofs.quantized.more_end.Goals as goal

pub overflow_add-i : goal.overflow_add-i
overflow_add-i c = omega (arith, byte_inside c.args.text.now c.loop.i c.byte_at.ensures c.if-byte_at-ne44.false (omega arith))

pub loop-init : goal.loop-init
loop-init c = simp unary_clauses

pub returns-then-byte_at-ne44 : goal.returns-then-byte_at-ne44
returns-then-byte_at-ne44 c = rw (← c.loop.invariant, more-step (length c.args.text.now) c.loop.counter _ _ c.loop-test.true) (simp (← c.byte_at.ensures, ne_eqb _ _ c.if-byte_at-ne44.true))

pub loop-preserved : goal.loop-preserved
loop-preserved c = rw (← c.loop.invariant, more-step (length c.args.text.now) c.loop.counter _ _ c.loop-test.true) (simp (← c.byte_at.ensures, eq-eqb _ _ c.if-byte_at-ne44.false, ← c.parameter_end-i.ensures))

pub returns : goal.returns
returns c = sym (more-past (length c.args.text.now - c.loop.counter) _ _ (omega arith)) ∙ c.loop.invariant
