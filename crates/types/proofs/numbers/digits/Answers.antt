use Rattle.std.proofs.Common.{arith, false, sym, ◌∙◌, ◌≡◌, ◌+◌, ◌-◌, ◌*◌, get_or}
use Rattle.types.proofs.DigitLaw.{digits-past, digits_step, digits-big, decimal-small, decimal-big}
use Rattle.types.proofs.numbers.digits.Goals as goal

pub returns-then-not-is_digit : goal.returns-then-not-is_digit
returns-then-not-is_digit c = rw (← c.tail-b-items.ensures, ← c.loop-b.invariant.1, digits_step _ _ _ c.loop-b-test.true) (simp (← c.is_digit.ensures, c.if-not-is_digit.true) (sym (decimal-small false _ c.loop-b.invariant.0)))

pub returns-in_err-checked_mul : goal.returns-in_err-checked_mul
returns-in_err-checked_mul c = rw (c.from_residual.ensures, ← c.tail-b-items.ensures)
    (sym (decimal-big false _ (digits-big c.tail-b-items.result.now c.loop-b.b-index c.loop-b.v _ c.loop-b-test.true (sym c.is_digit.ensures ∙ c.if-not-is_digit.false) (omega (arith, c.in_err-checked_mul.ensures)) c.loop-b.invariant.1)))

pub returns-in_err-v : goal.returns-in_err-v
returns-in_err-v c = rw (c.from_residual-in_err-v.ensures, ← c.tail-b-items.ensures)
    (sym (decimal-big false _ (digits-big c.tail-b-items.result.now c.loop-b.b-index c.loop-b.v _ c.loop-b-test.true (sym c.is_digit.ensures ∙ c.if-not-is_digit.false) (omega (arith, c.in_err-v.ensures, c.in_ok-checked_mul.ensures)) c.loop-b.invariant.1)))

pub loop-b-preserved : goal.loop-b-preserved
loop-b-preserved c =
    let e : c.in_ok-v.v ≡ c.loop-b.v * 10 + (get_or c.tail-b-items.result.now c.loop-b.b-index 0 - 48) = omega (arith, c.in_ok-v.ensures, c.in_ok-checked_mul.ensures) in
    (omega (arith, c.in_ok-v.ensures), rw (← c.loop-b.invariant.1, digits_step _ _ _ c.loop-b-test.true) (simp (← c.is_digit.ensures, c.if-not-is_digit.false, e)))

pub returns : goal.returns
returns c = rw (← c.tail-b-items.ensures, ← c.loop-b.invariant.1, digits-past _ _ _ c.loop-b-test.false) (sym (decimal-small false _ c.loop-b.invariant.0))
