use Rattle.std.proofs.Common.{refl, sym, ◌∙◌}
use Rattle.types.specs.Numbers.{magnitude_of, negative_at, decimal_of, decimal_number}
use Rattle.types.proofs.DigitLaw.{of_negative, of-big, of-small, big-number}
use Rattle.types.proofs.numbers.number_in.Goals as goal

pub returns-in_err-magnitude : goal.returns-in_err-magnitude
unfolding decimal_of decimal_number
returns-in_err-magnitude c =
    let n = negative_at c.args.text.now c.args.start in
    let m = magnitude_of c.args.text.now c.args.start in
    let e = rw c.in_err-magnitude.was at c.decimal_at-d.ensures in
    rw c.from_residual.ensures (sym (big-number _ n m (of-big n m e refl)))

pub returns-then-d : goal.returns-then-d
unfolding decimal_of decimal_number
returns-then-d c =
    let n = negative_at c.args.text.now c.args.start in
    let m = magnitude_of c.args.text.now c.args.start in
    let e = rw c.in_ok-magnitude.was at c.decimal_at-d.ensures in
    c.negated.ensures ∙ rw (of-small n m e refl, ← of_negative n m e, c.if-d.true)

pub returns-else-d : goal.returns-else-d
unfolding decimal_of decimal_number
returns-else-d c =
    let n = negative_at c.args.text.now c.args.start in
    let m = magnitude_of c.args.text.now c.args.start in
    let e = rw c.in_ok-magnitude.was at c.decimal_at-d.ensures in
    c.at_least_zero.ensures ∙ rw (of-small n m e refl, ← of_negative n m e, c.if-d.false)
