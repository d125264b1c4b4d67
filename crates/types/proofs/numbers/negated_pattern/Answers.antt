use Rattle.std.proofs.Common.{arith, sym, ◌-◌}
use lib.IntN.{negsuc}
use Rattle.types.proofs.DigitLaw.{pattern-unfit, negated-pattern, negated-suc}
use Rattle.types.proofs.numbers.negated_pattern.Goals as goal

pub returns-then-m-le9223372036854775808 : goal.returns-then-m-le9223372036854775808
returns-then-m-le9223372036854775808 c = sym (negated-pattern c.args.m c.wrapping_neg.result c.if-m-le9223372036854775808.true (omega arith) c.wrapping_neg.ensures)

pub returns-else-m-le9223372036854775808 : goal.returns-else-m-le9223372036854775808
returns-else-m-le9223372036854775808 c = let m = c.args.m in rw (negated-suc m (omega arith)) (sym (pattern-unfit (negsuc (m - 1)) (omega arith)))
