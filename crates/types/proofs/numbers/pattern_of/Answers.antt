use mathlib.Core.Path.{sym, ap, ◌∙◌}
use lib.IntN.{pos}
use Rattle.shape.proofs.WholeLaw.{pattern-pos}
use Rattle.types.specs.Numbers.{fitting}
use Rattle.types.proofs.DigitLaw.{pattern-fits, pattern-unfit}
use Rattle.types.proofs.numbers.pattern_of.Goals as goal

pub returns-then-n-lt9223372036854775808 : goal.returns-then-n-lt9223372036854775808
returns-then-n-lt9223372036854775808 c = let n = c.args.n in sym (pattern-fits (pos n) c.if-n-lt9223372036854775808.true ∙ ap fitting (pattern-pos n c.if-n-lt9223372036854775808.true))

pub returns-else-n-lt9223372036854775808 : goal.returns-else-n-lt9223372036854775808
returns-else-n-lt9223372036854775808 c = sym (pattern-unfit (pos c.args.n) c.if-n-lt9223372036854775808.false)
