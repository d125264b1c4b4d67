use native.Mathlib.Omega.{arith}
use Rattle.printed.proofs.PrintLaw.{print-none, print-last, print-more}
use Rattle.printed.proofs.+put_digits.Goals as goal

pub returns-then-most-eq0 : goal.returns-then-most-eq0
returns-then-most-eq0 t c = print-none _ _ _ c.if-most-eq0.true

pub returns-then-n-lt10 : goal.returns-then-n-lt10
returns-then-n-lt10 t c = print-last _ _ c.if-most-eq0.false _ _ _ c.if-n-lt10.true c.digit.ensures c.put.ensures

pub put_digits-p-requires : goal.put_digits-p-requires
put_digits-p-requires t c = let ne = c.if-most-eq0.false in omega (arith, c.requires)

pub returns-else-n-lt10 : goal.returns-else-n-lt10
returns-else-n-lt10 t c = print-more _ _ c.if-most-eq0.false _ _ _ _ c.if-n-lt10.false c.digit-else-n-lt10.ensures c.put_digits-p.ensures c.put-else-n-lt10.ensures
