use mathlib.Core.Path.{refl}
use native.Mathlib.Omega.{arith}
use borrow.Author.Tests.{lt-ltb, le-ltb}
use Rattle.dimrules.proofs.split.Goals as goal

pub returns-then-w-lt9223372036854775808 : goal.returns-then-w-lt9223372036854775808
returns-then-w-lt9223372036854775808 c = simp (lt-ltb _ _ c.if-w-lt9223372036854775808.true) (refl, refl)

pub returns : goal.returns
returns c = simp (le-ltb _ _ c.if-w-lt9223372036854775808.false) (refl, omega arith)
