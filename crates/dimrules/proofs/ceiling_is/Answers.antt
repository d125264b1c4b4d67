use Rattle.dimrules.proofs.WholeLaw.{ceil-same}
use borrow.Author.Tests.{lt-ltb}
use mathlib.Core.Path.{◌≡◌}
use Prim.Native.Nat.{◌-◌}
use native.Mathlib.Omega.{arith}
use Rattle.dimrules.specs.Whole.{ceiling_is}
use Rattle.dimrules.proofs.ceiling_is.Goals as goal

pub returns-then-stride-ne0 : goal.returns-then-stride-ne0
unfolding ceiling_is
returns-then-stride-ne0 c =
    let a = c.args in
    simp (lt-ltb 0 a.stride (omega arith), c.div_ceil.ensures, c.saturating_sub.ensures, ceil-same (a.l - a.s) a.stride (omega arith))

pub returns-else-stride-ne0 : goal.returns-else-stride-ne0
unfolding ceiling_is
returns-else-stride-ne0 c =
    let e : c.args.stride ≡ 0 = omega arith in
    simp e
