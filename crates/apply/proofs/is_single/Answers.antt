use Rattle.apply.proofs.ApplyLaw.{single-is}
use mathlib.Core.Path.{◌≡◌}
use lib.ListN.{length}
use native.Mathlib.Omega.{arith}
use borrow.Author.Rules.{rules}
use Rattle.apply.proofs.is_single.Goals as goal

pub returns : goal.returns
returns c =
    let s = c.args.s in
    let six : length s.dims ≡ 6 = search rules in
    single-is s.rank s.dims (omega arith)
