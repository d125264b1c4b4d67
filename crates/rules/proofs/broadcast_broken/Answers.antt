use mathlib.Core.Path.{◌≡◌}
use Prim.Native.Nat.{◌≤◌}
use native.Mathlib.Omega.{arith}
use lib.ListN.{length}
use Rattle.rule_laws.proofs.Tests.{broadcast_tests}
use Rattle.rule_laws.proofs.BroadcastLaw.{same-broadcast}
use borrow.Author.Rules.{rules}
use Rattle.rules.proofs.broadcast_broken.Goals as goal

pub returns : goal.returns
unfolding broadcast_tests
returns c =
    let a = c.args in
    let g = c.well_formed.1.0 in
    let six : length a.dimensions.list ≡ 6 = search rules in
    let few : a.dimensions.count ≤ length a.dimensions.list = omega (arith, six, c.requires.1) in
    rw (same-broadcast a.x a.dimensions a.r few) (simp (c.first_broken.ensures, c.all_dims-c5.ensures, c.all_dims-c4.ensures, c.all_dims-c3.ensures, c.same_element-c1.ensures, c.sides_of-s.ensures))
