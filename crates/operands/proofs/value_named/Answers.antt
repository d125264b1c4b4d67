use mathlib.Core.Path.{◌≡◌}
use native.Mathlib.Omega.{arith}
use lib.ListN.{length, take}
use borrow.Author.Rules.{rules}
use borrow.Author.Tests.{tests}
use Rattle.std.proofs.lemmas.Iterator.{YieldsList-from_slice}
use Rattle.std.proofs.lemmas.Iterator.Search.{position_from_yields_List}
use Rattle.std.specs.List.{position}
use Rattle.scope.specs.Scope.{same_at}
use Rattle.operands.proofs.OperandsLaw.{found}
use Rattle.operands.proofs.value_named.Goals as goal

pub returns-clause-place : goal.returns-clause-place
returns-clause-place c =
    let a = c.args in
    let long : length a.values.list ≡ 264 = search rules in
    let e : c.position.result ≡ position (λ v. same_at a.text.now v.name a.a) (take a.n a.values.list) =
    position_from_yields_List (λ v. same_at a.text.now v.name a.a) _ _ _ c.position.ensures.ran (YieldsList-from_slice _ c.iter.ensures.rest) (λ x b q k. search (rules, tests)) in
    found a.text.now a.values.list a.n a.a (omega arith) c.position.result e
