use mathlib.Core.Path.{◌≡◌}
use native.Mathlib.Omega.{arith}
use lib.ListN.{length, take}
use lib.Seq.{length-take-le}
use lib.Dec.{eqb}
use borrow.Author.Rules.{rules}
use borrow.Author.Tests.{tests}
use Rattle.std.proofs.lemmas.Iterator.{YieldsList-from_slice}
use Rattle.std.proofs.lemmas.Iterator.Search.{position_from_yields_List}
use Rattle.std.specs.List.{position}
use Rattle.shape.proofs.PlaceLaw.{position-place}
use Rattle.shape.proofs.place_in.Goals as goal

pub returns-clause-place : goal.returns-clause-place
returns-clause-place c =
    let a = c.args in
    let six : length a.list ≡ 6 = search rules in
    let e : c.position.result ≡ position (λ y. eqb y a.x) (take a.count a.list) =
    position_from_yields_List (λ y. eqb y a.x) _ _ _ c.position.ensures.ran (YieldsList-from_slice _ c.iter.ensures.rest) (λ x b q k. search (rules, tests)) in
    position-place (λ y. eqb y a.x) (take a.count a.list) a.count (length-take-le a.count a.list (omega arith)) c.position.result e
