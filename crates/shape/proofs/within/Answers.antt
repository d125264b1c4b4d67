use mathlib.Core.Path.{◌≡◌, ◌∙◌}
use native.Mathlib.Omega.{arith}
use lib.ListN.{length, take, length-take}
use lib.Dec.{ltb}
use borrow.Author.Rules.{rules}
use borrow.Author.Tests.{tests}
use Rattle.std.proofs.lemmas.Iterator.{YieldsList-from_slice, YieldsList-from_zip}
use Rattle.std.proofs.lemmas.Iterator.Search.{all_from_yields_List}
use Prim.Native.Nat.{ℕ, min}
use Rattle.std.specs.List.{list_all, zip}
use Rattle.shape.specs.Dims.{dims_of}
use Rattle.shape.proofs.WithinLaw.{all-within}
use Rattle.shape.proofs.within.Goals as goal

pub returns : goal.returns
returns c =
    let a = c.args in
    let six : length a.index ≡ 6 = search rules in
    let few : length (take a.s.rank a.s.dims) ≡ min a.s.rank (length a.s.dims) = length-take a.s.rank a.s.dims in
    let e : c.all.result ≡ list_all (λ (p : ℕ × ℕ). ltb p.1 p.0) (zip (dims_of a.s) a.index) =
    all_from_yields_List (λ (p : ℕ × ℕ). ltb p.1 p.0) c.all.new.self _ _ c.all.ensures.ran
    (YieldsList-from_zip {s = c.zip.result} (YieldsList-from_slice (dims_of a.s) cc) (YieldsList-from_slice a.index cc)) (λ x b q k. search (rules, tests)) in
    e ∙ all-within (dims_of a.s) a.index (omega arith)
