use Prim.Native.Nat.{ℕ}
use mathlib.Core.Path.{◌≡◌, ◌∙◌, sym, ap}
use mathlib.Core.List.{List}
use native.Mathlib.Omega.{arith}
use lib.ListN.{length, take, drop, replicate}
use lib.Seq.{length-take-le}
use Rattle.lists.specs.Lists.{tab}
use Rattle.lists.proofs.TabLaw.{length-tab}
use Rattle.shape.specs.Index.{at, unravel, element_at, in_six}
use Rattle.shape.specs.Dims.{dims_of}
use Rattle.shape.proofs.IndexLaw.{at-six}
use Rattle.shape.proofs.ElementLaw.{element_at-front}
use Rattle.reduction.specs.Rows.{inserted}
use borrow.Author.Rules.{rules}
use Rattle.reduction.proofs.row_element.Goals as goal

pub returns : goal.returns
returns c =
    let s = c in
    let a = s.args in
    let six : length a.from.dims ≡ 6 = search rules in
    let from = dims_of a.from in
    let d = take a.count a.dimensions in
    let ranked : a.from.rank ≡ length from = sym (length-take-le a.from.rank a.from.dims (omega (arith, s.requires.0.rank))) in
    let seen : at c.index_at-r.result ≡ at (unravel (dims_of a.inner) a.q) = ap at c.index_at-r.ensures ∙ at-six (unravel (dims_of a.inner) a.q) in
    let u : List ℕ = tab (length from) (inserted d (at a.j) (at c.index_at-r.result)) in
    c.element_at.ensures
    ∙ ap (λ (i : List ℕ). element_at a.x.now from i 0) c.insert_index-i.ensures
    ∙ ap (λ (n : ℕ). element_at a.x.now from (in_six (tab n (inserted d (at a.j) (at c.index_at-r.result)))) 0) ranked
    ∙ element_at-front a.x.now from u (drop (length u) (replicate 6 0)) 0 (length-tab (length from) _)
    ∙ ap (λ (r : ℕ → ℕ). element_at a.x.now from (tab (length from) (inserted d (at a.j) r)) 0) seen
