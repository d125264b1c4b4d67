use Prim.Native.Nat.{ℕ}
use mathlib.Core.Path.{◌≡◌, ◌∙◌, sym, ap, subst}
use mathlib.Core.List.{List}
use native.Mathlib.Omega.{arith}
use lib.ListN.{length, drop, replicate}
use Rattle.lists.specs.Lists.{All}
use Rattle.shape.specs.Index.{at, unravel, in_six}
use Rattle.shape.specs.Dims.{dims_of}
use Rattle.shape.proofs.IndexLaw.{length-unravel, at-six}
use Rattle.maps.specs.Concatenation.{concat_from, concat_at, shapes_of, inputs_in}
use Rattle.maps.proofs.AttributeLaw.{dims-le}
use Rattle.maps.proofs.ConcatLaw.{concat-front}
use Rattle.maps.proofs.concat_at.Goals as goal

pub concat_element-requires : goal.concat_element-requires
concat_element-requires c =
    let a = c in
    (omega (arith, dims-le a.args.to.rank a.args.to.dims, a.requires.0.rank, a.requires.2.along), a.requires.1)

pub returns : goal.returns
returns c =
    let a = c.args in
    let p = c.requires in
    let u : List ℕ = unravel (dims_of a.to) a.k in
    let shapes = shapes_of a.shapes a.count in
    let inputs = inputs_in a.x.now a.shapes a.places a.count in
    let lu : length u ≡ length (dims_of a.to) = length-unravel (dims_of a.to) a.k in
    c.concat_element.ensures
    ∙ ap (concat_at a.dimension shapes inputs) c.index_at-i.ensures
    ∙ concat-front a.dimension u (drop (length u) (replicate 6 0)) shapes inputs (at (in_six u) a.dimension) (omega (arith, p.2.along))
    (subst (λ (n : ℕ). All (λ s. length s ≡ n) shapes) (sym lu) p.2.ranks)
    ∙ ap (λ (f : ℕ → ℕ). concat_from a.dimension u shapes inputs (f a.dimension)) (at-six u)
