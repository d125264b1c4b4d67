use Prim.Native.Nat.{ℕ}
use mathlib.Core.Path.{◌∙◌, ap}
use mathlib.Core.List.{List}
use lib.ListN.{take}
use Rattle.run.specs.Tree.{fold}
use Rattle.scalar.specs.Body.{body_of}
use Rattle.shape.specs.Index.{at, unravel}
use Rattle.shape.specs.Dims.{dims_of}
use Rattle.shape.proofs.IndexLaw.{at-six}
use Rattle.reduction.specs.Rows.{slice_shape, row_over}
use Rattle.reduction.proofs.SliceLaw.{dims-from, slice-sized}
use Rattle.reduction.proofs.reduced_at.Goals as goal

pub fold_row-requires : goal.fold_row-requires
fold_row-requires c =
    let s = c in
    (s.requires.0, s.requires.2, s.requires.3, rw c.slice_shape-inner.ensures (slice-sized s.args.from (take s.args.count s.args.dimensions) s.requires.0))

pub returns : goal.returns
returns c =
    let a = c.args in
    let from = dims_of a.from in
    let d = take a.count a.dimensions in
    c.fold_row.ensures
    ∙ ap (λ (s : List ℕ). fold (body_of a.b a.t) a.start (row_over d from a.x.now s (at c.index_at-j.result))) (ap dims_of c.slice_shape-inner.ensures ∙ dims-from (slice_shape d from))
    ∙ ap (λ (j : ℕ → ℕ). fold (body_of a.b a.t) a.start (row_over d from a.x.now (slice_shape d from) j)) (ap at c.index_at-j.ensures ∙ at-six (unravel (dims_of a.to) a.k))
