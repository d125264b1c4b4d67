use Prim.Native.Nat.{ℕ, ◌≤◌, ◌<◌, ◌^◌}
use mathlib.Core.Path.{◌∙◌, sym, ap, subst}
use mathlib.Core.List.{List}
use native.Mathlib.Omega.{arith}
use lib.ListN.{length, replicate}
use Rattle.shape.specs.Dims.{dims_of}
use Rattle.shape.specs.Index.{at}
use Rattle.shape.proofs.IndexLaw.{dim-le-volume}
use Rattle.maps.specs.Formulas.{slice_index, sliced}
use Rattle.maps.proofs.AttributeLaw.{dims-le}
use Rattle.maps.proofs.SliceLaw.{dynamic-below, adjusted-index, adjusted-sliced}
use Rattle.maps.proofs.dynamic_slice.Goals as goal

pub map_into-requires : goal.map_into-requires
map_into-requires c =
    let few_ : length (dims_of c.args.from) ≤ 6 = (omega (arith, dims-le c.args.from.rank c.args.from.dims, c.requires.0.from-sized.rank)) in
    let s = c in
    let a = s.args in
    let p = s.requires in
    let from = dims_of a.from in (
      record {
        from-sized = p.0.from-sized;
        to-sized = p.0.to-sized;
        count = omega arith;
        operand = p.0.operand;
        ready = λ i w d h.
            subst (λ (l : List ℕ). slice_index l (replicate 6 1) (at i) d < 2 ^ 64) (sym c.adjusted_starts-adjusted.ensures)
            (omega (
              arith,
              adjusted-index a.t a.starts from (dims_of a.to) (few_) (at i) d h,
              dynamic-below a.t a.starts from (dims_of a.to) i p.1 w d h,
              dim-le-volume from d h,
              p.0.from-sized.volume,
            ));
      },
      p.0.result,
    )

pub returns : goal.returns
returns c =
    let few_ : length (dims_of c.args.from) ≤ 6 = (omega (arith, dims-le c.args.from.rank c.args.from.dims, c.requires.0.from-sized.rank)) in
    let s = c in
    let a = s.args in
    c.map_into.ensures
    ∙ ap (λ (l : List ℕ). sliced l (replicate 6 1) (dims_of a.from) (dims_of a.to) a.x.now) c.adjusted_starts-adjusted.ensures
    ∙ adjusted-sliced a.t a.starts (dims_of a.from) (dims_of a.to) (few_) a.from.rank a.x.now (dims-le a.from.rank a.from.dims)
