use mathlib.Core.Path.{◌∙◌}
use native.Mathlib.Omega.{arith}
use lib.ListN.{take}
use Rattle.shape.specs.Dims.{dims_of}
use Rattle.shape.specs.Index.{at}
use Rattle.shape.proofs.IndexLaw.{dim-le-volume}
use Rattle.maps.proofs.AttributeLaw.{dims-le, slice-index-take, slice-take}
use Rattle.maps.proofs.SliceLaw.{slice-below}
use Rattle.maps.proofs.slice.Goals as goal

pub map_into-requires : goal.map_into-requires
map_into-requires c =
    let a = c.args in
    let p = c.requires in
    let n = a.from.rank in
    let from = dims_of a.from in (
      record {
        from-sized = p.0.from-sized;
        to-sized = p.0.to-sized;
        count = omega arith;
        operand = p.0.operand;
        ready = λ i w d h.
            omega (
              arith,
              slice-index-take n from (dims_of a.to) a.x.now (dims-le n a.from.dims) a.start a.strides (at i) d h,
              slice-below (take n a.start) (take n a.limit) (take n a.strides) from (dims_of a.to) i p.1 w d h,
              dim-le-volume from d h,
              p.0.from-sized.volume,
            );
      },
      p.0.result,
    )

pub returns : goal.returns
returns c =
    let a = c.args in
    c.map_into.ensures ∙ slice-take a.from.rank (dims_of a.from) (dims_of a.to) a.x.now (dims-le a.from.rank a.from.dims) a.start a.strides
