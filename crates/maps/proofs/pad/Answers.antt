use Prim.Native.Nat.{◌<◌}
use mathlib.Core.Path.{◌∙◌}
use native.Mathlib.Omega.{arith}
use lib.ListN.{length}
use Rattle.shape.specs.Dims.{dims_of}
use Rattle.shape.proofs.IndexLaw.{dim-le-volume}
use Rattle.maps.proofs.AttributeLaw.{dims-le, same, pad-take}
use Rattle.maps.proofs.pad.Goals as goal

pub map_into-requires : goal.map_into-requires
map_into-requires c =
    let a = c.args in
    let p = c.requires in
    let n = a.from.rank in
    let from = dims_of a.from in
    let to = dims_of a.to in (
      record {
        from-sized = p.0.from-sized;
        to-sized = p.0.to-sized;
        count = omega arith;
        operand = p.0.operand;
        ready = λ i w d h.
            let l : d < length to = omega (arith, p.1.rank) in (
              omega (arith, w d l, dim-le-volume to d l, p.0.to-sized.volume),
              omega (arith, same n from to a.x.now (dims-le n a.from.dims) a.interior d h, p.1.nonnegative d h),
            );
      },
      p.0.result,
    )

pub returns : goal.returns
returns c =
    let a = c.args in
    c.map_into.ensures ∙ pad-take a.from.rank (dims_of a.from) (dims_of a.to) a.x.now (dims-le a.from.rank a.from.dims) a.low a.interior a.z
