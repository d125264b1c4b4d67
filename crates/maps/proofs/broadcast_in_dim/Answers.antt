use mathlib.Core.Path.{◌∙◌}
use Rattle.shape.specs.Dims.{dims_of}
use Rattle.maps.proofs.AttributeLaw.{dims-le, broadcast-take}
use Rattle.maps.proofs.broadcast_in_dim.Goals as goal

pub returns : goal.returns
returns c =
    let a = c.args in
    c.map_into.ensures ∙ broadcast-take a.from.rank (dims_of a.from) (dims_of a.to) a.x.now (dims-le a.from.rank a.from.dims) a.dimensions
