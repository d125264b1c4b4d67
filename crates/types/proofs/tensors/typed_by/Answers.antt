use Rattle.types.proofs.ShapeLaw.{rank-count, passed-same}
use Rattle.types.specs.Tensors.{dimensions_from, typed}
use Rattle.types.proofs.tensors.typed_by.Goals as goal

pub returns : goal.returns
unfolding typed
returns c = let s = c.args.bytes.now in rw (c.size_passed.ensures, c.dimensions.ensures, c.rank_of.ensures, rank-count s 0, passed-same (dimensions_from 0 s))
