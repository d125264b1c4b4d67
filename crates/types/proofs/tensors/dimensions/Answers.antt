use Rattle.std.proofs.Common.{arith, min, get_or}
use Rattle.std.proofs.lemmas.List.FromFn.{fill_by_all}
use Rattle.types.specs.Tensors.{dimensions_from}
use Rattle.types.proofs.tensors.dimensions.Goals as goal

pub returns : goal.returns
returns c = fill_by_all (λ k. min (get_or (dimensions_from 0 c.args.bytes.now) k 0) 4097) c.loop-k.d-items 6 0 c.loop-k-test.array_long (λ k h. c.loop-k.invariant k (omega arith))
