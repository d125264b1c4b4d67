use Rattle.std.proofs.Common.{◌≡◌, ℕ, ◌<◌, min, get_or}
use Rattle.types.specs.Tensors.{dimensions_from}
use Rattle.types.proofs.tensors.dimensions.Given as goal

abbrev pub invariant-loop-k : goal.invariant-loop-k
invariant-loop-k l = (k : ℕ) → k < l.k → get_or l.d-items k 0 ≡ min (get_or (dimensions_from 0 l.bytes) k 0) 4097
