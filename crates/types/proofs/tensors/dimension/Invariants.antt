use Rattle.std.proofs.Common.{◌≡◌, ◌≤◌, get_or, drop}
use Rattle.types.proofs.ShapeLaw.{capped_from}
use Rattle.types.proofs.tensors.dimension.Given as goal

abbrev pub invariant-loop-b : goal.invariant-loop-b
invariant-loop-b l = (l.v ≤ 4097) × (get_or (capped_from l.v (drop l.b-index l.bytes)) l.left 0 ≡ get_or (capped_from 0 l.bytes) l.k 0)
