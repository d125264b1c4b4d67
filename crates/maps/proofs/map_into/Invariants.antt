use Prim.Native.Nat.{◌≤◌}
use mathlib.Core.Path.{◌≡◌}
use mathlib.Core.List.{◌++◌}
use lib.ListN.{drop, length}
use Rattle.lists.specs.Lists.{tab}
use Rattle.shape.specs.Index.{unravel}
use Rattle.shape.specs.Dims.{dims_of}
use Rattle.maps.specs.Kinds.{mapped_at}
use Rattle.maps.proofs.map_into.Given as goal

abbrev pub invariant-loop-k : goal.invariant-loop-k
invariant-loop-k l = (l.k ≤ length l.initial.out) × (l.out ≡ tab l.k (λ j. mapped_at l.m (dims_of l.from) l.x l.z (unravel (dims_of l.to) j)) ++ drop l.k l.initial.out)
