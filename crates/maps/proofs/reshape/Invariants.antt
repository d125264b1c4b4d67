use Prim.Native.Nat.{◌≤◌}
use mathlib.Core.Path.{◌≡◌}
use mathlib.Core.List.{◌++◌}
use lib.ListN.{drop, length}
use Rattle.lists.specs.Lists.{tab}
use Rattle.shape.specs.Index.{at}
use Rattle.maps.proofs.reshape.Given as goal

abbrev pub invariant-loop-k : goal.invariant-loop-k
invariant-loop-k l = (l.k ≤ length l.initial.out) × (l.out ≡ tab l.k (at l.x) ++ drop l.k l.initial.out)
