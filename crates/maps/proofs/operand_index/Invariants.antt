use Prim.Native.Nat.{◌≤◌}
use mathlib.Core.Path.{◌≡◌}
use mathlib.Core.List.{◌++◌}
use lib.ListN.{drop, get_or, replicate}
use Rattle.lists.specs.Lists.{tab}
use Rattle.shape.specs.Index.{at}
use Rattle.maps.specs.Kinds.{coord_of}
use Rattle.maps.proofs.operand_index.Given as goal

abbrev pub invariant-loop-d : goal.invariant-loop-d
invariant-loop-d l = (l.d ≤ l.from.rank) × (l.operand ≡ tab l.d (λ j. coord_of l.m (get_or l.from.dims j 0) (at l.index) j) ++ drop l.d (replicate 6 0))
