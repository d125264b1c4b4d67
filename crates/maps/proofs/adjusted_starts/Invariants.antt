use Prim.Native.Nat.{◌≤◌}
use mathlib.Core.Path.{◌≡◌}
use mathlib.Core.List.{◌++◌}
use lib.ListN.{drop, replicate}
use Rattle.lists.specs.Lists.{tab}
use Rattle.maps.specs.Formulas.{adjusted_start}
use Rattle.maps.proofs.adjusted_starts.Given as goal

abbrev pub invariant-loop-d : goal.invariant-loop-d
invariant-loop-d l = (l.d ≤ l.from.rank) × (l.adjusted ≡ tab l.d (adjusted_start l.t l.starts l.from.dims l.to.dims) ++ drop l.d (replicate 6 0))
