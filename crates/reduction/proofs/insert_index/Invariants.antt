use Prim.Native.Nat.{◌≤◌}
use mathlib.Core.Path.{◌≡◌}
use mathlib.Core.List.{◌++◌}
use lib.ListN.{take, drop, replicate}
use Rattle.lists.specs.Lists.{tab}
use Rattle.shape.specs.Index.{at}
use Rattle.shape.specs.Place.{is_in, count_below}
use Rattle.reduction.specs.Rows.{inserted}
use Rattle.reduction.proofs.insert_index.Given as goal

abbrev pub invariant-loop-d : goal.invariant-loop-d
invariant-loop-d l =
    (l.d ≤ l.rank) × (l.n ≤ l.d) × (l.n ≡ count_below (is_in (take l.count l.dimensions)) l.d) × (l.index ≡ tab l.d (inserted (take l.count l.dimensions) (at l.j) (at l.r)) ++ drop l.d (replicate 6 0))
