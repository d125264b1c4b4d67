use Prim.Native.Nat.{◌≤◌}
use mathlib.Core.Path.{◌≡◌}
use mathlib.Core.List.{◌++◌}
use lib.ListN.{drop, length}
use lib.IntN.{pos}
use Rattle.lists.specs.Lists.{tab}
use Rattle.element.specs.Types.{wrap_to}
use Rattle.shape.specs.Index.{at, unravel}
use Rattle.shape.specs.Dims.{dims_of}
use Rattle.maps.proofs.iota.Given as goal

abbrev pub invariant-loop-k : goal.invariant-loop-k
invariant-loop-k l = (l.k ≤ length l.initial.out) × (l.out ≡ tab l.k (λ j. wrap_to l.t (pos (at (unravel (dims_of l.to) j) l.dimension))) ++ drop l.k l.initial.out)
