use Prim.Native.Nat.{◌≤◌}
use mathlib.Core.Path.{◌≡◌}
use mathlib.Core.List.{◌++◌}
use lib.ListN.{drop}
use Rattle.lists.specs.Lists.{tab}
use Rattle.dimrules.specs.Types.{type_at}
use Rattle.doing.proofs.shapes_of.Given as goal

abbrev pub invariant-loop-j : goal.invariant-loop-j
invariant-loop-j l = (l.j ≤ 8) × (l.shapes ≡ tab l.j (λ i. (type_at l.types i).shape) ++ drop l.j l.initial.shapes)
