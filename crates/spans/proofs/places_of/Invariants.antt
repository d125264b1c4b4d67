use mathlib.Core.Path.{◌≡◌}
use mathlib.Core.List.{◌++◌}
use Prim.Native.Nat.{◌-◌, ◌≤◌}
use lib.ListN.{drop}
use Rattle.lists.specs.Lists.{tab}
use Rattle.spans.specs.Spans.{place_at}
use Rattle.spans.proofs.places_of.Given as goal

abbrev pub invariant-loop-j : goal.invariant-loop-j
invariant-loop-j l = (l.j ≤ 8) × (l.list ≡ tab l.j (place_at l.text l.op l.vs l.n) ++ drop l.j l.initial.list)

abbrev pub decreases-loop-j : goal.decreases-loop-j
decreases-loop-j l = 8 - l.j
