use mathlib.Core.Path.{◌≡◌}
use mathlib.Core.List.{◌++◌}
use Prim.Native.Nat.{◌-◌, ◌≤◌}
use lib.ListN.{drop}
use Rattle.lists.specs.Lists.{tab}
use Rattle.offsets.specs.Offsets.{offset_at}
use Rattle.offsets.proofs.offsets_of.Given as goal

abbrev pub invariant-loop-i : goal.invariant-loop-i
invariant-loop-i l = (l.i ≤ 264) × (l.list ≡ tab l.i (offset_at l.vs) ++ drop l.i l.initial.list) × (l.at ≡ offset_at l.vs l.i)

abbrev pub decreases-loop-i : goal.decreases-loop-i
decreases-loop-i l = 264 - l.i
