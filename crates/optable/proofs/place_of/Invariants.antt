use mathlib.Core.Path.{◌≡◌}
use Prim.Native.Nat.{◌+◌, ◌≤◌}
use lib.ListN.{take, drop}
use Rattle.optable.specs.Table.{names}
use Rattle.optable.specs.Find.{name_place}
use Rattle.optable.proofs.place_of.Given as goal

abbrev pub invariant-loop-k : goal.invariant-loop-k
invariant-loop-k l = (l.k ≤ l.count) × (l.k + name_place (drop l.k (take l.count (drop l.first names))) l.bytes ≡ name_place (take l.count (drop l.first names)) l.bytes)
