use mathlib.Core.Path.{◌≡◌}
use Prim.Native.Nat.{◌+◌}
use lib.ListN.{drop}
use Rattle.scope.specs.Scoped.{waiting_count}
use Rattle.scope.proofs.waiting_end.Given as goal

abbrev pub invariant-loop-i : goal.invariant-loop-i
invariant-loop-i l = l.i + waiting_count (drop l.i l.entries) ≡ l.top + waiting_count (drop l.top l.entries)
