use mathlib.Core.Path.{◌≡◌}
use Prim.Native.Nat.{◌≤◌}
use lib.ListN.{length, drop}
use Rattle.scope.specs.Scope.{forget}
use Rattle.scope.proofs.forget_body.Given as goal

abbrev pub invariant-loop-i : goal.invariant-loop-i
invariant-loop-i l = (forget (drop l.i l.entries) ≡ forget (drop l.top l.entries)) × (l.top ≤ l.i) × (l.i ≤ length l.entries)
