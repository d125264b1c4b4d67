use mathlib.Core.Path.{◌≡◌}
use lib.ListN.{drop}
use Rattle.scope.specs.Scope.{visible}
use Rattle.scope.proofs.is_visible.Given as goal

abbrev pub invariant-loop-i : goal.invariant-loop-i
invariant-loop-i l = visible l.text l.a (drop l.i l.entries) ≡ visible l.text l.a (drop l.top l.entries)
