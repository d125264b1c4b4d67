use Rattle.dimrules.proofs.CountLaw.{Reached}
use Rattle.dimrules.specs.Types.{operand_test}
use Prim.Native.Nat.{◌≤◌, ◌-◌}
use Rattle.dimrules.proofs.first_type.Given as goal

abbrev pub invariant-loop-j : goal.invariant-loop-j
invariant-loop-j l = (l.j ≤ l.n) × Reached l.n (operand_test l.t l.k l.x l.types l.from) l.j

abbrev pub decreases-loop-j : goal.decreases-loop-j
decreases-loop-j l = l.n - l.j
