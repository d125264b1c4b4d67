use Prim.Native.Nat.{◌≤◌, ◌-◌}
use mathlib.Core.Path.{◌≡◌}
use Rattle.dimrules.proofs.CountLaw.{Reached}
use Rattle.operands.specs.Operands.{arity_of, operand_typed}
use Rattle.operands.proofs.first_untyped.Given as goal

abbrev pub invariant-loop-j : goal.invariant-loop-j
invariant-loop-j l = (l.arity ≡ arity_of l.op) × (l.j ≤ l.arity) × Reached (arity_of l.op) (operand_typed l.text l.op l.values.list l.n) l.j

abbrev pub decreases-loop-j : goal.decreases-loop-j
decreases-loop-j l = l.arity - l.j
