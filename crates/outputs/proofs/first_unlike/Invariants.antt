use Prim.Native.Nat.{◌≤◌, ◌-◌}
use mathlib.Core.Path.{◌≡◌}
use Rattle.dimrules.proofs.CountLaw.{Reached}
use Rattle.operands.specs.Operands.{arity_of}
use Rattle.outputs.specs.Outputs.{returned_at}
use Rattle.outputs.proofs.first_unlike.Given as goal

abbrev pub invariant-loop-j : goal.invariant-loop-j
invariant-loop-j l = (l.arity ≡ arity_of l.op) × (l.j ≤ l.arity) × Reached (arity_of l.op) (returned_at l.text l.op l.header) l.j

abbrev pub decreases-loop-j : goal.decreases-loop-j
decreases-loop-j l = l.arity - l.j
