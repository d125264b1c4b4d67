use Prim.Native.Nat.{◌≤◌}
use Rattle.inputs.proofs.InputsLaw.{Past}
use Rattle.inputs.proofs.input_of.Given as goal

abbrev pub invariant-loop-i : goal.invariant-loop-i
invariant-loop-i l = (l.i ≤ l.vs.inputs) × Past l.vs l.s l.i
