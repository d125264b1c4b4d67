use Rattle.scope.proofs.ScopeLaw.{Inputs}
use Rattle.scope.proofs.after_inputs.Given as goal

abbrev pub invariant-loop-place : goal.invariant-loop-place
invariant-loop-place l = Inputs l.text l.fn.entries l.top l.fn.places l.place-index l.first l.entries
