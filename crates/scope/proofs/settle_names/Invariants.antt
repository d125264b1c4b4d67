use Rattle.scope.proofs.ScopeLaw.{Settling}
use Rattle.scope.proofs.settle_names.Given as goal

abbrev pub invariant-loop-k : goal.invariant-loop-k
invariant-loop-k l = Settling l.text l.fn.entries l.top l.k l.entries
