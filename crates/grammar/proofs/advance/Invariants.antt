use mathlib.Core.Path.{◌≡◌}
use Rattle.grammar.proofs.StepLaw.{Sought}
use Rattle.grammar.proofs.advance.Given as goal

abbrev pub invariant-loop-i : goal.invariant-loop-i
invariant-loop-i l = (l.stack ≡ l.fn.stack) × Sought l.stack l.top l.kind l.i
