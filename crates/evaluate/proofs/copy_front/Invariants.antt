use mathlib.Core.Path.{◌≡◌}
use mathlib.Core.List.{◌++◌}
use lib.ListN.{drop, length, get_or}
use Rattle.lists.specs.Lists.{tab}
use Rattle.evaluate.proofs.copy_front.Given as goal

abbrev pub invariant-loop-k : goal.invariant-loop-k
invariant-loop-k l = (length l.out ≡ length l.initial.out) × (l.out ≡ tab l.k (λ j. get_or l.x j 0) ++ drop l.k l.initial.out)
