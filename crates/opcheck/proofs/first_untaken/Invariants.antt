use Rattle.dimrules.proofs.CountLaw.{Reached}
use Rattle.opcheck.specs.Judged.{taken_at}
use Prim.Native.Nat.{◌≤◌, ◌-◌}
use Rattle.opcheck.proofs.first_untaken.Given as goal

abbrev pub invariant-loop-j : goal.invariant-loop-j
invariant-loop-j l = (l.j ≤ l.o.arity) × Reached l.o.arity (taken_at l.row l.o) l.j

abbrev pub decreases-loop-j : goal.decreases-loop-j
decreases-loop-j l = l.o.arity - l.j
