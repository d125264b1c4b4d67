use Rattle.dimrules.proofs.CountLaw.{Reached}
use Rattle.dimrules.specs.Dims.{dim_test}
use Prim.Native.Nat.{◌≤◌, ◌-◌}
use Rattle.dimrules.proofs.first_dim.Given as goal

abbrev pub invariant-loop-d : goal.invariant-loop-d
invariant-loop-d l = (l.d ≤ l.count) × Reached l.count (dim_test l.t l.s) l.d

abbrev pub decreases-loop-d : goal.decreases-loop-d
decreases-loop-d l = l.count - l.d
