use Rattle.elementwise.proofs.FillLaw.{Done}
use Rattle.elementwise.specs.Elementwise.{compare_at}
use Rattle.elementwise.proofs.compare_into.Given as goal

abbrev pub invariant-loop-k : goal.invariant-loop-k
invariant-loop-k l = Done (compare_at l.d l.t l.x l.y) l.initial.out l.k l.out
