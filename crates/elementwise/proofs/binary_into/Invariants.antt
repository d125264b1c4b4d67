use Rattle.elementwise.proofs.FillLaw.{Done}
use Rattle.elementwise.specs.Elementwise.{binary_at}
use Rattle.elementwise.proofs.binary_into.Given as goal

abbrev pub invariant-loop-k : goal.invariant-loop-k
invariant-loop-k l = Done (binary_at l.op l.t l.x l.y) l.initial.out l.k l.out
