use Rattle.elementwise.proofs.FillLaw.{Done}
use Rattle.elementwise.specs.Elementwise.{unary_at}
use Rattle.elementwise.proofs.unary_into.Given as goal

abbrev pub invariant-loop-k : goal.invariant-loop-k
invariant-loop-k l = Done (unary_at l.op l.t l.x) l.initial.out l.k l.out
