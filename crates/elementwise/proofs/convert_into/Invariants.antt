use Rattle.elementwise.proofs.FillLaw.{Done}
use Rattle.elementwise.specs.Elementwise.{convert_at}
use Rattle.elementwise.proofs.convert_into.Given as goal

abbrev pub invariant-loop-k : goal.invariant-loop-k
invariant-loop-k l = Done (convert_at l.from l.to l.x) l.initial.out l.k l.out
