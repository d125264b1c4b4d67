use Rattle.elementwise.proofs.FillLaw.{Done}
use Rattle.elementwise.specs.Elementwise.{select_at}
use Rattle.elementwise.proofs.select_into.Given as goal

abbrev pub invariant-loop-k : goal.invariant-loop-k
invariant-loop-k l = Done (select_at l.single l.pred l.x l.y) l.initial.out l.k l.out
