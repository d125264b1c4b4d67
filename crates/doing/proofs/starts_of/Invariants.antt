use Rattle.elementwise.proofs.FillLaw.{Done}
use Rattle.doing.specs.Doing.{start_in}
use Rattle.doing.proofs.starts_of.Given as goal

abbrev pub invariant-loop-d : goal.invariant-loop-d
invariant-loop-d l = Done (start_in l.places l.slots) l.initial.starts l.d l.starts
