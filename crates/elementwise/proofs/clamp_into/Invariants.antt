use Rattle.elementwise.proofs.FillLaw.{Done}
use Rattle.elementwise.specs.Elementwise.{clamp_at}
use Rattle.elementwise.proofs.clamp_into.Given as goal

abbrev pub invariant-loop-k : goal.invariant-loop-k
invariant-loop-k l = Done (clamp_at l.t l.one l.other l.min l.x l.max) l.initial.out l.k l.out
