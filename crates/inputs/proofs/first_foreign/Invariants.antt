use Prim.Native.Nat.{◌≤◌}
use lib.ListN.{length}
use Rattle.dimrules.proofs.CountLaw.{Reached}
use Rattle.inputs.specs.Inputs.{input_slots, slot_fits}
use Rattle.inputs.proofs.first_foreign.Given as goal

abbrev pub invariant-loop-s : goal.invariant-loop-s
invariant-loop-s l = (l.s ≤ length l.inputs) × Reached (input_slots l.vs) (slot_fits l.vs l.inputs) l.s
