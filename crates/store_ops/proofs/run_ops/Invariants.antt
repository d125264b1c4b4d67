use mathlib.Core.Path.{◌≡◌}
use lib.ListN.{length, take}
use Rattle.inputs.specs.Inputs.{input_slots}
use Rattle.evaluation.specs.State.{State}
use Rattle.store_ops.proofs.run_ops.Given as goal

abbrev pub invariant-loop-k : goal.invariant-loop-k
invariant-loop-k l =
    (length l.done ≡ length l.initial.done) × (length l.store ≡ length l.initial.store) × State l.text (take (input_slots l.vs) l.initial.store) l.initial.store l.k l.done l.store
