use Prim.Native.Nat.{◌-◌}
use mathlib.Core.Path.{◌≡◌}
use lib.ListN.{length}
use Rattle.opwise.specs.Opwise.{ops_from}
use Rattle.opwise.proofs.first_refused.Given as goal

abbrev pub invariant-loop-k : goal.invariant-loop-k
invariant-loop-k l =
    (length l.stack ≡ length l.initial.stack) × (length l.entries ≡ length l.initial.entries) × (ops_from l.text l.p l.vs (l.p.count - l.k) l.k ≡ ops_from l.text l.p l.vs l.p.count 0)
