use Prim.Native.Nat.{◌≤◌}
use mathlib.Core.Path.{◌≡◌}
use lib.ListN.{length}
use Rattle.result_lines.proofs.ResultLaw.{Printed}
use Rattle.result_lines.proofs.print_lines.Given as goal

abbrev pub invariant-loop-j : goal.invariant-loop-j
invariant-loop-j l = (l.j ≤ l.j-end) × (length l.out ≡ length l.initial.out) × Printed l.text l.op l.vs l.store l.j l.place l.out l.initial.out
