use Prim.Native.Nat.{ℕ, ◌+◌, ◌-◌, ◌≤◌}
use mathlib.Core.Path.{◌≡◌}
use mathlib.Core.List.{List, ◌++◌}
use lib.ListN.{drop}
use lib.Dec.{ltb}
use Rattle.program.specs.declared.Program.{Program}
use Rattle.lists.specs.Lists.{pick, tab}
use Rattle.values.specs.declared.Value.{Value}
use Rattle.values.specs.Values.{no_value, inputs_of, ops_of, value_at}
use Rattle.values.proofs.values_in.Given as goal

abbrev pub each : List ℕ → Program → ℕ → Value
each text p i = pick (ltb i (inputs_of p + ops_of p)) (value_at text p i) no_value

abbrev pub invariant-loop-i : goal.invariant-loop-i
invariant-loop-i l = (l.i ≤ 264) × (l.list ≡ tab l.i (each l.text l.p) ++ drop l.i l.initial.list)

abbrev pub decreases-loop-i : goal.decreases-loop-i
decreases-loop-i l = 264 - l.i
