use Prim.Native.Nat.{◌≤◌}
use mathlib.Core.Path.{◌≡◌}
use mathlib.Core.List.{◌++◌}
use lib.ListN.{length, take, drop}
use Rattle.lists.specs.Lists.{tab}
use Rattle.shape.specs.Index.{unravel}
use Rattle.shape.specs.Dims.{dims_of}
use Rattle.run.specs.Tree.{fold}
use Rattle.scalar.specs.Body.{body_of}
use Rattle.reduction.specs.Rows.{row_for_index}
use Rattle.reduction.proofs.reduce.Given as goal

abbrev pub invariant-loop-k : goal.invariant-loop-k
invariant-loop-k l =
    (l.k ≤ length l.initial.out) × (l.out ≡ tab l.k (λ i. fold (body_of l.b l.t) l.start (row_for_index (take l.count l.dimensions) (dims_of l.from) l.x (unravel (dims_of l.to) i))) ++ drop l.k l.initial.out)
