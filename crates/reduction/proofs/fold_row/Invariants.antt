use Prim.Native.Nat.{◌≤◌}
use mathlib.Core.Path.{◌≡◌}
use lib.ListN.{take, drop}
use Rattle.run.specs.Tree.{fold}
use Rattle.scalar.specs.Body.{body_of}
use Rattle.shape.specs.Index.{at}
use Rattle.shape.specs.Dims.{dims_of}
use Rattle.reduction.specs.Rows.{row_over}
use Rattle.reduction.proofs.fold_row.Given as goal

abbrev pub invariant-loop-q : goal.invariant-loop-q
invariant-loop-q l =
    (l.q ≤ l.n) × (fold (body_of l.b l.t) l.value (drop l.q (row_over (take l.count l.dimensions) (dims_of l.from) l.x (dims_of l.inner) (at l.j))) ≡ fold (body_of l.b l.t) l.start (row_over (take l.count l.dimensions) (dims_of l.from) l.x (dims_of l.inner) (at l.j)))
