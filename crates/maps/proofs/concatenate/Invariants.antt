use Prim.Native.Nat.{◌≤◌}
use mathlib.Core.Path.{◌≡◌}
use mathlib.Core.List.{◌++◌}
use lib.ListN.{drop, length}
use Rattle.lists.specs.Lists.{tab}
use Rattle.shape.specs.Index.{unravel}
use Rattle.shape.specs.Dims.{dims_of}
use Rattle.maps.specs.Concatenation.{concat_at, shapes_of, inputs_in}
use Rattle.maps.proofs.concatenate.Given as goal

abbrev pub invariant-loop-k : goal.invariant-loop-k
invariant-loop-k l =
    (l.k ≤ length l.initial.out) × (l.out ≡ tab l.k (λ j. concat_at l.dimension (shapes_of l.shapes l.count) (inputs_in l.x l.shapes l.places l.count) (unravel (dims_of l.to) j)) ++ drop l.k l.initial.out)
