use Prim.Native.Nat.{◌≤◌, ◌-◌}
use mathlib.Core.Path.{◌≡◌}
use lib.ListN.{drop}
use Rattle.maps.specs.Concatenation.{concat_from, concat_at, shapes_of, inputs_in}
use Rattle.maps.proofs.concat_element.Given as goal

abbrev pub invariant-loop-j : goal.invariant-loop-j
invariant-loop-j l =
    (l.j ≤ l.count) × (concat_from l.dimension l.index (drop l.j (shapes_of l.shapes l.count)) (drop l.j (inputs_in l.x l.shapes l.places l.count)) l.t ≡ concat_at l.dimension (shapes_of l.shapes l.count) (inputs_in l.x l.shapes l.places l.count) l.index)

abbrev pub decreases-loop-j : goal.decreases-loop-j
decreases-loop-j l = l.count - l.j
