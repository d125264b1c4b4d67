use Prim.Native.Nat.{◌≤◌}
use mathlib.Core.Path.{◌≡◌}
use lib.ListN.{length, take}
use Rattle.shape.specs.Index.{at, in_six}
use Rattle.shape.specs.Place.{is_in}
use Rattle.reduction.specs.Rows.{collect}
use Rattle.reduction.proofs.slice_shape.Given as goal

abbrev pub invariant-loop-d : goal.invariant-loop-d
invariant-loop-d l =
    let c = collect l.d (is_in (take l.count l.dimensions)) (at l.from.dims) in
    (l.d ≤ l.from.rank) × (l.n ≡ length c) × (l.taken ≡ in_six c) × (length l.taken ≡ 6)
