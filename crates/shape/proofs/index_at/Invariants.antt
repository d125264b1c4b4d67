use Prim.Native.Nat.{◌≤◌, ◌<◌}
use mathlib.Core.Path.{◌≡◌}
use mathlib.Core.List.{◌++◌}
use lib.ListN.{length, take, drop, get_or, replicate}
use Rattle.lists.specs.Lists.{tab}
use Rattle.shape.specs.Index.{size, unravel, rest}
use Rattle.shape.proofs.index_at.Given as goal

abbrev pub invariant-loop-d : goal.invariant-loop-d
invariant-loop-d l =
    (l.d ≤ l.s.rank) × (l.s.rank ≤ length l.s.dims) × (l.step ≡ size (rest l.s.dims l.s.rank l.d)) × (l.left < l.step)
    × (drop l.d (unravel (take l.s.rank l.s.dims) l.k) ≡ unravel (rest l.s.dims l.s.rank l.d) l.left)
    × (l.index ≡ tab l.d (λ j. get_or (unravel (take l.s.rank l.s.dims) l.k) j 0) ++ drop l.d (replicate 6 0))
