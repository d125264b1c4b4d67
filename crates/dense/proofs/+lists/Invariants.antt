use mathlib.Core.Path.{◌≡◌}
use Prim.Native.Nat.{◌-◌}
use lib.ListN.{length}
use lib.Dec.{eqb}
use Rattle.shape.specs.Index.{rest}
use Rattle.laid.specs.Laid.{laid}
use Rattle.dense.specs.Dense.{items_at, dense_at}
use Rattle.dense.specs.Filled.{after}
use Rattle.dense.proofs.+lists.Given as goal

abbrev pub invariant-loop-j : goal.invariant-loop-j
invariant-loop-j l =
    (length l.out ≡ length l.initial.out)
    × (after (items_at (λ b. dense_at l.e (rest l.shape.dims l.shape.rank (l.shape.rank - (l.k - 1))) l.text b) (l.size - l.j) (eqb l.j 0) l.text l.here.next) (laid l.here.place l.out)
    ≡ after (dense_at l.e (rest l.shape.dims l.shape.rank (l.shape.rank - l.k)) l.text l.at) (laid l.from l.initial.out))

abbrev pub decreases-lists : goal.decreases-lists
decreases-lists l = l.k
