use mathlib.Core.Path.{◌≡◌}
use mathlib.Core.List.{[], ◌∷◌, ◌++◌}
use lib.Dec.{eqb}
use lib.ListN.{length, drop}
use Rattle.shape.specs.Index.{size, rest}
use Rattle.laid.specs.Laid.{laid, lay}
use Rattle.printed.specs.Printed.{items_text, value_text}
use Prim.Native.Nat.{◌+◌, ◌-◌, ◌*◌}
use Rattle.printed.proofs.+put_lists.Given as goal

abbrev pub invariant-loop-j : goal.invariant-loop-j
invariant-loop-j l =
    (length l.out ≡ length l.initial.out) × (l.here + (l.count - l.j) * size (rest l.shape.dims l.shape.rank (l.shape.rank - (l.k - 1))) ≡ l.slot + size (rest l.shape.dims l.shape.rank (l.shape.rank - l.k)))
    × (lay (items_text (λ s. value_text l.e (rest l.shape.dims l.shape.rank (l.shape.rank - (l.k - 1))) s) (size (rest l.shape.dims l.shape.rank (l.shape.rank - (l.k - 1)))) (l.count - l.j) (eqb l.j 0) (drop l.here l.slots) ++ (93 ∷ [])) (laid l.place l.out)
    ≡ lay (items_text (λ s. value_text l.e (rest l.shape.dims l.shape.rank (l.shape.rank - (l.k - 1))) s) (size (rest l.shape.dims l.shape.rank (l.shape.rank - (l.k - 1)))) (l.count - 0) (eqb 0 0) (drop l.slot l.slots) ++ (93 ∷ [])) (laid l.initial.place l.initial.out))

abbrev pub decreases-put_lists : goal.decreases-put_lists
decreases-put_lists l = l.k
