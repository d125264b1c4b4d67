use Prim.Native.Nat.{◌≤◌, ◌*◌, min}
use mathlib.Core.Path.{◌≡◌}
use lib.ListN.{drop}
use Rattle.shape.specs.Index.{volume}
use Rattle.shape.proofs.volume_of.Given as goal

abbrev pub invariant-loop-d : goal.invariant-loop-d
invariant-loop-d l = (1 ≤ l.n) × (l.n ≤ 4097) × (min (l.n * volume (drop l.d-index l.d-items)) 4097 ≡ min (volume l.d-items) 4097)
