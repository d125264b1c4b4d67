use Prim.Native.Nat.{◌≤◌, ◌*◌}
use mathlib.Core.Path.{◌≡◌}
use lib.ListN.{drop}
use Rattle.shape.specs.Index.{size, volume}
use Rattle.shape.proofs.size_of.Given as goal

abbrev pub invariant-loop-d : goal.invariant-loop-d
invariant-loop-d l = (l.n ≤ 4096) × (l.n * size (drop l.d-index l.d-items) ≡ size l.d-items) × (l.n * volume (drop l.d-index l.d-items) ≤ 4096)
