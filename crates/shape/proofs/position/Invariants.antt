use Prim.Native.Nat.{◌≤◌, ◌*◌, ◌+◌}
use mathlib.Core.Path.{◌≡◌}
use lib.ListN.{length, take, drop}
use Rattle.shape.specs.Index.{size, ravel, rest}
use Rattle.shape.proofs.position.Given as goal

abbrev pub invariant-loop-d : goal.invariant-loop-d
invariant-loop-d l =
    (l.d ≤ l.s.rank) × (l.s.rank ≤ length l.s.dims) × (l.p ≤ 4096) × (l.p * size (rest l.s.dims l.s.rank l.d) + ravel (rest l.s.dims l.s.rank l.d) (drop l.d l.index) ≡ ravel (take l.s.rank l.s.dims) l.index)
