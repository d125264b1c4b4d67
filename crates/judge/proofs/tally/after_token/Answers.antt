use Prim.Native.Nat.{◌≤◌}
use native.Mathlib.Omega.{arith}
use Rattle.judge.specs.Tally.{after_token}
use Rattle.judge.proofs.TallyLaw.{elements-le}
use Rattle.judge.proofs.tally.after_token.Goals as goal

pub overflow_add-result : goal.overflow_add-result
overflow_add-result c =
    let l : c.elements_at.result ≤ 4096 = rw c.elements_at.ensures (elements-le _ _ _ _) in
    let w = c.requires.elements in
    omega arith

pub returns : goal.returns
unfolding after_token
returns c = simp (← c.depth_after.ensures, ← c.ops_after.ensures, ← c.elements_at.ensures, ← c.items_after.ensures)
