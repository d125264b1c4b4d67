use Prim.Native.Nat.{◌≤◌}
use native.Mathlib.Omega.{arith}
use Rattle.judge.specs.Sizes.{many_elements}
use Rattle.judge.proofs.TallyLaw.{elements-le}
use Rattle.judge.proofs.sizes.many_elements.Goals as goal

pub overflow_add-result : goal.overflow_add-result
overflow_add-result c =
    let l : c.elements_at.result ≤ 4096 = rw c.elements_at.ensures (elements-le _ _ _ _) in
    let w = c.requires.elements in
    omega arith

pub returns : goal.returns
unfolding many_elements
returns c = simp (← c.elements_at.ensures)
