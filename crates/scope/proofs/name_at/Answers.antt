use native.Mathlib.Omega.{arith}
use Rattle.text.proofs.TokenLaw.{token-after, token-ordered}
use Rattle.scope.specs.Scope.{name_at}
use Rattle.scope.proofs.name_at.Goals as goal

pub overflow_sub-result : goal.overflow_sub-result
overflow_sub-result c =
    let a = c.args in
    let x = token-after a.text.now a.a in
    let y = token-ordered a.text.now a.a in
    rw c.token_at.ensures (omega arith)

pub returns : goal.returns
unfolding name_at
returns c = simp (← c.token_at.ensures)
