use Rattle.std.proofs.Common.{sym, ◌∙◌}
use Rattle.scan.proofs.ByteLaw.{starts_none, starts-end, starts_more, starts-not}
use Rattle.scan.proofs.bytes.starts.Goals as goal
use Rattle.scan.proofs.bytes.starts.Goals.{then-rest-k-via-then-rest-k, then-rest-k-via-else-rest-k+then-rest-k-2}

pub returns-then-rest-k : goal.returns-then-rest-k
returns-then-rest-k c = rw (← c.tail-rest.ensures) (elim c.then-rest-k.branch [
  | then-rest-k-via-then-rest-k w ↦ sym (starts-end _ _ _ _ c.loop-k-test.true w.if-rest-k.true) ∙ c.loop-k.invariant
  | then-rest-k-via-else-rest-k+then-rest-k-2 w ↦ sym (starts-not _ _ _ _ c.loop-k-test.true w.if-rest-k.false (λ e. w.if-rest-k-2.true (sym e))) ∙ c.loop-k.invariant
])

pub loop-k-preserved : goal.loop-k-preserved
loop-k-preserved c = starts_more _ _ _ _ c.loop-k-test.true c.if-rest-k.false (sym c.if-rest-k-2.false) ∙ c.loop-k.invariant

pub returns : goal.returns
returns c = rw (← c.tail-rest.ensures) (sym (starts_none _ _ _ c.loop-k-test.false) ∙ c.loop-k.invariant)
