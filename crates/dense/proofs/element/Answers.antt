use Rattle.laid.proofs.LaidLaw.{lay-none, lay-one}
use Rattle.dense.specs.Dense.{one_at}
use Rattle.dense.specs.Filled.{after}
use Rattle.dense.proofs.element.Goals as goal

pub returns-in-Some : goal.returns-in-Some
unfolding after one_at
returns-in-Some c = simp (lay-one, ← c.put.ensures, ← c.token_at-t.ensures, ← c.in-Some.ensures)

pub returns-in-None : goal.returns-in-None
unfolding after one_at
returns-in-None c = simp (lay-none, ← c.token_at-t.ensures, ← c.in-None.ensures)
