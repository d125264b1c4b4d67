use mathlib.Core.Path.{sym}
use Rattle.optable.specs.Table.{direction_at, said_at, choices}
use Rattle.optable.proofs.TableLaw.{direction-past}
use Rattle.optable.proofs.direction_at.Goals as goal

pub returns-then-k-lt-NONE : goal.returns-then-k-lt-NONE
unfolding direction_at said_at choices
returns-then-k-lt-NONE c = c.direction_said.ensures

pub returns : goal.returns
unfolding choices
returns c = sym (direction-past _ c.if-k-lt-NONE.false)
