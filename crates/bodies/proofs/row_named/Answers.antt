use mathlib.Core.Path.{◌∙◌}
use Rattle.optable.specs.Table.{ops}
use Rattle.bodies.specs.Bodies.{row_named}
use Rattle.bodies.proofs.row_named.Goals as goal

pub returns : goal.returns
unfolding row_named ops
returns c = c.unwrap_or.ensures ∙ c.find_op.ensures.found ∙ simp (← c.token_at-name.ensures)
