use Rattle.attribute.specs.Attribute.{number_at}
use Rattle.attribute.proofs.number_at.Goals as goal

pub returns : goal.returns
unfolding number_at
returns c = simp (← c.pattern_at.ensures, ← c.token_after.ensures)
