use Rattle.attribute.specs.Attribute.{dense_tokens}
use Rattle.attribute.proofs.dense_at.Goals as goal

pub returns : goal.returns
unfolding dense_tokens
returns c = simp (← c.token_after.ensures, ← c.close_of-close.ensures, ← c.token_after-literal.ensures)
