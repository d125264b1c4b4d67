use Rattle.cursor.specs.Cursor.{past_token}
use Rattle.cursor.proofs.past.Goals as goal

pub returns : goal.returns
unfolding past_token
returns c = simp (← c.after.ensures, ← c.token.ensures)
