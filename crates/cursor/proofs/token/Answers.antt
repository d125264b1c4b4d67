use Rattle.cursor.specs.Cursor.{token_of}
use Rattle.cursor.proofs.token.Goals as goal

pub returns : goal.returns
unfolding token_of
returns c = c.token_at.ensures
