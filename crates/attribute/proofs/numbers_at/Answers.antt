use Rattle.cursor.specs.Cursor.{cursor_after}
use Rattle.attribute.specs.Attribute.{numbers_at}
use Rattle.attribute.proofs.numbers_at.Goals as goal

pub returns : goal.returns
unfolding numbers_at cursor_after
returns c = simp (c.numbers_from.ensures, c.after.ensures, ← c.token_after.ensures)
