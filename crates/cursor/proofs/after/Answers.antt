use mathlib.Core.Path.{refl}
use Rattle.cursor.specs.Cursor.{cursor_after}
use Rattle.cursor.proofs.after.Goals as goal

pub returns : goal.returns
unfolding cursor_after
returns c = refl
