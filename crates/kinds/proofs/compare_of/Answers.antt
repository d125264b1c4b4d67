use mathlib.Core.Path.{refl}
use Rattle.optable.proofs.TableLaw.{direction-place}
use Rattle.kinds.proofs.compare_of.Goals as goal

pub returns : goal.returns
returns c = rw (direction-place, ← c.choice_of.ensures, ← c.direction_at.ensures) refl
