use Rattle.optable.proofs.TableLaw.{value-place}
use Rattle.kinds.proofs.literal_of.Goals as goal

pub returns : goal.returns
returns c = rw (value-place, ← c.name_of.ensures, ← c.dense_at.ensures)
