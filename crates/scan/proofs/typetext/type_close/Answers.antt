use Rattle.scan.specs.TensorText.{type_close}
use Rattle.scan.proofs.typetext.type_close.Goals as goal

pub returns : goal.returns
unfolding type_close
returns c = simp (← c.shape_end.ensures, ← c.element_end.ensures)
