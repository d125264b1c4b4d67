use Rattle.scan.specs.Quantized.{float_end}
use Rattle.scan.proofs.quantized.float_end.Goals as goal

pub returns : goal.returns
unfolding float_end
returns c = simp (← c.integer_end.ensures, ← c.fraction_end.ensures, ← c.scientific_end.ensures)
