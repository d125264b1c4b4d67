use Rattle.scan.specs.Quantized.{parameter_end}
use Rattle.scan.proofs.quantized.parameter_end.Goals as goal

pub returns : goal.returns
unfolding parameter_end
returns c = simp (← c.float_end.ensures, ← c.colon_end.ensures)
